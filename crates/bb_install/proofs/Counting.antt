-- Numbers of erases that are one more each.
use Rattle.std.proofs.Common.{◌≡◌, ℕ, zero, suc, ◌+◌, ◌∙◌, List, [], ◌∷◌, Option, Some, None, ap, sym, refl, arith, option_map}
use Rattle.std.specs.Prelude.{slice_index, slice_set}
use Rattle.bb_install.specs.Writing.{counted_once}

counted_none : (first : ℕ) (numbers : List ℕ) → counted_once first 0 numbers ≡ numbers
counted_none first [] = refl
counted_none zero (n ∷ numbers) = refl
counted_none (suc first) (n ∷ numbers) = ap (λ (rest : List ℕ). n ∷ rest) (counted_none first numbers)

-- one number is one more
pub set_counted : (place : ℕ) (numbers : List ℕ) → slice_set numbers place (slice_index numbers place + 1) ≡ counted_once place 1 numbers
set_counted place [] = refl
set_counted zero (n ∷ numbers) = ap (λ (rest : List ℕ). (n + 1) ∷ rest) (sym (counted_none 0 numbers))
set_counted (suc place) (n ∷ numbers) = ap (λ (rest : List ℕ). n ∷ rest) (set_counted place numbers)

counted_more : (first count place : ℕ) (numbers : List ℕ) → place ≡ first + count → counted_once place 1 (counted_once first count numbers) ≡ counted_once first (suc count) numbers
counted_more first count place [] e = refl
counted_more zero zero zero (n ∷ numbers) e = refl
counted_more zero zero (suc place) (n ∷ numbers) e = absurd (omega arith)
counted_more zero (suc count) zero (n ∷ numbers) e = absurd (omega arith)
counted_more zero (suc count) (suc place) (n ∷ numbers) e = ap (λ (rest : List ℕ). (n + 1) ∷ rest) (counted_more zero count place numbers (omega arith))
counted_more (suc first) count zero (n ∷ numbers) e = absurd (omega arith)
counted_more (suc first) count (suc place) (n ∷ numbers) e = ap (λ (rest : List ℕ). n ∷ rest) (counted_more first count place numbers (omega arith))

map_once : (f g h : List ℕ → List ℕ) (o : Option (List ℕ)) → ((numbers : List ℕ) → f (g numbers) ≡ h numbers) → option_map f (option_map g o) ≡ option_map h o
map_once f g h None same = refl
map_once f g h (Some numbers) same = ap Some (same numbers)

-- where no block was erased
pub erases_none : (first : ℕ) (o : Option (List ℕ)) → option_map (counted_once first 0) o ≡ o
erases_none first None = refl
erases_none first (Some numbers) = ap Some (counted_none first numbers)

-- one block more
pub erases_more : (first count place next : ℕ) (one two three : Option (List ℕ)) → place ≡ first + count → next ≡ suc count → two ≡ option_map (counted_once first count) one → three ≡ option_map (counted_once place 1) two → three ≡ option_map (counted_once first next) one
erases_more first count place next one two three e n early late =
    late ∙ ap (λ (o : Option (List ℕ)). option_map (counted_once place 1) o) early
    ∙ map_once (counted_once place 1) (counted_once first count) (counted_once first (suc count)) one (λ numbers. counted_more first count place numbers e)
    ∙ ap (λ (k : ℕ). option_map (counted_once first k) one) (sym n)
