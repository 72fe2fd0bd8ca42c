-- The reservation list, pair by pair.
use Rattle.std.proofs.Common.{◌≡◌, ℕ, ◌<◌, ◌≤◌, ◌==◌, ◌&&◌, true, false, nat_lt, suc, zero, List, [], ◌∷◌, length, drop, ◌++◌, Option, Some, None, refl, sym, ap, ◌∙◌, arith, append_assoc}
use Rattle.std.proofs.lemmas.Bool.Decides.{nat_tests}
use Rattle.std.specs.Option.{option_map}
use Rattle.bb_fdt.specs.Reading.{pairs_in, pair_before, double_word_at}

pairs_in-skip : (skip : ℕ) (text : List ℕ) → pairs_in skip text ≡ pairs_in 0 (drop skip text)
unfolding pairs_in
pairs_in-skip zero [] = refl
pairs_in-skip zero (b ∷ tail) = refl
pairs_in-skip (suc skip) [] = refl
pairs_in-skip (suc skip) (b ∷ tail) = pairs_in-skip skip tail

-- one pair, before those after it
pub pairs_step : (text : List ℕ) → pairs_in 0 text ≡ pair_before text (pairs_in 0 (drop 16 text))
unfolding pairs_in
pairs_step [] = refl
pairs_step (b ∷ tail) = ap (pair_before (b ∷ tail)) (pairs_in-skip 15 tail)

-- a pair that is read joins those in front
pub push_pair : (pairs : List (ℕ × ℕ)) (p : ℕ × ℕ) (behind : Option (List (ℕ × ℕ))) → option_map (λ more. pairs ++ more) (option_map (λ more. p ∷ more) behind) ≡ option_map (λ more. (pairs ++ p ∷ []) ++ more) behind
push_pair pairs p None = refl
push_pair pairs p (Some more) = ap Some (sym (append_assoc pairs (p ∷ []) more))

pub pairs-cut : (text : List ℕ) → length text < 16 → pairs_in 0 text ≡ None
pairs-cut text short = let test : nat_lt (length text) 16 ≡ true = grind (arith, nat_tests) in pairs_step text ∙ rw test refl

pub pairs-end : (text : List ℕ) → 16 ≤ length text → ((double_word_at 0 text == 0) && (double_word_at 8 text == 0)) ≡ true → pairs_in 0 text ≡ Some []
pairs-end text long zeros = let test : nat_lt (length text) 16 ≡ false = grind (arith, nat_tests) in pairs_step text ∙ rw (test, zeros) refl

pub pairs-more : (text : List ℕ) → 16 ≤ length text → ((double_word_at 0 text == 0) && (double_word_at 8 text == 0)) ≡ false → pairs_in 0 text ≡ option_map (λ more. (double_word_at 0 text, double_word_at 8 text) ∷ more) (pairs_in 0 (drop 16 text))
pairs-more text long some = let test : nat_lt (length text) 16 ≡ false = grind (arith, nat_tests) in pairs_step text ∙ rw (test, some) refl
