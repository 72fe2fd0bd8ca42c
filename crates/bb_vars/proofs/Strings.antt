-- A string that is filled up with zero bytes ends before the first of them.
use Rattle.std.proofs.Common.{◌≡◌, ℕ, zero, suc, ◌+◌, ◌-◌, ◌<◌, ◌≤◌, ◌==◌, Bool, true, false, not, nat_lt, ◌||◌, cond, if◌then◌else◌, List, [], ◌∷◌, ◌++◌, Result, Ok, Err, length, take, get_or, replicate, arith, refl, sym, ap, ◌∙◌, All, ◌⊎◌, inl, inr, length-append, append-nil}
use Rattle.std.proofs.lemmas.List.{length-replicate}
use Rattle.std.proofs.lemmas.Bool.{cases_lt, eqb-true}
use Rattle.std.proofs.lemmas.Bool.Decides.{nat_tests}
use Rattle.std.proofs.lemmas.Grind.{common_steps}
use Rattle.std.proofs.lemmas.List.Sums.{prefix_len-le-length, split_at_first, passes_at_first}
use Rattle.std.proofs.Math.Seq.{take-append_seam, take-length}
use Rattle.std.specs.List.{list_any, position_or_len, before_first, after_first}
use Rattle.bb_vars.specs.declared.value_error.ValueError.{ValueError}
use Rattle.bb_vars.specs.declared.value_error.ValueError.TheVariants.{TooLong, HasZeroByte}
use Rattle.bb_vars.specs.Value.{chars_bytes}

abbrev is_zero : ℕ → Bool
is_zero c = c == 0

-- ---- a string that was read

or_parts : (a b : Bool) → (a || b) ≡ false → (a ≡ false) × (b ≡ false)
or_parts false b h = (refl, h)
or_parts true b h = absurd (cc)

length_before : (text : List ℕ) (n : ℕ) → list_any is_zero text ≡ false → position_or_len is_zero (text ++ replicate n 0) ≡ length text
length_before [] zero none = refl
length_before [] (suc n) none = refl
length_before (c ∷ text) n none =
    let parts = or_parts (is_zero c) (list_any is_zero text) none in
    let rest = length_before text n parts.1 in
    rw (parts.0, rest) (omega arith)

before_first-filled : (text : List ℕ) (n : ℕ) → list_any is_zero text ≡ false → before_first is_zero (text ++ replicate n 0) ≡ text
before_first-filled text n none =
    ap (λ k. take k (text ++ replicate n 0)) (length_before text n none) ∙ take-append_seam text (replicate n 0)

kept_by_cases : (long has_zero : Bool) (filled value : List ℕ)
    → cond {A = Result (List ℕ) ValueError} long (Err TooLong) (cond {A = Result (List ℕ) ValueError} has_zero (Err HasZeroByte) (Ok filled)) ≡ Ok value
    → (long ≡ false) × (has_zero ≡ false) × (value ≡ filled)
kept_by_cases true has_zero filled value h = absurd (cc)
kept_by_cases false true filled value h = absurd (cc)
kept_by_cases false false filled value h = (refl, refl, cc)

-- a string that was read is not too long, has no zero byte, and is filled up
pub chars_read : (size : ℕ) (text value : List ℕ) → chars_bytes size text ≡ Ok value
    → (nat_lt size (length text) ≡ false) × (list_any is_zero text ≡ false) × (value ≡ text ++ replicate (size - length text) 0)
chars_read size text value h =
    kept_by_cases (nat_lt size (length text)) (list_any is_zero text) (text ++ replicate (size - length text) 0) value h

pub chars_print : (size : ℕ) (text value : List ℕ) → chars_bytes size text ≡ Ok value → before_first is_zero value ≡ text
chars_print size text value h =
    let read = chars_read size text value h in
    ap (before_first is_zero) read.2 ∙ before_first-filled text (size - length text) read.1

pub chars_sized : (size : ℕ) (text value : List ℕ) → chars_bytes size text ≡ Ok value → length value ≡ size
chars_sized size text value h =
    let read = chars_read size text value h in
    let short : length text ≤ size = let test = read.0 in grind (arith, nat_tests) in
    ap length read.2 ∙ omega (arith, length-append text (replicate (size - length text) 0), length-replicate {A = ℕ} (size - length text) 0)

-- ---- a string that is printed

no_zero_step : (found : Bool) (p : ℕ → Bool) (x : ℕ) (xs : List ℕ) → p x ≡ found → list_any p (take (position_or_len p xs) xs) ≡ false
    → list_any p (take (position_or_len p (x ∷ xs)) (x ∷ xs)) ≡ false
no_zero_step true p x xs here before = rw here
no_zero_step false p x xs here before =
    let one : 1 + position_or_len p xs ≡ suc (position_or_len p xs) = omega arith in
    rw (here, one, here) before

no_zero_in : (p : ℕ → Bool) (xs : List ℕ) → list_any p (take (position_or_len p xs) xs) ≡ false
no_zero_in p [] = refl
no_zero_in p (x ∷ xs) = no_zero_step (p x) p x xs refl (no_zero_in p xs)

zeros_are : (xs : List ℕ) → All (λ c. c ≡ 0) xs → xs ≡ replicate (length xs) 0
zeros_are [] all = refl
zeros_are (x ∷ xs) all =
    let first : x ≡ 0 = all 0 0 (omega arith) in
    let rest = zeros_are xs (λ k d h. all (suc k) d (omega arith)) in
    ap (λ c. c ∷ xs) first ∙ ap (λ cs. 0 ∷ cs) rest

filled_inside : (front after : List ℕ) (value : List ℕ) → value ≡ front ++ (0 ∷ after) → All (λ c. c ≡ 0) after
    → front ++ replicate (length value - length front) 0 ≡ value
filled_inside front after value whole zeros =
    let long : length value - length front ≡ suc (length after) = omega (arith, ap length whole, length-append front (0 ∷ after)) in
    rw long (ap (λ cs. front ++ (0 ∷ cs)) (sym (zeros_are after zeros)) ∙ sym whole)

filled_past : (value : List ℕ) → length value ≤ position_or_len is_zero value
    → before_first is_zero value ++ replicate (length value - length (before_first is_zero value)) 0 ≡ value
filled_past value past =
    let all : position_or_len is_zero value ≡ length value = omega (arith, prefix_len-le-length (λ c. not (is_zero c)) value) in
    let front : before_first is_zero value ≡ value = ap (λ k. take k value) all ∙ take-length value in
    let none : length value - length value ≡ 0 = omega arith in
    ap (λ f. f ++ replicate (length value - length f) 0) front ∙ rw none (append-nil value)

filled_by_cases : (value : List ℕ) → (position_or_len is_zero value < length value) ⊎ (length value ≤ position_or_len is_zero value)
    → All (λ c. c ≡ 0) (after_first is_zero value)
    → before_first is_zero value ++ replicate (length value - length (before_first is_zero value)) 0 ≡ value
filled_by_cases value (inl inside) zeros =
    let zero_there : get_or value (position_or_len is_zero value) 0 ≡ 0 = eqb-true _ 0 (passes_at_first is_zero value 0 inside) in
    let whole = split_at_first is_zero value 0 inside in
    filled_inside (before_first is_zero value) (after_first is_zero value) value
    (whole ∙ ap (λ c. before_first is_zero value ++ (c ∷ after_first is_zero value)) zero_there) zeros
filled_by_cases value (inr past) zeros = filled_past value past

pub chars_bytes-before_first : (size : ℕ) (value : List ℕ) → length value ≡ size → All (λ c. c ≡ 0) (after_first is_zero value)
    → chars_bytes size (before_first is_zero value) ≡ Ok value
chars_bytes-before_first size value sized zeros =
    let front = before_first is_zero value in
    let short : nat_lt size (length front) ≡ false = grind (arith, common_steps, nat_tests) in
    let filled = filled_by_cases value (cases_lt (position_or_len is_zero value) (length value)) zeros in
    ap (λ b. if b then Err TooLong else if list_any is_zero front then Err HasZeroByte else Ok (front ++ replicate (size - length front) 0)) short
    ∙ ap (λ b. if b then Err HasZeroByte else Ok (front ++ replicate (size - length front) 0)) (no_zero_in is_zero value)
    ∙ ap (λ n. Ok (front ++ replicate (n - length front) 0)) (sym sized)
    ∙ ap (λ bytes. Ok bytes) filled
