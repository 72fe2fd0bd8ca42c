-- Options that are kept, and results one after another.
use Rattle.std.specs.Prelude.{Bool, List, [], ◌∷◌, Option, Some, None, Result, Ok, Err, if◌then◌else◌, option_and_then}

-- the value, where it passes
abbrev pub option_filter : {A : Type 0} → (A → Bool) → Option A → Option A
option_filter p found = option_and_then (λ x. if p x then Some x else None) found

-- the second result, where the first is Ok
abbrev pub result_and_then : {A B E : Type 0} → (A → Result B E) → Result A E → Result B E
result_and_then next (Ok x) = next x
result_and_then next (Err e) = Err e

-- all values, or the first error
abbrev pub all_ok : {A E : Type 0} → List (Result A E) → Result (List A) E
all_ok [] = Ok []
all_ok (r ∷ rs) = result_and_then (λ x. result_and_then (λ xs. Ok (x ∷ xs)) (all_ok rs)) r
