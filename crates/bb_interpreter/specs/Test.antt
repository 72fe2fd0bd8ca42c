-- The status of `test`: of its forms in POSIX those of two words and of three that compare
-- (IEEE Std 1003.1-2017, `test`).
use Rattle.std.specs.Prelude.{ℕ, ◌==◌, ◌-◌, Bool, true, false, not, List, [], ◌∷◌, codes, get_or, length, nat_le, nat_lt, take, Option, Some, None, Result, Ok, Err, if◌then◌else◌}
use Rattle.std.specs.Str.{bytes_eq}
use Rattle.bb_base.specs.declared.number.NumberError.{NumberError}
use Rattle.bb_base.specs.Number.{number_of}
use Rattle.bb_interpreter.specs.declared.test_words.Comparison.{Comparison}
use Rattle.bb_interpreter.specs.declared.test_words.Comparison.TheVariants.{Equal, NotEqual, Less, LessOrEqual, Greater, GreaterOrEqual}

abbrev pub truth_status : Bool → ℕ
truth_status true = 0
truth_status false = 1

-- ---- numbers

abbrev pub comparison_of : List ℕ → Option Comparison
comparison_of op =
    if bytes_eq op (codes "-eq") then Some Equal else (
    if bytes_eq op (codes "-ne") then Some NotEqual else (
    if bytes_eq op (codes "-lt") then Some Less else (
    if bytes_eq op (codes "-le") then Some LessOrEqual else (
    if bytes_eq op (codes "-gt") then Some Greater else (
    if bytes_eq op (codes "-ge") then Some GreaterOrEqual else None)))))

abbrev pub number_holds : Comparison → ℕ → ℕ → Bool
number_holds Equal one two = one == two
number_holds NotEqual one two = not (one == two)
number_holds Less one two = nat_lt one two
number_holds LessOrEqual one two = nat_le one two
number_holds Greater one two = nat_lt two one
number_holds GreaterOrEqual one two = nat_le two one

-- both words have to be numbers
abbrev pub spelt_status : Comparison → Result ℕ NumberError → Result ℕ NumberError → ℕ
spelt_status comparison (Ok one) (Ok two) = truth_status (number_holds comparison one two)
spelt_status comparison (Ok one) (Err e) = 2
spelt_status comparison (Err e) two = 2

abbrev pub numbers_status : Option Comparison → List ℕ → List ℕ → ℕ
numbers_status None one two = 2
numbers_status (Some comparison) one two = spelt_status comparison (number_of one) (number_of two)

-- ---- words

abbrev pub is_nothing : List ℕ → Bool
is_nothing [] = true
is_nothing (c ∷ later) = false

abbrev pub lengths_status : List ℕ → List ℕ → ℕ
lengths_status op word =
    if bytes_eq op (codes "-z") then truth_status (is_nothing word) else (
    if bytes_eq op (codes "-n") then truth_status (not (is_nothing word)) else 2)

abbrev pub pair_status : List ℕ → List ℕ → List ℕ → ℕ
pair_status one op two =
    if bytes_eq op (codes "=") then truth_status (bytes_eq one two) else (
    if bytes_eq op (codes "!=") then truth_status (not (bytes_eq one two)) else
    numbers_status (comparison_of op) one two)

abbrev pub test_status : List (List ℕ) → ℕ
test_status [] = 2
test_status (word ∷ []) = 2
test_status (op ∷ word ∷ []) = lengths_status op word
test_status (one ∷ op ∷ two ∷ []) = pair_status one op two
test_status (one ∷ op ∷ two ∷ more ∷ later) = 2

-- `[` is `test` with a last word `]`
abbrev pub brackets_status : List (List ℕ) → ℕ
brackets_status words =
    let n = length words - 1 in
    if bytes_eq (get_or words n []) (codes "]") then test_status (take n words) else 2
