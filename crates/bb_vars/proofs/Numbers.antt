-- The decimal text of a number spells that number.
use Rattle.std.proofs.Common.{◌≡◌, ℕ, ◌<◌, ◌^◌, true, false, ◌&&◌, List, [], ◌∷◌, length, drop, nat_lt, Ok, Err, if◌then◌else◌, arith, refl, ◌∙◌, ap}
use Rattle.std.proofs.lemmas.Bool.Decides.{nat_tests}
use Rattle.std.proofs.lemmas.Fmt.{decimal_is_IsNumeral}
use Rattle.std.proofs.lemmas.Str.Parse.{digit_from_value}
use Rattle.std.specs.Char.{is_digit}
use Rattle.std.specs.Fmt.{decimal}
use Rattle.std.specs.Int.{IsInRange}
use Rattle.std.specs.List.{list_all}
use Rattle.std.specs.Str.Parse.{AllDigits, digits_value}
use Rattle.bb_base.specs.declared.number.NumberError.TheVariants.{NotNumber, TooLarge}
use Rattle.bb_base.specs.Number.{has_hex_prefix, is_numeral, numeral_value, number_of}

all_digits : (radix : ℕ) (ds : List ℕ) → AllDigits radix ds → list_all (λ c. is_digit c radix) ds ≡ true
all_digits radix [] digits = refl
all_digits radix (c ∷ cs) digits = let rest = all_digits radix cs digits.1 in let first = digits.0 in grind (arith, nat_tests)

not_hexadecimal : (ds : List ℕ) → AllDigits 10 ds → has_hex_prefix ds ≡ false
not_hexadecimal [] digits = refl
not_hexadecimal (c ∷ []) digits = grind (arith, nat_tests)
not_hexadecimal (c ∷ d ∷ cs) digits =
    let digit : IsInRange 48 57 d = digit_from_value d digits.1.0 in
    grind (arith, nat_tests)

is_numeral_from : (ds : List ℕ) → AllDigits 10 ds → 0 < length ds → is_numeral 10 ds ≡ true
is_numeral_from ds digits some =
    let all = all_digits 10 ds digits in
    let there : nat_lt 0 (length ds) ≡ true = grind (arith, nat_tests) in
    ap (λ b. b && list_all (λ c. is_digit c 10) ds) there ∙ all

numeral_value_is : (ds : List ℕ) (n : ℕ) → is_numeral 10 ds ≡ true → digits_value 10 ds ≡ n → n < 2 ^ 32 → numeral_value 10 ds ≡ Ok n
numeral_value_is ds n all value small =
    let fits : nat_lt n (2 ^ 32) ≡ true = grind (arith, nat_tests) in
    ap (λ b. if b then (if nat_lt (digits_value 10 ds) (2 ^ 32) then Ok (digits_value 10 ds) else Err TooLarge) else Err NotNumber) all
    ∙ ap (λ v. if nat_lt v (2 ^ 32) then Ok v else Err TooLarge) value
    ∙ ap (λ b. if b then Ok n else Err TooLarge) fits

pub number_of-decimal : (n : ℕ) → n < 2 ^ 32 → number_of (decimal n) ≡ Ok n
number_of-decimal n small =
    let numeral = decimal_is_IsNumeral n (omega arith) in
    ap (λ b. if b then numeral_value 16 (drop 2 (decimal n)) else numeral_value 10 (decimal n)) (not_hexadecimal (decimal n) numeral.0.1)
    ∙ numeral_value_is (decimal n) n (is_numeral_from (decimal n) numeral.0.1 numeral.0.0) numeral.1 small
