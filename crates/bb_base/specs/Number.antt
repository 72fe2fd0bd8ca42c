-- How a number is spelt: one or more decimal digits, or `0x` or `0X` and one or more hexadecimal
-- digits.
use Rattle.std.specs.Prelude.{ℕ, ◌^◌, ◌≤◌, Bool, ◌&&◌, ◌||◌, List, length, drop, codes, nat_eq, nat_lt, Result, Ok, Err, IsTrue, if◌then◌else◌}
use Rattle.std.specs.Char.{is_digit}
use Rattle.std.specs.List.{list_all, starts_with}
use Rattle.std.specs.Str.Parse.{digits_value}
use Rattle.bb_base.specs.declared.number.NumberError.{NumberError}
use Rattle.bb_base.specs.declared.number.NumberError.TheVariants.{NotNumber, TooLarge}

-- there is a digit, and each byte is one in this radix
abbrev pub is_numeral : ℕ → List ℕ → Bool
is_numeral radix digits = nat_lt 0 (length digits) && list_all (λ c. is_digit c radix) digits

-- the value of such digits, where it has 32 bits at most
abbrev pub numeral_value : ℕ → List ℕ → Result ℕ NumberError
numeral_value radix digits =
    if is_numeral radix digits
    then (if nat_lt (digits_value radix digits) (2 ^ 32)
    then Ok (digits_value radix digits)
    else Err TooLarge)
    else Err NotNumber

-- it begins with the prefix of hexadecimal digits
abbrev pub has_hex_prefix : List ℕ → Bool
has_hex_prefix text = starts_with nat_eq text (codes "0x") || starts_with nat_eq text (codes "0X")

-- the number that a text spells, or why it spells none
abbrev pub number_of : List ℕ → Result ℕ NumberError
number_of text =
    if has_hex_prefix text then numeral_value 16 (drop 2 text) else numeral_value 10 text

-- a text is spelt as a number, of whatever size
abbrev pub is_spelt : List ℕ → Bool
is_spelt text = if has_hex_prefix text then is_numeral 16 (drop 2 text) else is_numeral 10 text

-- the number that it then spells
abbrev pub spelt_number : List ℕ → ℕ
spelt_number text =
    if has_hex_prefix text then digits_value 16 (drop 2 text) else digits_value 10 text

-- it is spelt as a number that has more than 32 bits
abbrev pub IsTooLarge : List ℕ → Type 0
IsTooLarge text = IsTrue (is_spelt text) × (2 ^ 32 ≤ spelt_number text)
