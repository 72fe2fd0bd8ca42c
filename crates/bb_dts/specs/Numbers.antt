-- How a source spells a number: in decimal, in octal with a leading 0 or in hexadecimal with `0x`,
-- and after the digits one of C's endings for the type, which changes nothing.
use Rattle.std.specs.Prelude.{ℕ, ◌^◌, ◌∷◌, [], Bool, not, ◌==◌, ◌&&◌, ◌||◌, List, length, drop, codes, nat_eq, nat_lt, ok_or, Option, Some, None, Result, Err, if◌then◌else◌}
use Rattle.std.specs.Char.{is_digit}
use Rattle.std.specs.List.{list_all, list_any, prefix_len, starts_with, take_while}
use Rattle.std.specs.Str.{bytes_eq}
use Rattle.std.specs.Str.Parse.{digits_value}
use Rattle.bb_dts.specs.declared.number.NumberFault.{NumberFault}
use Rattle.bb_dts.specs.declared.number.NumberFault.TheVariants.{Malformed, TooLarge}

-- there is a digit, and each character is one in this radix
abbrev pub value_in_radix : ℕ → List ℕ → Option ℕ
value_in_radix radix digits =
    if nat_lt 0 (length digits) && list_all (λ c. is_digit c radix) digits
    then Some (digits_value radix digits)
    else None

-- the number that digits write in the radix that they begin with
abbrev pub radix_value : List ℕ → Option ℕ
radix_value digits =
    if starts_with nat_eq digits (codes "0x")
    then value_in_radix 16 (drop 2 digits)
    else (
    if starts_with nat_eq digits (codes "0")
    then value_in_radix 8 digits
    else value_in_radix 10 digits)

-- no digit is one of these
abbrev pub is_ending_letter : ℕ → Bool
is_ending_letter c = c == 85 || c == 76

-- the endings
abbrev pub endings : List (List ℕ)
endings = [] ∷ codes "U" ∷ codes "L" ∷ codes "UL" ∷ codes "LL" ∷ codes "ULL" ∷ []

-- the digits before the ending
abbrev pub digits_of : List ℕ → List ℕ
digits_of word = take_while (λ c. not (is_ending_letter c)) word

-- what stands after them
abbrev pub ending_of : List ℕ → List ℕ
ending_of word = drop (prefix_len (λ c. not (is_ending_letter c)) word) word

-- the number that a word spells, of any size, or none
abbrev pub number_value : List ℕ → Option ℕ
number_value word =
    if list_any (bytes_eq (ending_of word)) endings then radix_value (digits_of word) else None

-- a number where it has 64 bits
abbrev pub fits_64 : ℕ → Option ℕ
fits_64 n = if nat_lt n (2 ^ 64) then Some n else None

-- the number that a word spells as 64 bits hold it, or why none
abbrev pub in_64_bits : Option ℕ → Result ℕ NumberFault
in_64_bits None = Err Malformed
in_64_bits (Some n) = ok_or (fits_64 n) TooLarge
