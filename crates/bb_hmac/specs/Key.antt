-- A key as text: two hexadecimal digits a byte, in either case, the high four bits first. Blanks at
-- the end don't count. (This project's profile.)
use Rattle.std.specs.Prelude.{◌≡◌, ℕ, ◌-◌, ◌%◌, ◌==◌, Bool, ◌||◌, ◌⊎◌, not, List, length, take, position, Option, Some, None, Result, Err, if◌then◌else◌}
use Rattle.std.specs.List.{AllPass, suffix_len}
use Rattle.std.specs.Option.{option_map_or}
use Rattle.std.specs.Result.{result_map_both}
use Rattle.hex.specs.Hex.{decode_of, is_hex_digit}
use Rattle.bb_hmac.specs.declared.error.KeyError.{KeyError}
use Rattle.bb_hmac.specs.declared.error.KeyError.TheVariants.{Empty, BadHex}

-- space, tab, CR and LF
abbrev pub is_blank : ℕ → Bool
is_blank c = c == 32 || c == 9 || c == 13 || c == 10

-- the text without the blanks at its end
abbrev pub hex_part : List ℕ → List ℕ
hex_part text = take (length text - suffix_len is_blank text) text

-- the place of the first byte that is no digit
abbrev pub first_bad : List ℕ → Option ℕ
first_bad digits = position (λ c. not (is_hex_digit c)) digits

-- the bytes of digits; an odd number of them is refused after the last
abbrev pub key_of_pairs : List ℕ → Result (List ℕ) KeyError
key_of_pairs digits = result_map_both (λ key. key) (λ _. BadHex (length digits)) (decode_of digits)

-- the key that digits spell, or why they spell none
abbrev pub spelt_key : List ℕ → Result (List ℕ) KeyError
spelt_key digits =
    if length digits == 0 then Err Empty
    else option_map_or (λ place. Err (BadHex place)) (first_bad digits) (key_of_pairs digits)

-- the key that a text is, or why it is none
abbrev pub key_of : List ℕ → Result (List ℕ) KeyError
key_of text = spelt_key (hex_part text)

-- each byte is a digit, and their number is even
pub record IsHexadecimal (digits : List ℕ) : Type 0 where
  pub each : AllPass is_hex_digit digits
  pub even : length digits % 2 ≡ 0

-- The place at which digits spell no bytes: that of the first byte that is no digit, and where each
-- is one, their number if it is odd.
abbrev pub IsBadAt : List ℕ → ℕ → Type 0
IsBadAt digits place =
    (first_bad digits ≡ Some place)
    ⊎ ((first_bad digits ≡ None) × (length digits % 2 ≡ 1) × (place ≡ length digits))
