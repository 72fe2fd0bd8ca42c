-- MAC addresses: 6 bytes, written as six pairs of hexadecimal digits joined by `:` (IEEE 802,
-- EUI-48).
use Rattle.std.specs.Prelude.{ℕ, ◌+◌, ◌/◌, ◌%◌, ◌==◌, Bool, false, ◌&&◌, List, [], ◌∷◌, Option, Some, None, if◌then◌else◌, length, map, slice_index}
use Rattle.std.specs.Char.{is_digit}
use Rattle.std.specs.Fmt.{digit_glyph}
use Rattle.std.specs.List.{list_all, join_with_byte}
use Rattle.std.specs.Option.{option_map}
use Rattle.std.specs.Str.Parse.{digits_value}

-- ---- from bytes to text

-- a byte as two hexadecimal digits, in lower case
unfoldable pub pair_text : ℕ → List ℕ
pair_text byte = digit_glyph false (byte / 16) ∷ digit_glyph false (byte % 16) ∷ []

-- all six bytes so, with a `:` between each two
abbrev pub mac_text : List ℕ → List ℕ
mac_text bytes = join_with_byte 58 (map pair_text bytes)

-- ---- from text to bytes

-- the byte that two hexadecimal digits spell, in either case
unfoldable pub byte_of_pair : ℕ → ℕ → Option ℕ
byte_of_pair high low =
    if is_digit high 16 && is_digit low 16 then Some (digits_value 16 (high ∷ low ∷ [])) else None

-- each item, where none is missing
abbrev pub all_of : List (Option ℕ) → Option (List ℕ)
all_of [] = Some []
all_of (None ∷ rest) = None
all_of (Some item ∷ rest) = option_map (λ items. item ∷ items) (all_of rest)

-- there are 17 bytes, and a `:` stands after each pair but the last
abbrev pub has_colons : List ℕ → Bool
has_colons text =
    (length text == 17)
    && list_all (λ i. slice_index text i == 58) (2 ∷ 5 ∷ 8 ∷ 11 ∷ 14 ∷ [])

-- the byte that the two digits from a place on spell
abbrev pub pair_at : List ℕ → ℕ → Option ℕ
pair_at text i = byte_of_pair (slice_index text i) (slice_index text (i + 1))

-- the bytes that six pairs of digits joined by `:` spell
abbrev pub mac_of : List ℕ → Option (List ℕ)
mac_of text =
    if has_colons text
    then all_of (map (pair_at text) (0 ∷ 3 ∷ 6 ∷ 9 ∷ 12 ∷ 15 ∷ []))
    else None
