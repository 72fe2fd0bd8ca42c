-- What the values of properties stand for (Devicetree Specification v0.4, section 2.2.4).
use Rattle.std.specs.Prelude.{ℕ, ◌==◌, ◌-◌, Bool, false, not, List, [], ◌∷◌, Option, Some, None, if◌then◌else◌, length, take, drop, nat_eq, nat_lt}
use Rattle.std.specs.Int.{from_be_bytes, w32}
use Rattle.std.specs.List.{list_any, list_all, ends_with, slice_split, before_first}
use Rattle.std.specs.Option.{option_map, option_map_or, option_zip}
use Rattle.std.specs.Str.{bytes_eq, is_utf8}
use Rattle.bb_layout.specs.Results.{option_filter}

-- ---- cells

-- a cell is 4 bytes, a number in big endian
abbrev pub cell_of : List ℕ → Option ℕ
cell_of value = if length value == 4 then Some (from_be_bytes w32 value) else None

abbrev pub cell_below : ℕ → List ℕ → Option ℕ
cell_below bound value = option_filter (λ n. nat_lt n bound) (cell_of value)

abbrev pub two_cells_of : List ℕ → Option (ℕ × ℕ)
two_cells_of value = option_zip (cell_of (take 4 value)) (cell_of (drop 4 value))

abbrev pub four_cells_of : List ℕ → Option ((ℕ × ℕ) × (ℕ × ℕ))
four_cells_of value = option_zip (two_cells_of (take 8 value)) (two_cells_of (drop 8 value))

-- ---- strings

-- what stands before a zero byte that ends a value
abbrev pub before_zero_byte : List ℕ → Option (List ℕ)
before_zero_byte value = if ends_with nat_eq value (0 ∷ []) then Some (take (length value - 1) value) else None

-- a string is bytes without zero, and then a zero byte
abbrev pub string_of : List ℕ → Option (List ℕ)
string_of value = option_filter (λ front. not (list_any (λ c. c == 0) front)) (before_zero_byte value)

-- a list of strings is one or more of them
abbrev pub parts_of : List ℕ → List (List ℕ)
parts_of front = slice_split (λ c. c == 0) front

abbrev pub strings_of : List ℕ → Option (List (List ℕ))
strings_of value = option_map parts_of (before_zero_byte value)

-- a string in UTF-8, and a list of such strings
abbrev pub utf8_string : List ℕ → Option (List ℕ)
utf8_string value = option_filter is_utf8 (string_of value)

abbrev pub utf8_strings : List ℕ → Option (List (List ℕ))
utf8_strings value = option_filter (list_all is_utf8) (strings_of value)

-- whether a value is a list of strings that has this one
abbrev pub has_string : List ℕ → List ℕ → Bool
has_string value name = option_map_or (list_any (λ s. bytes_eq s name)) (strings_of value) false

-- ---- names of nodes

-- a name up to its `@`
abbrev pub base_name : List ℕ → List ℕ
base_name name = before_first (λ c. c == 64) name
