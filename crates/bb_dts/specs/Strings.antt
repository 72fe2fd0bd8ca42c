-- Strings as a source spells them, with C's escapes.
use Rattle.std.specs.Prelude.{ℕ, ◌+◌, suc, zero, Bool, true, false, ◌==◌, List, [], ◌∷◌, take, nat_lt, Option, Some, None, option_and_then, if◌then◌else◌}
use Rattle.std.specs.Option.{option_map, option_map_or}
use Rattle.std.specs.List.{prefix_len}
use Rattle.bb_dts.specs.Characters.{is_octal, is_hexadecimal}
use Rattle.bb_dts.specs.Numbers.{value_in_radix}

-- the byte that a letter stands for after a `\`: `\a \b \t \n \v \f \r`, and any other character
-- itself
abbrev pub named_escape : ℕ → ℕ
named_escape c =
    if c == 97 then 7 else (
    if c == 98 then 8 else (
    if c == 116 then 9 else (
    if c == 110 then 10 else (
    if c == 118 then 11 else (
    if c == 102 then 12 else (
    if c == 114 then 13 else c))))))

-- a number where it is a byte
abbrev pub byte_of : Option ℕ → Option ℕ
byte_of value = option_and_then (λ n. if nat_lt n 256 then Some n else None) value

-- of the text after a `\`, as many octal digits as there are, three at most
abbrev pub octal_len : List ℕ → ℕ
octal_len text = prefix_len is_octal (take 3 text)

-- of the text after a `\x`, as many hexadecimal digits as there are, two at most
abbrev pub hexadecimal_len : List ℕ → ℕ
hexadecimal_len text = prefix_len is_hexadecimal (take 2 text)

-- the byte of an escape, and how many characters stand after its `\`, where there is such a byte
abbrev pub escape_with : ℕ → Option ℕ → Option (ℕ × ℕ)
escape_with len value = option_map (λ byte. (byte, len)) (byte_of value)

-- the byte that an escape gives, and how many characters it has after its `\`; or no escape stands
-- there
unfoldable pub escape_of : List ℕ → Option (ℕ × ℕ)
escape_of [] = None
escape_of (c ∷ cs) =
    let octal = octal_len (c ∷ cs) in
    let hexadecimal = hexadecimal_len cs in
    if nat_lt 0 octal then escape_with octal (value_in_radix 8 (take octal (c ∷ cs))) else (
    if c == 120 then escape_with (hexadecimal + 1) (value_in_radix 16 (take hexadecimal cs))
    else Some (named_escape c, 1))

-- how many bytes stand before the `"` that ends a string, where an escape stands after each `\`.
-- The first is after a `\` where `escaped`
unfoldable pub string_len : Bool → List ℕ → Option ℕ
string_len escaped [] = None
string_len true (c ∷ cs) =
    option_and_then (λ _. option_map (λ n. n + 1) (string_len false cs)) (escape_of (c ∷ cs))
string_len false (c ∷ cs) =
    if c == 34 then Some 0 else option_map (λ n. n + 1) (string_len (c == 92) cs)

-- the bytes of a string from the text between its quotes; the first `skip` belong to an escape that
-- is read
unfoldable pub quoted_bytes : ℕ → List ℕ → List ℕ
quoted_bytes skip [] = []
quoted_bytes (suc skip) (c ∷ cs) = quoted_bytes skip cs
quoted_bytes zero (c ∷ cs) =
    if c == 92
    then option_map_or (λ e. e.0 ∷ quoted_bytes e.1 cs) (escape_of cs) []
    else c ∷ quoted_bytes 0 cs
