-- The characters of which a source's words are made (Devicetree Specification v0.4, section 6.2 and
-- 2.2.1).
use Rattle.std.specs.Prelude.{ℕ, Bool, ◌==◌, ◌||◌, List, codes}
use Rattle.std.specs.Char.{is_ascii_alphabetic, is_ascii_alphanumeric, is_digit}
use Rattle.std.specs.List.{list_any}

-- the text has this character
abbrev pub has_character : List ℕ → ℕ → Bool
has_character text c = list_any (λ d. c == d) text

-- space, tab, LF, form feed and CR
abbrev pub is_blank : ℕ → Bool
is_blank c = c == 32 || c == 9 || c == 10 || c == 12 || c == 13

-- a letter, a digit or `_`: of these are a label's name after its first character, and what is read
-- as a number
abbrev pub is_word : ℕ → Bool
is_word c = is_ascii_alphanumeric c || c == 95

-- a letter or `_` begins a label's name
abbrev pub begins_label : ℕ → Bool
begins_label c = is_ascii_alphabetic c || c == 95

-- of these are the names of nodes and properties
abbrev pub is_name_character : ℕ → Bool
is_name_character c = is_word c || has_character (codes ",.+*#?@-") c

-- of these are the digits of an octal and of a hexadecimal number
abbrev pub is_octal : ℕ → Bool
is_octal c = is_digit c 8

abbrev pub is_hexadecimal : ℕ → Bool
is_hexadecimal c = is_digit c 16
