-- What stands in a word at a character: quoting, escapes and expansions (IEEE Std 1003.1-2017,
-- Shell Command Language, 2.2 Quoting and 2.5 Parameters and Variables). A name may hold `.` too,
-- and in double quotes a `\` before a LF is itself: that is this project's profile.
use Rattle.std.specs.Prelude.{ℕ, ◌+◌, ◌==◌, ◌||◌, ◌&&◌, Bool, false, List, [], ◌∷◌, codes, drop, nat_lt, if◌then◌else◌}
use Rattle.std.specs.List.{list_any, prefix_len}
use Rattle.std.specs.Char.{is_ascii_alphanumeric}
use Rattle.bb_script.specs.declared.piece.Quoting.{Quoting}
use Rattle.bb_script.specs.declared.piece.Quoting.TheVariants.{Bare, Single, Double}
use Rattle.bb_script.specs.declared.piece.WordPiece.{WordPiece}
use Rattle.bb_script.specs.declared.piece.WordPiece.TheVariants.{Ends, Refuses, Drops, Letter, Escaped, Opens, Closes, Value, Status}

abbrev pub is_one_of : List ℕ → ℕ → Bool
is_one_of text c = list_any (λ d. c == d) text

abbrev pub begins_with : ℕ → List ℕ → Bool
begins_with c [] = false
begins_with c (d ∷ later) = d == c

-- a word ends before a blank (space, tab, CR), a LF, and what an operator is made of or the
-- language leaves out
abbrev pub ends_word : ℕ → Bool
ends_word c = c == 32 || c == 9 || c == 13 || c == 10 || is_one_of (codes ";&|()<>`") c

-- a variable's name is made of letters, digits, `_` and `.`
abbrev pub is_in_variable : ℕ → Bool
is_in_variable c = is_ascii_alphanumeric c || c == 95 || c == 46

abbrev pub variable_len : List ℕ → ℕ
variable_len text = prefix_len is_in_variable text

-- after `${`: a name and `}`
abbrev pub braced_piece : List ℕ → WordPiece
braced_piece text =
    let n = variable_len text in
    if nat_lt 0 n && begins_with 125 (drop n text) then Value 1 n (n + 2) else Refuses

-- after a `$` that begins no other expansion: a name, or the `$` is itself
abbrev pub named_piece : List ℕ → WordPiece
named_piece text =
    let n = variable_len text in if nat_lt 0 n then Value 0 n n else Letter 36 0

-- after `$`
abbrev pub dollar_piece : List ℕ → WordPiece
dollar_piece text =
    if begins_with 63 text then Status else (
    if begins_with 123 text then braced_piece (drop 1 text) else named_piece text)

-- after a `\` outside of quotes. The text's end isn't quoted
abbrev pub escaped_piece : List ℕ → WordPiece
escaped_piece [] = Ends
escaped_piece (c ∷ rest) = if c == 10 then Drops else Escaped c

-- after a `\` in double quotes
abbrev pub quoted_escape : List ℕ → WordPiece
quoted_escape [] = Letter 92 0
quoted_escape (c ∷ rest) = if is_one_of (codes "\"\\$`") c then Letter c 1 else Letter 92 0

-- outside of quotes, at this offset
abbrev pub bare_piece : ℕ → ℕ → List ℕ → WordPiece
bare_piece at c rest =
    if ends_word c then Ends else (
    if c == 39 then Opens (Single at) else (
    if c == 34 then Opens (Double at) else (
    if c == 92 then escaped_piece rest else (
    if c == 36 then dollar_piece rest else Letter c 0))))

-- at a character with this offset, and this text after it
abbrev pub word_piece : Quoting → ℕ → ℕ → List ℕ → WordPiece
word_piece Bare at c rest = bare_piece at c rest
word_piece (Single from) at c rest = if c == 39 then Closes else Letter c 0
word_piece (Double from) at c rest =
    if c == 34 then Closes else (
    if c == 92 then quoted_escape rest else (
    if c == 36 then dollar_piece rest else Letter c 0))
