-- The tokens of a script: its words, and what stands between them (IEEE Std 1003.1-2017, Shell
-- Command Language, 2.3 Token Recognition and 2.4 Reserved Words).
use Rattle.std.specs.Prelude.{ℕ, suc, zero, ◌+◌, ◌-◌, ◌==◌, ◌||◌, ◌&&◌, Bool, not, List, [], ◌∷◌, ◌++◌, length, take, drop, codes, nat_eq, Option, Some, None, if◌then◌else◌}
use Rattle.std.specs.List.{prefix_len, starts_with}
use Rattle.bb_script.specs.declared.error.ScriptError.{ScriptError}
use Rattle.bb_script.specs.declared.error.ScriptError.TheVariants as refusal
use Rattle.bb_script.specs.declared.piece.Quoting.{Quoting}
use Rattle.bb_script.specs.declared.piece.Quoting.TheVariants.{Bare, Single, Double}
use Rattle.bb_script.specs.declared.piece.WordPiece.{WordPiece}
use Rattle.bb_script.specs.declared.piece.WordPiece.TheVariants as piece
use Rattle.bb_script.specs.declared.token_kind.Keyword.{Keyword}
use Rattle.bb_script.specs.declared.token_kind.Keyword.TheVariants as keyword
use Rattle.bb_script.specs.declared.token_kind.ScriptTokenKind.{ScriptTokenKind}
use Rattle.bb_script.specs.declared.token_kind.ScriptTokenKind.TheVariants.{Word, BadWord, Semi, Line, And, Or, Stray, Cut}
use Rattle.bb_script.specs.declared.token_kind.Lexeme.{Lexeme}
use Rattle.bb_script.specs.declared.token_kind.Lexeme.TheVariants.{Blank, Mark, CutOff, Begins}
use Rattle.bb_script.specs.Pieces.{begins_with, ends_word, word_piece}
use Rattle.bb_script.specs.Words.{Atom, Letter, Quote, Value, QuotedValue, Status, letters_alone}

-- ---- what stands between two words

-- a character that is a token where it stands twice
abbrev pub doubled_mark : ℕ → List ℕ → ScriptTokenKind → Lexeme
doubled_mark c rest kind = if begins_with c rest then Mark kind 1 else Mark Stray 0

-- at a character that ends words
abbrev pub mark_at : ℕ → List ℕ → Lexeme
mark_at c rest =
    if c == 32 || c == 9 || c == 13 then Blank 0 else (
    if c == 10 then Mark Line 0 else (
    if c == 59 then Mark Semi 0 else (
    if c == 38 then doubled_mark 38 rest And else (
    if c == 124 then doubled_mark 124 rest Or else Mark Stray 0))))

-- at a `\` where a word may begin
abbrev pub backslash_lexeme : List ℕ → Lexeme
backslash_lexeme [] = CutOff
backslash_lexeme (c ∷ rest) = if c == 10 then Blank 1 else Begins

-- a `#` begins a comment, which ends before the line's end
abbrev pub lexeme_at : ℕ → List ℕ → Lexeme
lexeme_at c rest =
    if ends_word c then mark_at c rest else (
    if c == 35 then Blank (prefix_len (λ d. not (d == 10)) rest) else (
    if c == 92 then backslash_lexeme rest else Begins))

-- ---- keywords

abbrev pub spells : List ℕ → List ℕ → Bool
spells text word = (length text == length word) && starts_with nat_eq text word

abbrev pub keyword_of : List ℕ → Keyword
keyword_of text =
    if spells text (codes "if") then keyword.If else (
    if spells text (codes "then") then keyword.Then else (
    if spells text (codes "elif") then keyword.Elif else (
    if spells text (codes "else") then keyword.Else else (
    if spells text (codes "fi") then keyword.Fi else (
    if spells text (codes "for") then keyword.For else (
    if spells text (codes "in") then keyword.In else (
    if spells text (codes "do") then keyword.Do else (
    if spells text (codes "done") then keyword.Done else keyword.Plain))))))))

-- a quoted word and one with an expansion spell none
abbrev pub keyword_spelt : Option (List ℕ) → Keyword
keyword_spelt None = keyword.Plain
keyword_spelt (Some text) = keyword_of text

abbrev pub keyword_in : List Atom → Keyword
keyword_in word = keyword_spelt (letters_alone word)

-- ---- a word, piece by piece

-- a word of which so much was read: where it begins, and what it is made of so far
pub record OpenWord : Type 0 where
  pub at : ℕ
  pub atoms : List Atom
  pub quoting : Quoting

-- between two words, or in one
pub data Amid : Type 0 where
  Between : Amid
  Within : OpenWord → Amid

abbrev pub word_begun : ℕ → OpenWord
word_begun at = record { at = at; atoms = []; quoting = Bare }

abbrev pub with_atoms : OpenWord → List Atom → OpenWord
with_atoms word more = record word { atoms = word.atoms ++ more }

-- in quotes a value isn't cut
abbrev pub value_atom : Quoting → List ℕ → Atom
value_atom Bare name = Value name
value_atom (Single from) name = QuotedValue name
value_atom (Double from) name = QuotedValue name

-- what a character does to a word: it goes on, and so many bytes more are passed over; or it has
-- ended before this character; or it is malformed
pub data WordStep : Type 0 where
  GoesOn : ℕ → OpenWord → WordStep
  HasEnded : WordStep
  IsBad : WordStep

-- by the piece that begins at the character, with this text after it
abbrev pub word_step : OpenWord → List ℕ → WordPiece → WordStep
word_step word rest piece.Ends = HasEnded
word_step word rest piece.Refuses = IsBad
word_step word rest piece.Drops = GoesOn 1 word
word_step word rest (piece.Letter c more) = GoesOn more (with_atoms word (Letter c ∷ []))
word_step word rest (piece.Escaped c) = GoesOn 1 (with_atoms word (Quote ∷ Letter c ∷ []))
word_step word rest (piece.Opens quoting) =
    GoesOn 0 (record (with_atoms word (Quote ∷ [])) { quoting = quoting })
word_step word rest piece.Closes = GoesOn 0 (record word { quoting = Bare })
word_step word rest (piece.Value front len past) =
    GoesOn past (with_atoms word (value_atom word.quoting (take len (drop front rest)) ∷ []))
word_step word rest piece.Status = GoesOn 1 (with_atoms word (Status ∷ []))

-- ---- all tokens

-- what a token is, what it is made of where it is a word, and the offset at which it begins
pub record SpeltToken : Type 0 where
  pub kind : ScriptTokenKind
  pub word : List Atom
  pub at : ℕ

abbrev pub mark_token : ScriptTokenKind → ℕ → SpeltToken
mark_token kind at = record { kind = kind; word = []; at = at }

abbrev pub word_token : OpenWord → SpeltToken
word_token word = record { kind = Word (keyword_in word.atoms); word = word.atoms; at = word.at }

abbrev pub bad_word : OpenWord → ScriptError → SpeltToken
bad_word word e = mark_token (BadWord e) word.at

-- the last token of a text
abbrev pub word_at_end : OpenWord → Quoting → List SpeltToken
word_at_end word Bare = word_token word ∷ []
word_at_end word (Single from) = bad_word word (refusal.Unclosed from) ∷ []
word_at_end word (Double from) = bad_word word (refusal.Unclosed from) ∷ []

abbrev pub tokens_at_end : Amid → List SpeltToken
tokens_at_end Between = []
tokens_at_end (Within word) = word_at_end word word.quoting

-- the tokens from a word's first character on, which ends no word
abbrev pub tokens_from_word :
    OpenWord → ℕ → (ℕ → Amid → List SpeltToken) → WordStep → List SpeltToken
tokens_from_word word at on (GoesOn more next) = on more (Within next)
tokens_from_word word at on HasEnded = []
tokens_from_word word at on IsBad = bad_word word (refusal.Unexpected at) ∷ []

-- the tokens from a character on, between two words. The text has `total` bytes
abbrev pub tokens_between :
    ℕ → ℕ → ℕ → List ℕ → (ℕ → Amid → List SpeltToken) → Lexeme → List SpeltToken
tokens_between total at c rest on (Blank more) = on more Between
tokens_between total at c rest on (Mark kind more) = mark_token kind at ∷ on more Between
tokens_between total at c rest on CutOff = mark_token Cut total ∷ []
tokens_between total at c rest on Begins =
    tokens_from_word (word_begun at) at on
    (word_step (word_begun at) rest (word_piece Bare at c rest))

-- the tokens from a character on, in a word
abbrev pub tokens_within :
    ℕ → OpenWord → ℕ → ℕ → List ℕ → (ℕ → Amid → List SpeltToken) → WordStep → List SpeltToken
tokens_within total word at c rest on (GoesOn more next) = on more (Within next)
tokens_within total word at c rest on HasEnded =
    word_token word ∷ tokens_between total at c rest on (lexeme_at c rest)
tokens_within total word at c rest on IsBad = bad_word word (refusal.Unexpected at) ∷ []

abbrev pub tokens_amid :
    ℕ → Amid → ℕ → ℕ → List ℕ → (ℕ → Amid → List SpeltToken) → List SpeltToken
tokens_amid total Between at c rest on = tokens_between total at c rest on (lexeme_at c rest)
tokens_amid total (Within word) at c rest on =
    tokens_within total word at c rest on
    (word_step word rest (word_piece word.quoting at c rest))

-- The tokens of a text, of which the last may be malformed. The text ends at the offset `total`,
-- and its first `skip` bytes are passed over.
unfoldable pub tokens : ℕ → ℕ → List ℕ → Amid → List SpeltToken
tokens total skip [] amid = tokens_at_end amid
tokens total (suc skip) (c ∷ rest) amid = tokens total skip rest amid
tokens total zero (c ∷ rest) amid =
    tokens_amid total amid (total - length (c ∷ rest)) c rest
    (λ more next. tokens total more rest next)

-- the tokens of the end of a text that has `total` bytes
abbrev pub tokens_of : ℕ → List ℕ → List SpeltToken
tokens_of total text = tokens total 0 text Between
