-- Versions compare by their tokens, as the Version Format Specification (UAPI.10) orders them. That
-- a mark is a token of its own, and is compared with whatever stands in its place, is this
-- project's profile.
use Rattle.std.specs.Prelude.{◌≡◌, ℕ, ◌==◌, List, [], ◌∷◌, ◌++◌, zero, suc, take_while, if◌then◌else◌}
use Rattle.std.specs.Char.{is_ascii_alphabetic, is_ascii_digit}
use Rattle.std.specs.Cmp.Lexicographic.{slice_cmp}
use Rattle.std.specs.List.{prefix_len}
use Rattle.std.specs.Ordering.{nat_cmp, on, then_cmp}
use Rattle.std.specs.declared.cmp.Ordering.{Ordering}
use Rattle.std.specs.declared.cmp.Ordering.TheVariants.{Less}
use Rattle.std.specs.Str.Parse.{digits_value}

-- ---- tokens

-- a mark, a run of letters, the number that a run of digits writes, or the end of the version
pub data VersionToken : Type 0 where
  Tilde : VersionToken
  End : VersionToken
  Hyphen : VersionToken
  Caret : VersionToken
  Dot : VersionToken
  Letters : List ℕ → VersionToken
  Digits : ℕ → VersionToken

-- the mark that a character is; a character that is none, no letter and no digit only separates
abbrev pub mark_tokens : ℕ → List VersionToken
mark_tokens c =
    if c == 126 then Tilde ∷ []
    else if c == 45 then Hyphen ∷ []
    else if c == 94 then Caret ∷ []
    else if c == 46 then Dot ∷ []
    else []

-- the token that a character begins in front of the rest of a text, if it begins one
abbrev pub tokens_begun : ℕ → List ℕ → List VersionToken
tokens_begun c rest =
    if is_ascii_alphabetic c then Letters (c ∷ take_while is_ascii_alphabetic rest) ∷ []
    else if is_ascii_digit c then Digits (digits_value 10 (c ∷ take_while is_ascii_digit rest)) ∷ []
    else mark_tokens c

-- how many characters of the rest belong to that token too: a run is as long as it can be
abbrev pub run_left : ℕ → List ℕ → ℕ
run_left c rest =
    if is_ascii_alphabetic c then prefix_len is_ascii_alphabetic rest
    else if is_ascii_digit c then prefix_len is_ascii_digit rest
    else 0

-- the tokens of a text after its first characters, so many of which belong to the token before
unfoldable pub tokens_after : ℕ → List ℕ → List VersionToken
tokens_after skipped [] = End ∷ []
tokens_after (suc skipped) (c ∷ rest) = tokens_after skipped rest
tokens_after zero (c ∷ rest) = tokens_begun c rest ++ tokens_after (run_left c rest) rest

-- the tokens of a version, with its end
abbrev pub version_tokens : List ℕ → List VersionToken
version_tokens text = tokens_after 0 text

-- ---- which token is less

-- how the kinds of tokens rank
abbrev pub rank_of_token : VersionToken → ℕ
rank_of_token Tilde = 0
rank_of_token End = 1
rank_of_token Hyphen = 2
rank_of_token Caret = 3
rank_of_token Dot = 4
rank_of_token (Letters run) = 5
rank_of_token (Digits number) = 6

-- the letters of a token, which compare by their bytes
abbrev pub letters_in_token : VersionToken → List ℕ
letters_in_token Tilde = []
letters_in_token End = []
letters_in_token Hyphen = []
letters_in_token Caret = []
letters_in_token Dot = []
letters_in_token (Letters run) = run
letters_in_token (Digits number) = []

-- the number of a token, of any size
abbrev pub number_in_token : VersionToken → ℕ
number_in_token Tilde = 0
number_in_token End = 0
number_in_token Hyphen = 0
number_in_token Caret = 0
number_in_token Dot = 0
number_in_token (Letters run) = 0
number_in_token (Digits number) = number

-- by bytes: the first that differs decides, and a proper prefix is less
abbrev pub text_cmp : List ℕ → List ℕ → Ordering
text_cmp = slice_cmp nat_cmp

-- by kind, then letters by bytes, then numbers by size
abbrev pub token_cmp : VersionToken → VersionToken → Ordering
token_cmp =
    then_cmp (on rank_of_token nat_cmp)
    (then_cmp (on letters_in_token text_cmp) (on number_in_token nat_cmp))

-- ---- which version is less

-- the first token that differs decides, and without one the versions are equal
abbrev pub version_cmp : List ℕ → List ℕ → Ordering
version_cmp = on version_tokens (slice_cmp token_cmp)

abbrev pub VersionLess : List ℕ → List ℕ → Type 0
VersionLess a b = version_cmp a b ≡ Less
