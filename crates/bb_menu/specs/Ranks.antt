-- What the code finds of a token: its rank and the characters of its run.
use Rattle.std.specs.Prelude.{◌≢◌, ℕ, ◌==◌, ⊤, Bool, List, [], ◌∷◌, Option, Some, None, if◌then◌else◌}
use Rattle.std.specs.Char.{is_ascii_alphabetic, is_ascii_digit}
use Rattle.std.specs.List.{prefix_len}
use Rattle.std.specs.Str.Parse.{AllDigits, digits_value}
use Rattle.bb_menu.specs.Version.{VersionToken, version_tokens}
use Rattle.bb_menu.specs.Version.{Tilde as tilde, End as end, Hyphen as hyphen, Caret as caret, Dot as dot, Letters as letters, Digits as digits}
use Rattle.bb_menu.specs.declared.token.TokenRank.{TokenRank}
use Rattle.bb_menu.specs.declared.token.TokenRank.TheVariants.{Tilde, End, Hyphen, Caret, Dot, Letters, Digits}

-- the rank of the token that a character begins, if it begins one
abbrev pub rank_begun : ℕ → Option TokenRank
rank_begun c =
    if is_ascii_alphabetic c then Some Letters
    else if is_ascii_digit c then Some Digits
    else if c == 126 then Some Tilde
    else if c == 45 then Some Hyphen
    else if c == 94 then Some Caret
    else if c == 46 then Some Dot
    else None

-- how many characters in front of a text are a token's that begins it
abbrev pub run_length : TokenRank → List ℕ → ℕ
run_length Tilde text = 1
run_length End text = 0
run_length Hyphen text = 1
run_length Caret text = 1
run_length Dot text = 1
run_length Letters text = prefix_len is_ascii_alphabetic text
run_length Digits text = prefix_len is_ascii_digit text

-- the token of this rank and run
abbrev pub token_of : TokenRank → List ℕ → VersionToken
token_of Tilde run = tilde
token_of End run = end
token_of Hyphen run = hyphen
token_of Caret run = caret
token_of Dot run = dot
token_of Letters run = letters run
token_of Digits run = digits (digits_value 10 run)

-- the tokens after one of this rank: none after the end
abbrev pub more_tokens : TokenRank → List ℕ → List VersionToken
more_tokens Tilde rest = version_tokens rest
more_tokens End rest = []
more_tokens Hyphen rest = version_tokens rest
more_tokens Caret rest = version_tokens rest
more_tokens Dot rest = version_tokens rest
more_tokens Letters rest = version_tokens rest
more_tokens Digits rest = version_tokens rest

-- a run of digits has digits alone
abbrev pub IsRun : TokenRank → List ℕ → Type 0
IsRun Tilde run = ⊤
IsRun End run = ⊤
IsRun Hyphen run = ⊤
IsRun Caret run = ⊤
IsRun Dot run = ⊤
IsRun Letters run = ⊤
IsRun Digits run = AllDigits 10 run

-- no zero stands in front of digits
abbrev pub LeadsWell : List ℕ → Type 0
LeadsWell [] = ⊤
LeadsWell (c ∷ rest) = c ≢ 48

abbrev pub is_zero_digit : ℕ → Bool
is_zero_digit c = c == 48
