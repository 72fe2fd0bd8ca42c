-- What clauses see of a word and a token that are read.
use Rattle.std.specs.Prelude.{◌≡◌, ℕ, List, [], ◌∷◌}
use Rattle.bb_script.specs.declared.open_word.PieceTaken.{PieceTaken}
use Rattle.bb_script.specs.declared.open_word.PieceTaken.TheVariants as taken
use Rattle.bb_script.specs.declared.open_word.WordSoFar.{WordSoFar}
use Rattle.bb_script.specs.declared.token.ScriptToken.{ScriptToken}
use Rattle.bb_script.specs.declared.word.Word.{Word}
use Rattle.bb_script.specs.Tokens.{OpenWord, SpeltToken, WordStep, GoesOn, HasEnded, IsBad, tokens_of}
use Rattle.bb_script.specs.Words.{word_atoms}

abbrev pub open_seen : WordSoFar → OpenWord
open_seen w = record { at = w.at; atoms = word_atoms w.word; quoting = w.quoting }

abbrev pub step_taken : PieceTaken → OpenWord → WordStep
step_taken (taken.GoesOn more) next = GoesOn more next
step_taken taken.HasEnded next = HasEnded
step_taken taken.IsBad next = IsBad

-- a piece that the word doesn't go on with leaves it as it was
abbrev pub IsStillWord : PieceTaken → OpenWord → OpenWord → Type 0
IsStillWord (taken.GoesOn more) old new = Unit {0}
IsStillWord taken.HasEnded old new = new ≡ old
IsStillWord taken.IsBad old new = new ≡ old

abbrev pub word_seen : ScriptToken → Word → SpeltToken
word_seen t word = record { kind = t.kind; word = word_atoms word; at = t.at }

-- a token, and the tokens after it
abbrev pub tokens_seen : ℕ → ScriptToken → Word → List SpeltToken
tokens_seen total t word = word_seen t word ∷ tokens_of total t.rest.now
