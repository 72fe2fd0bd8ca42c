-- Which word of a list is the first bad one, by the accepted lists alone.
use Rattle.std.specs.Prelude.{◌≡◌, ℕ, List, ◌++◌, Ok}
use Rattle.bb_words.specs.declared.command.Command.{Command}
use Rattle.bb_words.specs.Words.{words_of}

-- some accepted list of words begins with these
abbrev pub Begins : List (List ℕ) → Type 0
Begins front =
    (rest : List (List ℕ)) × (command : Command) × (words_of (front ++ rest) ≡ Ok command)
