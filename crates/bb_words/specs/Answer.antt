-- What an answer of the reader says of what the words are.
use Rattle.std.specs.Prelude.{◌≡◌, ℕ, ◌≤◌, ⊤, Result, Err, length}
use Rattle.bb_base.specs.Form.{area_limit}
use Rattle.bb_words.specs.declared.command.Command.{Command}
use Rattle.bb_words.specs.declared.command.Command.TheVariants.{Raw}
use Rattle.bb_words.specs.declared.command.RawAction.{RawAction}
use Rattle.bb_words.specs.declared.command.RawAction.TheVariants.{Look, Write}
use Rattle.bb_words.specs.declared.command.RawCommand.{RawCommand}
use Rattle.bb_words.specs.declared.error.WordsError.{WordsError}
use Rattle.bb_words.specs.declared.error.WordsError.TheVariants.{BadWord, NoMemory}

-- the words are refused for this cause: a bad word is that at which they are refused, and that
-- memory was refused says nothing
abbrev pub Refuses : {T : Type 0} → Result T ℕ → WordsError → Type 0
Refuses words (BadWord place) = words ≡ Err place
Refuses words NoMemory = ⊤

-- an area that is to be written has the length that is given
abbrev pub IsSizedFor : ℕ → RawAction → Type 0
IsSizedFor len Look = ⊤
IsSizedFor len (Write area) = length area ≡ len

-- and so has that of `raw`, of at most 65,535 bytes
pub record IsSizedRaw (raw : RawCommand) : Type 0 where
  pub bound : raw.area_len ≤ area_limit
  pub exact : IsSizedFor raw.area_len raw.action

-- of each command; no other has an area
abbrev pub IsSized : Command → Type 0
IsSized (Raw raw) = IsSizedRaw raw
IsSized _ = ⊤
