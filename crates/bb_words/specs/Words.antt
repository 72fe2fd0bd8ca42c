-- The words of a command, after the device and its geometry.
use Rattle.std.specs.Prelude.{ℕ, ◌+◌, List, [], ◌∷◌, codes, nat_le, Option, Some, None, Result, Err, option_and_then, if◌then◌else◌}
use Rattle.std.specs.Option.{ok_or, option_map, option_map_or, option_or}
use Rattle.std.specs.Result.{result_ok}
use Rattle.std.specs.Str.{bytes_eq}
use Rattle.hex.specs.Hex.{decode_sized}
use Rattle.bb_base.specs.Form.{area_limit}
use Rattle.bb_base.specs.Number.{number_of}
use Rattle.bb_words.specs.declared.command.Command.{Command}
use Rattle.bb_words.specs.declared.command.Action.{Action}
use Rattle.bb_words.specs.declared.command.Command.TheVariants.{Drill, Menu, Raw}
use Rattle.bb_words.specs.declared.command.RawAction.{RawAction}
use Rattle.bb_words.specs.declared.command.RawAction.TheVariants.{Look, Write}
use Rattle.bb_words.specs.declared.given.Given.{Given}
use Rattle.bb_words.specs.declared.option.Valued.{Valued}
use Rattle.bb_words.specs.declared.row.Row.{Row}
use Rattle.bb_words.specs.Options.{none_given, dump_of, valued_of, joined_value_in, with_action, with_option}
use Rattle.bb_words.specs.Table.{row_of, has_dumps, may_come, command_of}

-- the number that a text spells, up to a greatest one
abbrev pub number_up_to : ℕ → List ℕ → Option ℕ
number_up_to most text =
    option_and_then
    (λ n. if nat_le n most then Some n else None)
    (result_ok (number_of text))

-- the bytes of an area of this length that hexadecimal digits spell
abbrev pub area_spelt : ℕ → List ℕ → Option (List ℕ)
area_spelt len digits = result_ok (decode_sized digits len)

-- the most sessions of a drill
abbrev pub session_limit : ℕ
session_limit = 1000

-- the number of sessions that a text spells: at least one
abbrev pub sessions_spelt : List ℕ → Option ℕ
sessions_spelt text =
    option_and_then
    (λ n. if nat_le 1 n then Some n else None)
    (number_up_to session_limit text)

-- what the words so far are, and so which may come next
pub data WordStage : Type 0 where
  -- no word
  Start : WordStage
  -- `raw`, then the magic, then the area's length, then `-s`
  Magic : WordStage
  Length : ℕ → WordStage
  Mode : ℕ → ℕ → WordStage
  Area : ℕ → ℕ → WordStage
  -- `menu`, then `--dir`
  DirOption : WordStage
  DirValue : WordStage
  -- `drill`, then the number
  DrillNumber : WordStage
  DrillCount : ℕ → WordStage
  -- a command with options and some of them, with the option whose value comes next, if one does
  Options : Row → Option Valued → Given → WordStage
  -- a command to which no word can be added
  Whole : Command → WordStage

-- a command `raw`
abbrev pub raw_of : ℕ → ℕ → RawAction → Command
raw_of magic len action = Raw (record { magic = magic; area_len = len; action = action })

-- a command `drill`
abbrev pub drill_of : ℕ → ℕ → Command
drill_of number count = Drill (record { number = number; count = count })

-- the stage after an option without a value
abbrev pub after_dump : Row → Given → Action → Option WordStage
after_dump row given action =
    if has_dumps row then Some (Options row None (with_action action given)) else None

-- between an option and its value, and after that
abbrev pub before_value : Row → Given → Valued → Option WordStage
before_value row given valued =
    if may_come row valued given then Some (Options row (Some valued) given) else None

abbrev pub after_value : Row → Given → Valued → List ℕ → Option WordStage
after_value row given valued value = option_map (Options row None) (with_option valued value given)

-- after an option that is joined with its value
abbrev pub after_joined : Row → Given → Valued × List ℕ → Option WordStage
after_joined row given (valued, value) =
    if may_come row valued given then after_value row given valued value else None

-- after a word that is no option's value
abbrev pub after_option : Row → Given → List ℕ → Option WordStage
after_option row given word =
    option_or (option_and_then (after_dump row given) (dump_of word))
    (option_or (option_and_then (before_value row given) (valued_of word))
    (option_and_then (after_joined row given) (joined_value_in word)))

-- the stage after a word, where the word may come
abbrev pub next : WordStage → List ℕ → Option WordStage
next Start word =
    if bytes_eq word (codes "raw") then Some Magic
    else if bytes_eq word (codes "menu") then Some DirOption
    else if bytes_eq word (codes "drill") then Some DrillNumber
    else option_map (λ row. Options row None none_given) (row_of word)
next Magic word = option_map (λ n. Length n) (number_up_to 4294967295 word)
next (Length magic) word = option_map (λ n. Mode magic n) (number_up_to area_limit word)
next (Mode magic len) word =
    if bytes_eq word (codes "-g") then Some (Whole (raw_of magic len Look))
    else if bytes_eq word (codes "-s") then Some (Area magic len)
    else None
next (Area magic len) word =
    option_map (λ area. Whole (raw_of magic len (Write area))) (area_spelt len word)
next DirOption word = if bytes_eq word (codes "--dir") then Some DirValue else None
next DirValue word = Some (Whole (Menu (record { dir = word })))
next DrillNumber word = option_map (λ n. DrillCount n) (number_up_to 4294967295 word)
next (DrillCount number) word =
    option_map (λ n. Whole (drill_of number n)) (sessions_spelt word)
next (Options row None given) word = after_option row given word
next (Options row (Some valued) given) word = after_value row given valued word
next (Whole command) word = None

-- the command that the words so far are
abbrev pub command_at : WordStage → Option Command
command_at (Options row None given) = command_of row given
command_at (Whole command) = Some command
command_at _ = None

-- the command that the words are after those before this place, or the place of the first that may
-- not come there; where one is missing, the place after the last
unfoldable pub words_from : ℕ → WordStage → List (List ℕ) → Result Command ℕ
words_from place stage [] = ok_or (command_at stage) place
words_from place stage (word ∷ rest) =
    option_map_or (λ behind. words_from (place + 1) behind rest) (next stage word) (Err place)

-- of all words
abbrev pub words_of : List (List ℕ) → Result Command ℕ
words_of words = words_from 0 Start words
