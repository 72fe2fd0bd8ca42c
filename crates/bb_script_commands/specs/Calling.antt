-- What a call of a command from outside does and answers, by what the device answers to it.
use Rattle.std.specs.Prelude.{◌≡◌, ℕ, ◌<◌, ◌^◌, Bool, true, false, not, List, [], ◌∷◌, length, Option, Some, None}
use Rattle.bb_chooser.specs.Counting.{chosen_target, mark_good_of}
use Rattle.bb_copies.specs.declared.answers.CopyFault.{CopyFault}
use Rattle.bb_flash.specs.Device.{Device}
use Rattle.bb_interpreter.specs.declared.commands.Reply.{Reply}
use Rattle.bb_interpreter.specs.declared.commands.Reply.TheVariants as reply
use Rattle.bb_shell.specs.Boot.{AreRounds, Round, boot_end, first_table, table_after}
use Rattle.bb_shell.specs.Sequence.{refused_in, save_round}
use Rattle.bb_script_commands.specs.Held.{Held, Known, known_of}
use Rattle.bb_script_commands.specs.OutsideWords.{outside_command}
use Rattle.bb_script_commands.specs.Ran.{RanFor}
use Rattle.bb_script_commands.specs.Sending.{Replies, boot_reply, boot_sends, counts_lines}
use Rattle.bb_script_commands.specs.declared.words.OutsideCommand.{OutsideCommand}
use Rattle.bb_script_commands.specs.declared.words.OutsideCommand.TheVariants.{Save, MarkGood, Show, Boot, Misused}

-- what a call does: the rounds that it runs, the table that it leaves, whether a boot was run by
-- then, and its reply, for which it takes memory or doesn't
pub record Called : Type 0 where
  pub rounds : List Round
  pub table : List ℕ
  pub booted : Bool
  pub reply : Reply
  pub takes_memory : Bool

-- ---- an answer alone

abbrev pub answering : Known → Bool → ℕ → List ℕ → Called
answering known takes_memory status text = record {
  rounds = [];
  table = known.table;
  booted = known.booted;
  reply = reply.Done status text;
  takes_memory = takes_memory;
}

-- ---- a save

abbrev pub saved_reply : Option CopyFault → Reply
saved_reply None = reply.Done 0 []
saved_reply (Some fault) = reply.Fault

-- A save of a table that is then the state's. The target of its round is none of those that may
-- have a plan.
abbrev pub saving : Known → List ℕ → Option CopyFault → Called
saving known table refusal = record {
  rounds = save_round (length known.by.plans) table refusal ∷ [];
  table = table;
  booted = known.booted;
  reply = saved_reply refusal;
  takes_memory = false;
}

-- for whatever it was refused, if it was
pub record IsSaving (known : Known) (table : List ℕ) (called : Called) : Type 0 where
  pub refusal : Option CopyFault
  pub is : called ≡ saving known table refusal

-- the target that was chosen last is marked good, if there is one
abbrev pub MarksGood : Known → Called → Option ℕ → Type 0
MarksGood known called None = called ≡ answering known false 1 []
MarksGood known called (Some target) =
    IsSaving known (mark_good_of known.by.chooser known.table) called

abbrev pub IsMarking : Known → Called → Type 0
IsMarking known called = MarksGood known called (chosen_target known.by.chooser known.table)

-- ---- a boot

abbrev pub booting : Known → List Round → Called
booting known rounds =
    let end = boot_end known.by.chooser rounds in
    record {
      rounds = rounds;
      table = table_after known.table rounds;
      booted = true;
      reply = boot_reply known.by.chooser end;
      takes_memory = boot_sends end;
    }

-- the first boot alone begins with a reset
abbrev pub table_to_boot : Known → List ℕ
table_to_boot known = first_table known.by.chooser known.by.cause (not known.booted) known.table

-- by whatever its saves and starts answered
pub record IsBooting (known : Known) (called : Called) : Type 0 where
  pub rounds : List Round
  pub are : AreRounds known.by.chooser known.by.plans (table_to_boot known) rounds
  pub is : called ≡ booting known rounds
  -- they are counted in 64 bits
  pub few : refused_in rounds ≡ None → length rounds < 2 ^ 64

-- ---- each command

abbrev pub Does : OutsideCommand → Known → Called → Type 0
Does Save known called = IsSaving known known.table called
Does MarkGood known called = IsMarking known called
Does Show known called =
    called ≡ answering known true 0 (counts_lines known.by.chooser known.table)
Does Boot known called = IsBooting known called
Does Misused known called = called ≡ answering known false 2 []

-- a command was called: what it did is one of the things that it may do, and was left so
pub record HasCalledOne (command : OutsideCommand) (before : Held) (from : Device) (answer : Reply)
    (after : Held) (to : Device) : Type 0 where
  pub called : Called
  pub does : Does command (known_of before) called
  pub replies : Replies called.reply called.takes_memory answer
  pub table : after.table ≡ called.table
  pub booted : after.so_far.booted ≡ called.booted
  pub ran : RanFor before after from to called.rounds

-- by its words
abbrev pub HasCalled : List (List ℕ) → Held → Device → Reply → Held → Device → Type 0
HasCalled words before from answer after to =
    HasCalledOne (outside_command words) before from answer after to
