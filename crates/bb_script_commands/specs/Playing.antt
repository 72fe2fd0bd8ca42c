-- What a script does by what its saves and starts are answered, one answer a round: a function, for
-- which no device is asked.
use Rattle.std.specs.Prelude.{◌≡◌, ℕ, ◌*◌, ◌^◌, ◌≤◌, false, true, List, [], ◌∷◌, ◌++◌, drop, length, map, Option, Some, None}
use Rattle.std.specs.List.{AllByRecursion, flat_map}
use Rattle.bb_chooser.specs.Counting.{chosen_target, mark_good_of}
use Rattle.bb_script.specs.Tree.{ScriptTree}
use Rattle.bb_interpreter.specs.Means.{means_steps, replied}
use Rattle.bb_interpreter.specs.Outside.{Outside}
use Rattle.bb_interpreter.specs.Standing.{Asks, Course, GoesOn, Standing, Stops}
use Rattle.bb_interpreter.specs.declared.run.ScriptEnd.{ScriptEnd}
use Rattle.bb_interpreter.specs.declared.run.ScriptEnd.TheVariants as ends
use Rattle.bb_interpreter.specs.declared.stop.ScriptStop.{ScriptStop}
use Rattle.bb_interpreter.specs.declared.stop.ScriptStop.TheVariants as stop
use Rattle.bb_shell.specs.Boot.{Round}
use Rattle.bb_shell.specs.Rounds.{RoundAnswer, answer_of, rounds_by}
use Rattle.bb_shell.specs.Sequence.{StopsThere, refused_in}
use Rattle.bb_script_commands.specs.Calling.{Called, Does, answering, booting, saving, table_to_boot}
use Rattle.bb_script_commands.specs.Held.{Known}
use Rattle.bb_script_commands.specs.OutsideWords.{outside_command}
use Rattle.bb_script_commands.specs.Sending.{counts_lines}
use Rattle.bb_script_commands.specs.StateNames.{outside_over}
use Rattle.bb_script_commands.specs.declared.words.OutsideCommand.{OutsideCommand}
use Rattle.bb_script_commands.specs.declared.words.OutsideCommand.TheVariants.{Save, MarkGood, Show, Boot, Misused}

-- ---- a command

-- a save, as long as there are answers
abbrev pub save_by : Known → List ℕ → List RoundAnswer → Called
save_by known table [] = answering known false 0 []
save_by known table (answer ∷ later) = saving known table answer.save

abbrev pub mark_by : Known → Option ℕ → List RoundAnswer → Called
mark_by known None answers = answering known false 1 []
mark_by known (Some target) answers =
    save_by known (mark_good_of known.by.chooser known.table) answers

-- what a command does, by the answers that are still to come
abbrev pub called_by : OutsideCommand → Known → List RoundAnswer → Called
called_by Save known answers = save_by known known.table answers
called_by MarkGood known answers =
    mark_by known (chosen_target known.by.chooser known.table) answers
called_by Show known answers =
    answering known true 0 (counts_lines known.by.chooser known.table)
called_by Boot known answers =
    booting known (rounds_by known.by.chooser known.by.plans (table_to_boot known) answers)
called_by Misused known answers = answering known false 2 []

-- ---- a script

-- what its commands go by, the answers that are still to come, and the rounds so far
pub record Played : Type 0 where
  pub known : Known
  pub answers : List RoundAnswer
  pub rounds : List Round

abbrev pub with_known_table : Known → List ℕ → Known
with_known_table known table = record known { table = table }

abbrev pub played_outside : Outside Played
played_outside =
    outside_over (λ played. played.known)
    (λ played table. record played { known = with_known_table played.known table })

-- after a command: each of its rounds took one answer
abbrev pub played_after : Played → Called → Played
played_after played called = record {
  known = record played.known { table = called.table; booted = called.booted };
  answers = drop (length called.rounds) played.answers;
  rounds = played.rounds ++ called.rounds;
}

abbrev pub plays : Asks Played (Unit {0})
plays words at =
    let called = called_by (outside_command words) at.outside.known at.outside.answers in
    replied called.reply (record at { outside = played_after at.outside called })

-- before its first command; memory is granted so often, or always
abbrev pub unplayed : Known → List RoundAnswer → Option ℕ → Standing Played (Unit {0})
unplayed known answers grants = record {
  outside = record { known = known; answers = answers; rounds = [] };
  device = tt;
  own = [];
  text = [];
  status = 0;
  count = 0;
  answers = [];
  grants = grants;
  acts = [];
}

abbrev pub script_played :
    ScriptTree → Known → List RoundAnswer → Option ℕ → Course Played (Unit {0})
script_played script known answers grants =
    means_steps played_outside plays script (unplayed known answers grants)

-- where it ended, and how
abbrev pub course_at : {C D : Type 0} → Course C D → Standing C D
course_at (GoesOn at) = at
course_at (Stops why at) = at

abbrev pub stop_end : ScriptStop → ScriptEnd
stop_end stop.Started = ends.Started
stop_end stop.StepLimit = ends.StepLimit
stop_end stop.Fault = ends.Fault
stop_end stop.NoMemory = ends.NoMemory

abbrev pub course_end : {C D : Type 0} → Course C D → ScriptEnd
course_end (GoesOn at) = ends.Done at.status
course_end (Stops why at) = stop_end why

-- the rounds that it ran
abbrev pub script_rounds : ScriptTree → Known → List RoundAnswer → Option ℕ → List Round
script_rounds script known answers grants =
    (course_at (script_played script known answers grants)).outside.rounds

-- by these answers the play of a script ends so, with this text, and with these rounds
pub record PlaysTo (script : ScriptTree) (known : Known) (answers : List RoundAnswer)
    (grants : Option ℕ) (end : ScriptEnd) (text : List ℕ) (rounds : List Round) : Type 0 where
  pub end_is : course_end (script_played script known answers grants) ≡ end
  pub text_is : (course_at (script_played script known answers grants)).text ≡ text
  pub rounds_are : script_rounds script known answers grants ≡ rounds

-- it does so by what was answered to these rounds, whatever would be answered later
abbrev pub IsPlayed : ScriptTree → Known → List Round → Option ℕ → ScriptEnd → List ℕ → Type 0
IsPlayed script known rounds grants end text =
    (later : List RoundAnswer) →
    PlaysTo script known (map answer_of rounds ++ later) grants end text rounds

-- ---- where memory is refused

-- these rounds come first of all
pub record ComeFirst (rounds all : List Round) : Type 0 where
  pub later : List Round
  pub is : all ≡ rounds ++ later

-- By the same answers a script that is refused memory at some point runs the first rounds of the
-- script that is always granted it.
abbrev pub FrontLaw : Type 0
FrontLaw =
    (script : ScriptTree) (known : Known) (answers : List RoundAnswer) (grants : Option ℕ) →
    ComeFirst (script_rounds script known answers grants) (script_rounds script known answers None)

-- ---- the calls of a script, whatever stands on the device

-- a call of a command from outside: its words, what it knew, and what it did
pub record PlayedCall : Type 0 where
  pub words : List (List ℕ)
  pub known : Known
  pub called : Called

abbrev pub call_rounds : PlayedCall → List Round
call_rounds call = call.called.rounds

-- it knew the layout and the directions that are there when the script begins, and did what its
-- command may do
pub record IsCallIn (begun : Known) (call : PlayedCall) : Type 0 where
  pub layout : call.known.layout ≡ begun.layout
  pub by : call.known.by ≡ begun.by
  pub does : Does (outside_command call.words) call.known call.called

-- these are the rounds of commands that were called one after another, of which there are 10,000 at
-- most
pub record AreScriptRounds (begun : Known) (rounds : List Round) : Type 0 where
  pub calls : List PlayedCall
  pub few : length calls ≤ 10000
  pub each : AllByRecursion (IsCallIn begun) calls
  pub rounds_are : rounds ≡ flat_map call_rounds calls

-- Where no save was refused there are no more rounds than this, since each call counts its rounds
-- in 64 bits.
unfoldable pub most_script_rounds : ℕ
most_script_rounds = 10000 * 2 ^ 64

abbrev pub FewLaw : Type 0
FewLaw =
    (begun : Known) (rounds : List Round) → AreScriptRounds begun rounds → StopsThere rounds →
    refused_in rounds ≡ None → length rounds ≤ most_script_rounds
