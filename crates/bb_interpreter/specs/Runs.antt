-- What a run of a script did, by what the script means.
use Rattle.std.specs.Prelude.{◌≡◌, ◌≢◌, ℕ, ◌+◌, Bool, true, false, List, [], ◌++◌, map, Option, Some, None, Result, Ok, Err}
use Rattle.std.specs.List.{AllByRecursion}
use Rattle.bb_script.specs.Tree.{ScriptTree}
use Rattle.bb_interpreter.specs.declared.commands.Reply.{Reply}
use Rattle.bb_interpreter.specs.declared.run.ScriptEnd.{ScriptEnd}
use Rattle.bb_interpreter.specs.declared.run.ScriptEnd.TheVariants as ends
use Rattle.bb_interpreter.specs.declared.run.ScriptRun.{ScriptRun}
use Rattle.bb_interpreter.specs.declared.stop.ScriptStop.{ScriptStop}
use Rattle.bb_interpreter.specs.declared.stop.ScriptStop.TheVariants.{Started, StepLimit, Fault, NoMemory}
use Rattle.bb_interpreter.specs.Means.{means_steps, next_answer}
use Rattle.bb_interpreter.specs.Outside.{Outside, known_value}
use Rattle.bb_interpreter.specs.Standing.{Act, Answer, Standing, GoesOn, Stops, Meaning, with_status}
use Rattle.bb_interpreter.specs.Variables.{variable_pair}

-- where a run stands, with the acts so far, the answers still to come, and what is left of memory
abbrev pub standing_of : {C D : Type 0} → ScriptRun C → D → List (Act C D) → List (Answer C D) → Option ℕ → Standing C D
standing_of run device acts answers grants = record {
  outside = run.commands;
  device = device;
  own = map variable_pair run.variables.items;
  text = run.text;
  status = run.status;
  count = run.count;
  answers = answers;
  grants = grants;
  acts = acts;
}

-- before any command
pub record HasRunNothing {C : Type 0} (run : ScriptRun C) : Type 0 where
  pub variables : run.variables.items ≡ []
  pub text : run.text ≡ []
  pub status : run.status ≡ 0
  pub count : run.count ≡ 0

-- what a command from outside may do
abbrev pub CallGives : Type 0 → Type 0 → Type 1
CallGives C D = List (List ℕ) → C → D → Reply → C → D → Type 0

abbrev pub IsAct : {C D : Type 0} → CallGives C D → Act C D → Type 0
IsAct gives act = gives act.words act.before act.on act.answer.reply act.answer.outside act.answer.device

abbrev pub act_answer : {C D : Type 0} → Act C D → Answer C D
act_answer act = act.answer

-- the values of variables that a run has
abbrev pub script_values : {C : Type 0} → Outside C → ScriptRun C → List ℕ → List ℕ
script_values o run = known_value o run.commands (map variable_pair run.variables.items)

-- ---- a whole script

-- its end, where the last command left a run
abbrev pub course_of : {C D : Type 0} → ScriptEnd → Meaning C D
course_of (ends.Done status) at = with_status status at
course_of ends.Started at = Stops Started at
course_of ends.StepLimit at = Stops StepLimit at
course_of ends.Fault at = Stops Fault at
course_of ends.NoMemory at = Stops NoMemory at

abbrev pub ends_done : ScriptEnd → Bool
ends_done (ends.Done status) = true
ends_done ends.Started = false
ends_done ends.StepLimit = false
ends_done ends.Fault = false
ends_done ends.NoMemory = false

-- The run called commands from outside, and by what they answered, and whatever would be answered
-- later, it did what the script means. After NoMemory it did so up to where memory was granted no
-- more.
pub record RanScript {C D : Type 0} (gives : CallGives C D) (o : Outside C) (script : ScriptTree)
    (old new : ScriptRun C) (from to : D) (end : ScriptEnd) : Type 0 where
  pub acts : List (Act C D)
  pub called : AllByRecursion (IsAct gives) acts
  pub whole : end ≢ ends.NoMemory → (later : List (Answer C D))
      → means_steps o next_answer script (standing_of old from [] (map act_answer acts ++ later) None)
      ≡ course_of end (standing_of new to acts later None)
  pub asked : ℕ
  pub front : end ≡ ends.NoMemory → (later : List (Answer C D))
      → means_steps o next_answer script (standing_of old from [] (map act_answer acts ++ later) (Some asked))
      ≡ Stops NoMemory (standing_of new to acts later (Some 0))

-- ---- a part of one

-- what is meant after a call that answered so: nothing more, or a stop
abbrev pub ending : {X C D : Type 0} → Result X ScriptStop → Meaning C D
ending (Ok x) at = GoesOn at
ending (Err stop) at = Stops stop at

-- what a stop leaves of memory: none, where that is why
abbrev pub LeftAt : ScriptStop → Option ℕ → Type 0
LeftAt NoMemory grants = grants ≡ Some 0
LeftAt Started grants = Unit {0}
LeftAt StepLimit grants = Unit {0}
LeftAt Fault grants = Unit {0}

abbrev pub LeftBy : {X : Type 0} → Result X ScriptStop → Option ℕ → Type 0
LeftBy (Ok x) grants = Unit {0}
LeftBy (Err stop) grants = LeftAt stop grants

abbrev pub more_grants : ℕ → Option ℕ → Option ℕ
more_grants asked None = None
more_grants asked (Some n) = Some (asked + n)

-- By what was answered, what one means where a run stood is what two means where it stands, for all
-- that may be left of memory.
pub record Leads {C D : Type 0} (gives : CallGives C D) (LeavesMemory : Option ℕ → Type 0)
    (one two : Meaning C D) (old new : ScriptRun C) (from to : D) : Type 0 where
  pub acts : List (Act C D)
  pub called : AllByRecursion (IsAct gives) acts
  pub asked : ℕ
  pub does :
      (before : List (Act C D)) (later : List (Answer C D)) (left : Option ℕ) → LeavesMemory left →
      one (standing_of old from before (map act_answer acts ++ later) (more_grants asked left))
      ≡ two (standing_of new to (before ++ acts) later left)
