-- What a script over a state and a board did.
use Rattle.std.specs.Prelude.{◌≡◌, ◌≢◌, ℕ, true, List, [], ◌∷◌, ◌++◌, Option, Some, None, is_some}
use Rattle.std.specs.List.{AllByRecursion}
use Rattle.bb_copies.specs.declared.answers.CopyFault.{CopyFault}
use Rattle.bb_flash.specs.Device.{Device}
use Rattle.bb_script.specs.Tree.{ScriptTree}
use Rattle.bb_interpreter.specs.declared.run.ScriptEnd.{ScriptEnd}
use Rattle.bb_interpreter.specs.declared.run.ScriptEnd.TheVariants as ends
use Rattle.bb_interpreter.specs.declared.run.ScriptRun.{ScriptRun}
use Rattle.bb_interpreter.specs.Runs.{CallGives, HasRunNothing, IsAct, RanScript}
use Rattle.bb_interpreter.specs.Standing.{Act}
use Rattle.bb_shell.specs.Boot.{Round}
use Rattle.bb_shell.specs.Sequence.{goes_on, refused_in, started_last}
use Rattle.bb_script_commands.specs.Calling.{HasCalled}
use Rattle.bb_script_commands.specs.Held.{Held, known_of}
use Rattle.bb_script_commands.specs.Playing.{AreScriptRounds, IsPlayed}
use Rattle.bb_script_commands.specs.Ran.{RanFor}
use Rattle.bb_script_commands.specs.StateNames.{state_outside}
use Rattle.bb_script_commands.specs.declared.run_end.RunEnd.{RunEnd}
use Rattle.bb_script_commands.specs.declared.run_end.RunEnd.TheVariants as run_ends
use Rattle.bb_script_commands.specs.declared.run_end.RunResult.{RunResult}

-- what a call of a command gives, on devices that mean these
abbrev pub calls_on : {D : Type 0} → (D → Device) → CallGives Held D
calls_on device words before from answer after to =
    HasCalled words before (device from) answer after (device to)

-- the rounds of all commands that were called, in their order
unfoldable pub called_rounds : {D : Type 0} (device : D → Device) (acts : List (Act Held D))
    → AllByRecursion (IsAct (calls_on device)) acts → List Round
called_rounds device [] called = []
called_rounds device (act ∷ later) called =
    called.0.called.rounds ++ called_rounds device later called.1

-- ---- its end

-- the end of a script, with the fault that ended it
abbrev pub IsRunEnd : ScriptEnd → Option CopyFault → RunEnd → Type 0
IsRunEnd (ends.Done status) fault end = end ≡ run_ends.Done status
IsRunEnd ends.Started fault end = end ≡ run_ends.Started
IsRunEnd ends.StepLimit fault end = end ≡ run_ends.StepLimit
IsRunEnd ends.Fault None end = ⊥
IsRunEnd ends.Fault (Some fault) end = end ≡ run_ends.Fault fault
IsRunEnd ends.NoMemory fault end = end ≡ run_ends.NoMemory

-- what its rounds are then: a start ends the script, and so does a save that is refused
abbrev pub EndsBy : ScriptEnd → List Round → Type 0
EndsBy (ends.Done status) rounds = goes_on rounds ≡ true
EndsBy ends.Started rounds = started_last rounds ≡ true
EndsBy ends.StepLimit rounds = goes_on rounds ≡ true
EndsBy ends.Fault rounds = is_some (refused_in rounds) ≡ true
EndsBy ends.NoMemory rounds = refused_in rounds ≡ None

-- ---- all of it

-- These rounds were run one after another, as the script's end says.
pub record RanAll (before after : Held) (from to : Device) (end : ScriptEnd) (rounds : List Round)
    : Type 0 where
  pub ran : RanFor before after from to rounds
  pub ends : EndsBy end rounds

-- it did what it means, by what its commands did and answered, and their rounds were run so
pub record RanOver {D : Type 0} (device : D → Device) (script : ScriptTree) (before : Held)
    (from to : D) (result : RunResult) : Type 0 where
  pub old : ScriptRun Held
  pub new : ScriptRun Held
  pub end : ScriptEnd
  pub fresh : HasRunNothing old
  pub begins : old.commands ≡ before
  pub ran : RanScript (calls_on device) state_outside script old new from to end
  pub text : result.text ≡ new.text
  pub end_is : IsRunEnd end new.commands.so_far.fault result.end
  pub table : result.state.table ≡ new.commands.table
  pub backing : result.state.backing ≡ new.commands.backed
  pub all :
      RanAll before new.commands (device from) (device to) end
      (called_rounds device ran.acts ran.called)
  -- they are those of so many calls
  pub calls : AreScriptRounds (known_of before) (called_rounds device ran.acts ran.called)
  -- the rounds, the text and the end follow from what was answered to these rounds, and where
  -- memory was refused also from how often it was granted
  pub grants : Option ℕ
  pub played :
      IsPlayed script (known_of before) (called_rounds device ran.acts ran.called) grants end
      result.text
  pub granted : end ≢ ends.NoMemory → grants ≡ None
