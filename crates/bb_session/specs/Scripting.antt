-- What is sent of a script, by its play.
use Rattle.std.specs.Prelude.{◌≡◌, ℕ, ◌==◌, Bool, true, false, List, [], Option, Some, None, Result, Ok, Err, if◌then◌else◌}
use Rattle.std.specs.Option.{option_map}
use Rattle.bb_copies.specs.declared.answers.CopyFault.{CopyFault}
use Rattle.bb_interpreter.specs.Standing.{Course}
use Rattle.bb_interpreter.specs.declared.run.ScriptEnd.{ScriptEnd}
use Rattle.bb_interpreter.specs.declared.run.ScriptEnd.TheVariants as ends
use Rattle.bb_plan.specs.Refusal.{copy_refusal}
use Rattle.bb_plan.specs.declared.refusal.Refusal.{Refusal}
use Rattle.bb_plan.specs.declared.refusal.Refusal.TheVariants as refusals
use Rattle.bb_script_commands.specs.Playing.{Played, course_at, course_end}
use Rattle.bb_script_commands.specs.declared.run_end.RunEnd.{RunEnd}
use Rattle.bb_script_commands.specs.declared.run_end.RunEnd.TheVariants as run_ends
use Rattle.bb_session.specs.declared.report.Report.{Report}

-- ---- by its play

-- memory was refused between two of its commands
abbrev pub is_starved : ScriptEnd → Bool
is_starved (ends.Done status) = false
is_starved ends.Started = false
is_starved ends.StepLimit = false
is_starved ends.Fault = false
is_starved ends.NoMemory = true

-- all that it sent, also where a fault, a status or the number of its commands ended it; nothing
-- where memory was refused
abbrev pub text_by_end : ScriptEnd → List ℕ → List ℕ
text_by_end end text = if is_starved end then [] else text

abbrev pub script_text : Course Played (Unit {0}) → List ℕ
script_text play = text_by_end (course_end play) (course_at play).text

-- the refusal of a script whose last command had this status
abbrev pub status_refusal : ℕ → Option Refusal
status_refusal status = if status == 0 then None else Some (refusals.ScriptFailed status)

-- and of each end, where the script's last save was refused for this fault, if it was
abbrev pub refusal_by_end : ScriptEnd → Option CopyFault → Option Refusal
refusal_by_end (ends.Done status) fault = status_refusal status
refusal_by_end ends.Started fault = None
refusal_by_end ends.StepLimit fault = Some refusals.StepLimit
refusal_by_end ends.Fault fault = option_map copy_refusal fault
refusal_by_end ends.NoMemory fault = Some refusals.NoMemory

-- ---- by its end as the code has it

-- it was reported with its text, and the refusal after it, if there is one
abbrev pub IsReported : List ℕ → Option Refusal → Result Report Refusal → Type 0
IsReported text refusal given = given ≡ Ok (record { text = text; refusal = refusal })

abbrev pub ReportsRun : List ℕ → RunEnd → Result Report Refusal → Type 0
ReportsRun text (run_ends.Done status) given = IsReported text (status_refusal status) given
ReportsRun text run_ends.Started given = IsReported text None given
ReportsRun text run_ends.StepLimit given = IsReported text (Some refusals.StepLimit) given
ReportsRun text (run_ends.Fault fault) given = IsReported text (Some (copy_refusal fault)) given
ReportsRun text run_ends.NoMemory given = given ≡ Err refusals.NoMemory
