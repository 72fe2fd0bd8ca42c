-- What a drill as a session counts and sends. Its sessions are the program's own, on a board in
-- memory; what is drawn for them follows from its two numbers.
use Rattle.std.specs.Prelude.{◌≡◌, Option, Some, None, Result, Ok, Err}
use Rattle.bb_drill.specs.Draws.{draws_of}
use Rattle.bb_drill.specs.Drill.{CountsDraws}
use Rattle.bb_drill.specs.declared.counts.DrillCounts.{DrillCounts}
use Rattle.bb_drill_sessions.specs.Undisturbed.{session_runs}
use Rattle.bb_plan.specs.Plan.{Compared, Drilled, EarlyEnd, Printed, Refused, SessionPlan}
use Rattle.bb_session.specs.DrillLine.{drill_line}
use Rattle.bb_session.specs.declared.report.Report.{Report}
use Rattle.bb_words.specs.declared.command.DrillNumbers.{DrillNumbers}

-- a drill may count this
abbrev pub MayCount : DrillNumbers → DrillCounts → Type 0
MayCount numbers counts = CountsDraws session_runs (draws_of numbers.number numbers.count) counts

abbrev pub IsCounted : DrillNumbers → Option DrillCounts → Type 0
IsCounted numbers None = ⊥
IsCounted numbers (Some counts) = MayCount numbers counts

-- a drill was run exactly where the plan asks for one, and counted this
abbrev pub IsDrilled : Result SessionPlan EarlyEnd → Option DrillCounts → Type 0
IsDrilled (Ok plan) drill = drill ≡ None
IsDrilled (Err (Printed text)) drill = drill ≡ None
IsDrilled (Err (Drilled numbers)) drill = IsCounted numbers drill
IsDrilled (Err (Compared place)) drill = drill ≡ None
IsDrilled (Err (Refused refusal)) drill = drill ≡ None

-- the report of a drill is the line of what it counted
pub record IsDrillReport (numbers : DrillNumbers) (report : Report) : Type 0 where
  pub counts : DrillCounts
  pub counted : MayCount numbers counts
  pub is : report ≡ record { text = drill_line counts; refusal = None }
