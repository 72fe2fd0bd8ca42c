use Rattle.bb_drill.specs.declared.command.DrillCommand.TheVariants.{Show}
use Rattle.bb_plan.specs.Plan.{keyed_as, plan_as}
use Rattle.bb_drill_sessions.proofs.Looked.{first_on}
use Rattle.bb_drill_sessions.proofs.Plans.{on_board}
use Rattle.bb_drill_sessions.proofs.made.first_table.Goals as goal

pub returns : goal.returns
returns c =
    first_on c.defaults.result (keyed_as c.in_ok-plan.plan.keyed) (on_board Show (plan_as c.in_ok-plan.plan) c.in_ok-plan.ensures.is).keyed
    c.defaults.ensures
