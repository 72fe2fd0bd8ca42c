use Rattle.std.proofs.Common.{Some, ◌∙◌, ap, sym}
use Rattle.bb_drill.specs.declared.command.DrillCommand.TheVariants.{Show}
use Rattle.bb_flash.specs.Memory.{device_of}
use Rattle.bb_plan.specs.Plan.{plan_as}
use Rattle.bb_state.specs.Keyed.{Keyed}
use Rattle.bb_state.specs.State.{keyed_of}
use Rattle.bb_drill_sessions.proofs.Looked.{found_on, only_looks}
use Rattle.bb_drill_sessions.proofs.Plans.{on_board}
use Rattle.bb_drill_sessions.proofs.look.look.Goals as goal

pub look_at-requires : goal.look_at-requires
look_at-requires c =
    c.in_ok-state.ensures.fresh (device_of c.args.board.now)
    (c.requires ∙ sym c.in_ok-plan.ensures.planned.laid.same_geometry ∙ sym (ap (λ (k : Keyed). k.layout.geometry) c.in_ok-state.ensures.keyed))
    c.geometry-whole.ensures.whole

pub returns-clause-found : goal.returns-clause-found
returns-clause-found c =
    found_on c.look_at.result (keyed_of c.in_ok-state.state) c.args.board.now c.requires
    ((on_board Show (plan_as c.in_ok-plan.plan) c.in_ok-plan.ensures.is).keyed ∙ sym (ap (λ (k : Keyed). Some k) c.in_ok-state.ensures.keyed))
    c.look_at.ensures.found

pub returns-clause-only : goal.returns-clause-only
returns-clause-only c = only_looks c.args.board.now c.look_at.new.flash c.look_at.ensures.quiet
