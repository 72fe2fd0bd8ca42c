use Rattle.std.proofs.Common.{subst, sym}
use Rattle.bb_plan.specs.declared.plan.Work.{Work}
use Rattle.bb_session.specs.Work.{IsWorkedOut}
use Rattle.bb_state.specs.State.{keyed_of}
use Rattle.bb_session.proofs.work.read.Goals as goal

pub returns-in-Show-clause-gives : goal.returns-in-Show-clause-gives
returns-in-Show-clause-gives g c =
    subst
    (λ (work : Work). IsWorkedOut (keyed_of c.args.state.now) work (g.F.Flash.device c.args.flash.now) (g.F.Flash.device c.look.new.flash) c.look.result)
    (sym c.in-Show.is) c.look.ensures.gives

pub returns-in-History-clause-gives : goal.returns-in-History-clause-gives
returns-in-History-clause-gives g c =
    subst
    (λ (work : Work). IsWorkedOut (keyed_of c.args.state.now) work (g.F.Flash.device c.args.flash.now) (g.F.Flash.device c.history.new.flash) c.history.result)
    (sym c.in-History.is) c.history.ensures.gives
