use Rattle.std.proofs.Common.{◌≤◌, sym, subst}
use Rattle.bb_state.specs.Keyed.{Keyed}
use Rattle.bb_session.proofs.Unrefused.{tellable_of}
use Rattle.bb_session.proofs.work.do_work.Goals as goal

pub returns-clause-tellable : goal.returns-clause-tellable
returns-clause-tellable g c =
    tellable_of _ c.args.plan.work (g.B.Flash.device c.args.board.now) (g.B.Flash.device c.work_on.new.board) c.work_on.result
    (subst (λ (k : Keyed). k.layout.copies ≤ 3) (sym c.in_ok-state.ensures.keyed) c.args.plan.keyed.layout.facts.copied.most)
    c.work_on.ensures.gives
