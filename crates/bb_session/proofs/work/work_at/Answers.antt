use Rattle.std.proofs.Common.{◌∙◌, ap}
use Rattle.bb_plan.specs.declared.plan.Work.{Work}
use Rattle.bb_session.specs.Doing.{page_len}
use Rattle.bb_session.proofs.work.work_at.Goals as goal

pub install-requires-clause-page : goal.install-requires-clause-page
install-requires-clause-page g c =
    c.requires.page ∙ ap (λ (work : Work). page_len (g.B.Flash.device c.args.board.now).geometry work) c.in-Install.is
