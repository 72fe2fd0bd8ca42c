use Rattle.std.proofs.Common.{Ok, Err}
use Rattle.bb_tool.proofs.Endings.{answered_so}
use Rattle.bb_tool.proofs.session.answer.Goals as goal

pub returns-in-Ok-clause-session : goal.returns-in-Ok-clause-session
returns-in-Ok-clause-session g c =
    answered_so _ (Ok c.in-Ok.report) c.in-Ok.ensures.gives c.send_report.ensures.told

pub returns-in-Err-clause-session : goal.returns-in-Err-clause-session
returns-in-Err-clause-session g c =
    answered_so _ (Err c.in-Err.refusal) c.in-Err.ensures.gives c.send_refusal.ensures.told
