use Rattle.bb_plan.specs.Plan.{task_as, words_reading}
use Rattle.bb_plan.proofs.Planned.{words_unread}
use Rattle.bb_plan.proofs.Readings.{refused_by, same_reading}
use Rattle.bb_plan.proofs.planning.plan_session.Goals as goal

pub returns-in_err-command-clause-read : goal.returns-in_err-command-clause-read
returns-in_err-command-clause-read g c =
    words_unread c.args.words.now c.args.geometry _ c.in_err-command.field-0.0
    c.in_err-command.ensures.refused c.from_residual.result
    (refused_by c.from_residual.result c.from_residual.ensures.1)

pub returns-clause-read : goal.returns-clause-read
returns-clause-read g c =
    same_reading (λ w. words_reading w c.args.geometry) task_as c.in_ok-command.ensures.ok
    c.plan_command.ensures.read
