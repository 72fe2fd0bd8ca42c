use Rattle.bb_interpreter.proofs.Flow.{count_full, count_more}
use Rattle.bb_interpreter.proofs.simple.count.Goals as goal

pub returns-then-run-ge-STEP_LIMIT-clause-leads : goal.returns-then-run-ge-STEP_LIMIT-clause-leads
returns-then-run-ge-STEP_LIMIT-clause-leads g c device =
    count_full g.C.Commands.call_gives c.args.run.now device c.if-run-ge-STEP_LIMIT.true

pub returns-clause-leads : goal.returns-clause-leads
returns-clause-leads g c device =
    count_more g.C.Commands.call_gives c.args.run.now device c.if-run-ge-STEP_LIMIT.false
