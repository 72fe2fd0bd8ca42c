use Rattle.std.proofs.lemmas.Result.{err_from_is_err_and}
use Rattle.bb_interpreter.proofs.SimpleLemmas.{send_starved, sent}
use Rattle.bb_interpreter.proofs.simple.send.Goals as goal

pub returns-in_err-add-clause-leads : goal.returns-in_err-add-clause-leads
returns-in_err-add-clause-leads g c device =
    let p = err_from_is_err_and c.from_residual.result c.from_residual.ensures.1 in
    rw (p.1, p.2)
    (send_starved g.C.Commands.call_gives c.args.text.now c.add.new.self c.args.run.now device c.in_err-add.ensures.err)

pub returns-clause-leads : goal.returns-clause-leads
returns-clause-leads g c device =
    sent g.C.Commands.call_gives c.args.text.now c.add.new.self c.args.run.now device c.in_ok-add.ensures.ok
