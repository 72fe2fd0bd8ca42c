use Rattle.std.proofs.lemmas.Result.{err_from_is_err_and}
use Rattle.bb_interpreter.proofs.SimpleLemmas.{put_own_starved, put_refused, put_set, put_starved, put_unknown}
use Rattle.bb_interpreter.proofs.simple.put.Goals as goal

pub returns-in_err-set-clause-leads : goal.returns-in_err-set-clause-leads
returns-in_err-set-clause-leads g c device =
    let p = err_from_is_err_and c.from_residual.result c.from_residual.ensures.1 in
    rw (p.1, p.2)
    (put_starved g.C.Commands.call_gives g.C.Commands.outside c.args.name.now c.args.value.now c.args.run.now (record c.args.run.now { commands = c.set.new.self }) device
    c.in_err-set.ensures.err)

pub returns-in_err-set_own-in-Unknown-clause-leads : goal.returns-in_err-set_own-in-Unknown-clause-leads
returns-in_err-set_own-in-Unknown-clause-leads g c device =
    let p = err_from_is_err_and c.from_residual-in_err-set_own-in-Unknown.result c.from_residual-in_err-set_own-in-Unknown.ensures.1 in
    rw (p.1, p.2)
    (put_own_starved g.C.Commands.call_gives g.C.Commands.outside c.args.name.now c.args.value.now c.args.run.now (record c.args.run.now { commands = c.set.new.self; variables = c.set_own.new.variables }) _ device
    c.in_ok-set.ensures.ok c.in-Unknown.is c.in_err-set_own-in-Unknown.ensures.err)

pub returns-in_ok-set_own-in-Unknown-clause-leads : goal.returns-in_ok-set_own-in-Unknown-clause-leads
returns-in_ok-set_own-in-Unknown-clause-leads g c device =
    put_unknown g.C.Commands.call_gives g.C.Commands.outside c.args.name.now c.args.value.now c.args.run.now (record c.args.run.now { commands = c.set.new.self; variables = c.set_own.new.variables }) _ device
    c.in_ok-set.ensures.ok c.in-Unknown.is c.in_ok-set_own-in-Unknown.ensures.ok

pub returns-in-Refused-clause-leads : goal.returns-in-Refused-clause-leads
returns-in-Refused-clause-leads g c device =
    put_refused g.C.Commands.call_gives g.C.Commands.outside c.args.name.now c.args.value.now c.args.run.now (record c.args.run.now { commands = c.set.new.self }) _ device
    c.in_ok-set.ensures.ok c.in-Refused.is

pub returns-in-Set-clause-leads : goal.returns-in-Set-clause-leads
returns-in-Set-clause-leads g c device =
    put_set g.C.Commands.call_gives g.C.Commands.outside c.args.name.now c.args.value.now c.args.run.now (record c.args.run.now { commands = c.set.new.self }) _ device
    c.in_ok-set.ensures.ok c.in-Set.is
