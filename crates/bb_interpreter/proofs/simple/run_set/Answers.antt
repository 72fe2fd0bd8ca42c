use Rattle.std.proofs.Common.{sym, ◌∙◌}
use Rattle.std.proofs.lemmas.Result.{err_from_is_err_and}
use Rattle.bb_interpreter.specs.declared.stop.ScriptStop.TheVariants as stop
use Rattle.bb_interpreter.specs.Assigned.{assigned_name, assigned_rest}
use Rattle.bb_interpreter.specs.Means.{assigns}
use Rattle.bb_interpreter.specs.Runs.{LeftAt}
use Rattle.bb_interpreter.specs.Standing.{GoesOn, Stops, counts_one}
use Rattle.bb_interpreter.proofs.Joins.{Whatever, leads_then}
use Rattle.bb_interpreter.proofs.SimpleLemmas.{assign_starved, assigned_none, assigned_some, assigned_stop, counted_then, with_new_status}
use Rattle.bb_interpreter.proofs.simple.run_set.Goals as goal

pub returns-in_err-count-clause-leads : goal.returns-in_err-count-clause-leads
returns-in_err-count-clause-leads g c =
    let d = c.args.device.now in
    let e = c.in_err-count.field-0.0 in
    let p = err_from_is_err_and c.from_residual.result c.from_residual.ensures.1 in
    rw (p.1, p.2)
    (leads_then g.C.Commands.call_gives (LeftAt e) counts_one (λ at. Stops e at) (assigns g.C.Commands.outside (assigned_name c.args.assignment.now) (assigned_rest c.args.assignment.now)) c.args.run.now c.count.new.run d d
    (c.in_err-count.ensures.leads d))

pub returns-in_err-expand_value-clause-leads : goal.returns-in_err-expand_value-clause-leads
returns-in_err-expand_value-clause-leads g c =
    let d = c.args.device.now in
    let name = assigned_name c.args.assignment.now in
    let rest = assigned_rest c.args.assignment.now in
    let p = err_from_is_err_and c.from_residual-in_err-expand_value.result c.from_residual-in_err-expand_value.ensures.1 in
    rw (p.1, p.2)
    (counted_then g.C.Commands.call_gives (LeftAt stop.NoMemory) (assigns g.C.Commands.outside name rest) (λ at. Stops stop.NoMemory at) c.args.run.now c.count.new.run c.count.new.run d d
    (c.in_ok-count.ensures.leads d)
    (assign_starved g.C.Commands.call_gives g.C.Commands.outside name rest c.count.new.run d))

pub returns-in-None-clause-leads : goal.returns-in-None-clause-leads
returns-in-None-clause-leads g c =
    let d = c.args.device.now in
    let name = assigned_name c.args.assignment.now in
    let rest = assigned_rest c.args.assignment.now in
    counted_then g.C.Commands.call_gives Whatever (assigns g.C.Commands.outside name rest) GoesOn c.args.run.now c.count.new.run (with_new_status c.count.new.run 1) d d
    (c.in_ok-count.ensures.leads d)
    (assigned_none g.C.Commands.call_gives g.C.Commands.outside name rest c.count.new.run d (sym c.in_ok-expand_value.ensures ∙ c.in-None.is))

pub returns-in_err-status-in-Some-clause-leads : goal.returns-in_err-status-in-Some-clause-leads
returns-in_err-status-in-Some-clause-leads g c =
    let d = c.args.device.now in
    let e = c.in_err-status-in-Some.field-0.0 in
    let name = assigned_name c.args.assignment.now in
    let rest = assigned_rest c.args.assignment.now in
    let p = err_from_is_err_and c.from_residual-in_err-status-in-Some.result c.from_residual-in_err-status-in-Some.ensures.1 in
    rw (p.1, p.2)
    (counted_then g.C.Commands.call_gives (LeftAt e) (assigns g.C.Commands.outside name rest) (λ at. Stops e at) c.args.run.now c.count.new.run c.put.new.run d d
    (c.in_ok-count.ensures.leads d)
    (assigned_stop g.C.Commands.call_gives g.C.Commands.outside e name rest c.in-Some.value c.assigned_name.result.now c.as_slice.result.now c.count.new.run c.put.new.run d (sym c.in_ok-expand_value.ensures ∙ c.in-Some.is) c.assigned_name.ensures c.as_slice.ensures
    (c.in_err-status-in-Some.ensures.leads d)))

pub returns-in_ok-status-in-Some-clause-leads : goal.returns-in_ok-status-in-Some-clause-leads
returns-in_ok-status-in-Some-clause-leads g c =
    let d = c.args.device.now in
    let name = assigned_name c.args.assignment.now in
    let rest = assigned_rest c.args.assignment.now in
    counted_then g.C.Commands.call_gives Whatever (assigns g.C.Commands.outside name rest) GoesOn c.args.run.now c.count.new.run (with_new_status c.put.new.run c.in_ok-status-in-Some.status) d d
    (c.in_ok-count.ensures.leads d)
    (assigned_some g.C.Commands.call_gives g.C.Commands.outside name rest c.in-Some.value c.assigned_name.result.now c.as_slice.result.now c.in_ok-status-in-Some.status c.count.new.run c.put.new.run d (sym c.in_ok-expand_value.ensures ∙ c.in-Some.is) c.assigned_name.ensures c.as_slice.ensures
    (c.in_ok-status-in-Some.ensures.leads d) c.in_ok-status-in-Some.ensures.status)
