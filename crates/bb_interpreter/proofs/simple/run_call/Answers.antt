use Rattle.std.proofs.Common.{ap, map, sym, ◌∙◌}
use Rattle.std.proofs.lemmas.Result.{err_from_is_err_and}
use Rattle.std.specs.Option.{option_map}
use Rattle.bb_script.specs.Words.{word_atoms}
use Rattle.bb_interpreter.specs.declared.stop.ScriptStop.TheVariants as stop
use Rattle.bb_interpreter.specs.Means.{calls, does_fields, next_answer}
use Rattle.bb_interpreter.specs.Runs.{LeftAt}
use Rattle.bb_interpreter.specs.Standing.{GoesOn, Stops, counts_one}
use Rattle.bb_interpreter.proofs.Joins.{Whatever, leads_from, leads_then}
use Rattle.bb_interpreter.proofs.SimpleLemmas.{call_starved, called_none, called_some, counted_then, with_new_status}
use Rattle.bb_interpreter.proofs.simple.run_call.Goals as goal

pub returns-in_err-count-clause-leads : goal.returns-in_err-count-clause-leads
returns-in_err-count-clause-leads g c =
    let d = c.args.device.now in
    let e = c.in_err-count.field-0.0 in
    let p = err_from_is_err_and c.from_residual.result c.from_residual.ensures.1 in
    rw (p.1, p.2)
    (leads_then g.C.Commands.call_gives (LeftAt e) counts_one (λ at. Stops e at) (calls g.C.Commands.outside next_answer (map word_atoms c.args.words.now)) c.args.run.now c.count.new.run d d
    (c.in_err-count.ensures.leads d))

pub returns-in_err-expanded-clause-leads : goal.returns-in_err-expanded-clause-leads
returns-in_err-expanded-clause-leads g c =
    let d = c.args.device.now in
    let words = map word_atoms c.args.words.now in
    let p = err_from_is_err_and c.from_residual-in_err-expanded.result c.from_residual-in_err-expanded.ensures.1 in
    rw (p.1, p.2 ∙ c.in_err-expanded.ensures.memory)
    (counted_then g.C.Commands.call_gives (LeftAt stop.NoMemory) (calls g.C.Commands.outside next_answer words) (λ at. Stops stop.NoMemory at) c.args.run.now c.count.new.run c.count.new.run d d
    (c.in_ok-count.ensures.leads d)
    (call_starved g.C.Commands.call_gives g.C.Commands.outside words c.count.new.run d))

pub returns-in-None-clause-leads : goal.returns-in-None-clause-leads
returns-in-None-clause-leads g c =
    let d = c.args.device.now in
    let words = map word_atoms c.args.words.now in
    counted_then g.C.Commands.call_gives Whatever (calls g.C.Commands.outside next_answer words) GoesOn c.args.run.now c.count.new.run (with_new_status c.count.new.run 1) d d
    (c.in_ok-count.ensures.leads d)
    (called_none g.C.Commands.call_gives g.C.Commands.outside words c.count.new.run d (sym c.in_ok-expanded.ensures.fields ∙ ap (option_map (λ f. f.items)) c.in-None.is))

pub returns-in-Some-clause-leads : goal.returns-in-Some-clause-leads
returns-in-Some-clause-leads g c =
    let d = c.args.device.now in
    let words = map word_atoms c.args.words.now in
    counted_then g.C.Commands.call_gives _ (calls g.C.Commands.outside next_answer words) _ c.args.run.now c.count.new.run c.run_fields.new.run d c.run_fields.new.device
    (c.in_ok-count.ensures.leads d)
    (called_some g.C.Commands.call_gives g.C.Commands.outside _ _ words c.in-Some.fields.items c.count.new.run c.run_fields.new.run d c.run_fields.new.device (sym c.in_ok-expanded.ensures.fields ∙ ap (option_map (λ f. f.items)) c.in-Some.is)
    (leads_from g.C.Commands.call_gives _ (does_fields g.C.Commands.outside next_answer c.in-Some.fields.items) (does_fields g.C.Commands.outside next_answer c.as_slice.result.now) _ c.count.new.run c.run_fields.new.run d c.run_fields.new.device (ap (does_fields g.C.Commands.outside next_answer) (sym c.as_slice.ensures.value))
    c.run_fields.ensures.leads))
