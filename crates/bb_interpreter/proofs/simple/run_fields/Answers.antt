use Rattle.std.proofs.Common.{ap, sym, ◌∙◌}
use Rattle.bb_interpreter.specs.Means.{built_in_of}
use Rattle.bb_interpreter.proofs.SimpleLemmas.{named_built_in, no_fields, none_left}
use Rattle.bb_interpreter.proofs.simple.run_fields.Goals as goal

pub returns-in_default-clause-leads : goal.returns-in_default-clause-leads
returns-in_default-clause-leads g c =
    no_fields g.C.Commands.call_gives g.C.Commands.outside c.args.fields.now c.args.run.now c.args.device.now
    (none_left c.args.fields.now c.in_default.ensures.cases)

pub returns-in-Some-built_in_of-clause-leads : goal.returns-in-Some-built_in_of-clause-leads
returns-in-Some-built_in_of-clause-leads g c =
    named_built_in g.C.Commands.call_gives g.C.Commands.outside _ _ c.in-Some-built_in_of.built_in _ _ c.args.fields.now c.args.run.now c.run_built_in.new.run c.args.device.now c.args.device.now
    c.in-Some.ensures.cases.0
    (ap built_in_of (sym c.as_slice.ensures) ∙ sym c.built_in_of.ensures ∙ c.in-Some-built_in_of.is)
    (c.run_built_in.ensures.leads c.args.device.now)
