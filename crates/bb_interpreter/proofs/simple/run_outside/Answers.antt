use Rattle.std.proofs.Common.{sym, ◌∙◌}
use Rattle.bb_interpreter.proofs.SimpleLemmas.{not_there, was_called}
use Rattle.bb_interpreter.proofs.simple.run_outside.Goals as goal

pub returns-then-not-has_command-clause-leads : goal.returns-then-not-has_command-clause-leads
returns-then-not-has_command-clause-leads g c =
    not_there g.C.Commands.call_gives g.C.Commands.outside c.args.name.now c.args.fields.now c.args.run.now c.args.device.now
    (sym c.has_command.ensures ∙ c.if-not-has_command.true)

pub returns-clause-leads : goal.returns-clause-leads
returns-clause-leads g c =
    was_called g.C.Commands.call_gives g.C.Commands.outside _ _ c.args.name.now c.args.fields.now c.call-reply.result c.args.run.now (record c.args.run.now { commands = c.call-reply.new.self }) c.take_reply.new.run c.args.device.now c.call-reply.new.device c.call-reply.new.device
    (sym c.has_command.ensures ∙ c.if-not-has_command.false) c.call-reply.ensures.gives
    (c.take_reply.ensures.leads c.call-reply.new.device)
