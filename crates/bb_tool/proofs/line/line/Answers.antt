use Rattle.std.proofs.Common.{◌∙◌, ap}
use Rattle.bb_plan.specs.Status.{code_of, status_name}
use Rattle.bb_tool.proofs.Lines.{line_made}
use Rattle.bb_tool.proofs.line.line.Goals as goal

pub returns : goal.returns
returns c =
    line_made c.format.result c.args.refusal.now c.code.result c.name.result.now _ (c.code.ensures ∙ ap code_of c.status-status.ensures)
    (c.name.ensures ∙ ap status_name c.status-status.ensures) c.in_ok-detail.ensures c.format.ensures.ok
