use Rattle.std.proofs.Common.{◌++◌, ap, ◌∙◌}
use Rattle.bb_state.specs.Lines.{shell_line}
use Rattle.bb_state.proofs.Lists.{flat_map_next}
use Rattle.bb_state.proofs.lines.add_shell_dump.Goals as goal

pub loop-place-preserved : goal.loop-place-preserved
loop-place-preserved c =
    let line = shell_line c.args.layout.now.name c.args.area.now in
    c.in_ok-add_shell_line.ensures
    ∙ ap (λ name. c.loop-place.out ++ shell_line name c.args.area.now c.var_at-var.result.now) c.as_str.ensures
    ∙ ap (λ text. text ++ line c.var_at-var.result.now) c.loop-place.invariant
    ∙ flat_map_next line c.args.out.now c.args.layout.now.vars c.loop-place.place c.var_at-var.result.now c.var_at-var.ensures.var
