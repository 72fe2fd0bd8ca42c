use Rattle.std.proofs.Common.{◌++◌, ap, ◌∙◌}
use Rattle.bb_state.specs.Lines.{dump_line}
use Rattle.bb_state.proofs.Lists.{flat_map_next}
use Rattle.bb_state.proofs.lines.add_dump.Goals as goal

pub loop-place-preserved : goal.loop-place-preserved
loop-place-preserved c =
    let line = dump_line c.args.area.now in
    c.in_ok-add_dump_line.ensures
    ∙ ap (λ text. text ++ line c.var_at.result.now) c.loop-place.invariant
    ∙ flat_map_next line c.args.out.now c.args.layout.now.vars c.loop-place.place c.var_at.result.now c.var_at.ensures.var
