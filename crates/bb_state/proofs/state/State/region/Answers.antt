use Rattle.std.proofs.Common.{◌∙◌, Some, ap, arith}
use Rattle.bb_flash.specs.declared.region.Region.{Region}
use Rattle.bb_layout.specs.Layout.{fields_of}
use Rattle.bb_state.proofs.Places.{region_none, region_there}
use Rattle.bb_state.proofs.state.State.region.Goals as goal

pub returns-then-copy-layout : goal.returns-then-copy-layout
returns-then-copy-layout c =
    ap (λ (r : Region). Some r) c.region.ensures.value
    ∙ region_there (fields_of c.layout-layout.result.now) _ c.args.copy c.layout-layout.ensures c.if-copy-layout.true

pub returns-else-copy-layout : goal.returns-else-copy-layout
returns-else-copy-layout c =
    region_none (fields_of c.layout-layout.result.now) _ c.args.copy c.layout-layout.ensures (omega (arith, c.if-copy-layout.false))
