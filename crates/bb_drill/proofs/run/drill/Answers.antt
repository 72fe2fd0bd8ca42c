use Rattle.std.proofs.Common.{◌≡◌, length, ap, arith, ◌∙◌}
use Rattle.bb_drill.proofs.Drawing.{length-draws_from}
use Rattle.bb_drill.proofs.run.drill.Goals as goal

pub run_in_order-requires : goal.run_in_order-requires
run_in_order-requires g c =
    let long : length c.deref.result.now ≡ c.args.count = ap length (c.deref.ensures.value ∙ c.in_ok-drawn.ensures) ∙ length-draws_from c.args.number c.args.count in
    omega (arith, long, c.ranges.count.fits)
