use Rattle.std.proofs.Common.{◌<◌, ◌∙◌, ap, arith, length, map, sym}
use Rattle.bb_bls.proofs.ValueSteps.{values_kept, values_pushed}
use Rattle.bb_bls.proofs.pairs.values.Goals as goal

pub loop-i-preserved : goal.loop-i-preserved
loop-i-preserved c =
    let key = c.args.key.now in
    let pairs = c.args.pairs.now in
    let i = c.loop-i.i in
    let inside : i < length pairs = omega (arith, c.loop-i-test.true) in
    elim c.if-eq.branch [
      | goal.then-eq+in_ok-push w ↦
          values_pushed key pairs i _ c.loop-i.values.items c.if-eq.values.items inside (sym w.if-eq.ensures)
          (ap (λ v. v.items) w.values-is ∙ w.in_ok-push.ensures.items) c.loop-i.invariant
      | goal.else-eq w ↦
          ap (λ v. map (λ y. y.now) v.items) w.values-is ∙ c.loop-i.invariant
          ∙ sym (values_kept key pairs i _ inside (sym w.if-eq.ensures))
    ]
