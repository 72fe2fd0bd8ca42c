use Rattle.std.proofs.Common.{arith}
use Rattle.std.proofs.lemmas.Grind.{common_steps}
use Rattle.bb_bls.proofs.ValueSteps.{join_first, join_taken}
use Rattle.bb_bls.proofs.values.join_values.Goals as goal

pub loop-i-preserved : goal.loop-i-preserved
loop-i-preserved c = elim c.if-i-gt0.branch [
  | goal.then-i-gt0+in_ok-push w ↦ grind (arith, common_steps, join_taken)
  | goal.else-i-gt0 w ↦ grind (arith, common_steps, join_first)
]
