use Rattle.std.proofs.Common.{arith}
use Rattle.bb_chooser.proofs.Counts.{few_targets}
use Rattle.bb_chooser.proofs.chooser.Chooser.count.Goals as goal

pub returns-clause-few : goal.returns-clause-few
returns-clause-few c = let few = few_targets _ c.self.invariant in omega (arith, few, c.len.ensures)
