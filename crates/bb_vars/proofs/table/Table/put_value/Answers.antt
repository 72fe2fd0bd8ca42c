use Rattle.std.proofs.Common.{arith}
use Rattle.std.proofs.lemmas.Grind.{common_steps}
use Rattle.bb_vars.proofs.table.Table.put_value.Goals as goal

pub returns-clause-put : goal.returns-clause-put
returns-clause-put c = grind (arith, common_steps)

pub returns-clause-unchanged : goal.returns-clause-unchanged
returns-clause-unchanged c = grind (arith, common_steps)

pub returns-clause-same_length : goal.returns-clause-same_length
returns-clause-same_length c = grind (arith, common_steps)
