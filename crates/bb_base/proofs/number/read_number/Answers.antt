use Rattle.std.proofs.Common.{rules, arith}
use Rattle.std.proofs.lemmas.Grind.{common_steps}
use Rattle.bb_base.proofs.number.read_number.Goals as goal

pub returns-in-48-clause-value : goal.returns-in-48-clause-value
returns-in-48-clause-value c = grind (arith, common_steps)

pub returns-in-48-clause-not_number : goal.returns-in-48-clause-not_number
returns-in-48-clause-not_number c = grind (arith, common_steps)

pub returns-in-48-clause-too_large : goal.returns-in-48-clause-too_large
returns-in-48-clause-too_large c = grind (arith, common_steps)

pub returns-in_default-clause-value : goal.returns-in_default-clause-value
returns-in_default-clause-value c = search rules

pub returns-in_default-clause-not_number : goal.returns-in_default-clause-not_number
returns-in_default-clause-not_number c = search rules

pub returns-in_default-clause-too_large : goal.returns-in_default-clause-too_large
returns-in_default-clause-too_large c = search rules
