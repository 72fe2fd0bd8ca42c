use Rattle.std.proofs.Common.{arith}
use Rattle.bb_hmac.proofs.Refusals.{spelt_even, spelt_from_none}
use Rattle.bb_hmac.proofs.key.check.Goals as goal

pub returns-clause-ok : goal.returns-clause-ok
returns-clause-ok c = spelt_from_none c.args.digits.now (cc) (omega arith)

pub returns-clause-value : goal.returns-clause-value
returns-clause-value c = cc (spelt_even c.args.digits.now (cc) (cc) (omega arith))
