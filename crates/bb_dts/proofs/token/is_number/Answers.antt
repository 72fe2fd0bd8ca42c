use Rattle.std.proofs.Common.{sym}
use Rattle.bb_dts.specs.Numbers.{number_value}
use Rattle.bb_dts.proofs.NumberLemmas.{in_64_bits-malformed}
use Rattle.bb_dts.proofs.token.is_number.Goals as goal

pub returns-in-Err-Malformed-clause-value : goal.returns-in-Err-Malformed-clause-value
returns-in-Err-Malformed-clause-value c = sym (in_64_bits-malformed (number_value c.args.word.now) (cc))
