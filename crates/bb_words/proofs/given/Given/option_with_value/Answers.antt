use Rattle.std.proofs.Common.{rules}
use Rattle.bb_words.proofs.given.Given.option_with_value.Goals as goal

pub returns : goal.returns
returns c = search rules
