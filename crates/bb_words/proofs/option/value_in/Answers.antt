use Rattle.std.proofs.Common.{rules}
use Rattle.bb_words.proofs.option.value_in.Goals as goal

pub returns : goal.returns
returns c = search rules
