use Rattle.std.proofs.Common.{rules}
use Rattle.bb_tool.proofs.line.key_words.Goals as goal

pub returns-in-Empty : goal.returns-in-Empty
returns-in-Empty c = search rules

pub returns-in-BadHex : goal.returns-in-BadHex
returns-in-BadHex c = search rules
