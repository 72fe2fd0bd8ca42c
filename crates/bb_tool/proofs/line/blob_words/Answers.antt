use Rattle.std.proofs.Common.{rules}
use Rattle.bb_tool.proofs.line.blob_words.Goals as goal

pub returns-in-BadToken : goal.returns-in-BadToken
returns-in-BadToken c = search rules
