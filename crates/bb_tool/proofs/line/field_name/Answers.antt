use Rattle.std.proofs.Common.{rules}
use Rattle.bb_tool.proofs.line.field_name.Goals as goal

pub returns-in-Strings : goal.returns-in-Strings
returns-in-Strings c = search rules
