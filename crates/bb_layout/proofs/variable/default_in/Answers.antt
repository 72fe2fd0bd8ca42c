use Rattle.std.proofs.Common.{rules}
use Rattle.bb_layout.proofs.variable.default_in.Goals as goal

pub returns-in-Uint8 : goal.returns-in-Uint8
returns-in-Uint8 c = search rules

pub returns-in-Enum32 : goal.returns-in-Enum32
returns-in-Enum32 c = search rules
