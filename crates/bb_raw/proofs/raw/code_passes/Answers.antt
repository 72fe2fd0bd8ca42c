use Rattle.std.proofs.Common.{rules}
use Rattle.bb_raw.proofs.raw.code_passes.Goals as goal

pub returns-in-None : goal.returns-in-None
returns-in-None c = search rules
