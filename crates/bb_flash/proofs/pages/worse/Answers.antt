use Rattle.std.proofs.Common.{rules}
use Rattle.bb_flash.proofs.pages.worse.Goals as goal

pub returns-in-Lost-default : goal.returns-in-Lost-default
returns-in-Lost-default c = search rules
