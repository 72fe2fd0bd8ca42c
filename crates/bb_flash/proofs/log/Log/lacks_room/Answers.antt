use Rattle.std.proofs.Common.{rules}
use Rattle.bb_flash.proofs.log.Log.lacks_room.Goals as goal

pub returns : goal.returns
returns c = search rules
