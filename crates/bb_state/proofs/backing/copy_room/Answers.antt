use Rattle.std.proofs.Common.{arith}
use Rattle.bb_state.proofs.backing.copy_room.Goals as goal

pub region-requires : goal.region-requires
region-requires c = let least = c.args.layout.now.facts.copied.least in omega arith
