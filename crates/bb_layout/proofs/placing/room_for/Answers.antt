use Rattle.std.proofs.Common.{rules}
use Rattle.bb_layout.proofs.Standing.{next_below}
use Rattle.bb_layout.proofs.placing.room_for.Goals as goal

pub returns-in-Stride : goal.returns-in-Stride
returns-in-Stride c = search (rules, next_below)
