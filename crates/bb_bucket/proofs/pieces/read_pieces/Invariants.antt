use Rattle.std.proofs.Common.{◌≡◌, ◌≤◌, ◌-◌, length}
use Rattle.std.specs.Option.{ForSome}
use Rattle.bb_flash.specs.Device.{content}
use Rattle.bb_bucket.specs.Calls.{IsQuiet}
use Rattle.bb_bucket.specs.Kind.{part_of}
use Rattle.bb_bucket.proofs.InPieces.{IsReadTo}
use Rattle.bb_bucket.proofs.pieces.read_pieces.Given as goal

abbrev pub invariant-loop-end : goal.invariant-loop-end
invariant-loop-end g l =
    let from = g.F.Flash.device l.fn.flash in
    let now = g.F.Flash.device l.flash in
    record {
      inside : l.end ≤ l.len;
      ordered : l.from ≤ l.end;
      held : l.end - l.from ≤ length l.fn.memory;
      read : ForSome (content from) (λ image. IsReadTo from.geometry.page (part_of from.geometry.page l.region image) l.region.size l.at l.from l.end l.memory l.health);
      quiet : IsQuiet from now;
      faults : now.faults ≡ from.faults;
      read_faults : now.read_faults ≡ from.read_faults;
      sized : length l.memory ≡ length l.fn.memory;
    }

abbrev pub decreases-loop-end : goal.decreases-loop-end
decreases-loop-end g l = l.len - l.end
