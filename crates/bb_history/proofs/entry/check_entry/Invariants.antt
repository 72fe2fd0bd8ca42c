use Rattle.std.proofs.Common.{◌≡◌, ◌≤◌, ◌-◌, List, ℕ, drop, length, take}
use Rattle.std.specs.Option.{ForSome}
use Rattle.bb_flash.specs.Device.{content}
use Rattle.bb_bucket.specs.Calls.{IsQuiet}
use Rattle.bb_bucket.specs.Kind.{part_of}
use Rattle.bb_history.proofs.Passing.{IsAlive}
use Rattle.bb_history.proofs.entry.check_entry.Given as goal

abbrev pub invariant-loop-from : goal.invariant-loop-from
invariant-loop-from g l =
    let from = g.F.Flash.device l.fn.flash in
    let now = g.F.Flash.device l.flash in
    record {
      inside : l.from ≤ l.last;
      fed :
          (fed : List ℕ) × (g.M.Format.holds l.format l.feed fed l.area)
          × (ForSome (content from) (λ image.
          fed ≡ take l.from (drop l.entry.at (part_of l.block.page l.block.region image).bytes)));
      alive : ForSome (content from) (λ image.
          IsAlive l.block.page (part_of l.block.page l.block.region image) l.entry.at l.from);
      quiet : IsQuiet from now;
      faults : now.faults ≡ from.faults;
      read_faults : now.read_faults ≡ from.read_faults;
      piece : length l.piece ≡ length l.fn.piece;
      area : length l.area ≡ length l.fn.area;
    }

abbrev pub decreases-loop-from : goal.decreases-loop-from
decreases-loop-from g l = l.last - l.from
