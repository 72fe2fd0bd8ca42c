use Rattle.std.proofs.Common.{◌≡◌, ◌*◌, replicate, option_map}
use Rattle.bb_flash.specs.Device.{erases}
use Rattle.bb_bucket.specs.Front.{put_at}
use Rattle.bb_install.specs.Ranges.{block_ranges}
use Rattle.bb_install.specs.Writing.{SlotWrites, erases_of_slot}
use Rattle.bb_install.proofs.Making.{RunsOn}
use Rattle.bb_install.proofs.erase.erase_slot.Given as goal

-- so many blocks were erased
abbrev pub invariant-loop-k : goal.invariant-loop-k
invariant-loop-k g l =
    let from = g.F.Flash.device l.fn.flash in
    let now = g.F.Flash.device l.flash in
    record {
      calls : RunsOn l.slot from now;
      writes : SlotWrites (block_ranges from.geometry.block l.slot l.k) l.slot (put_at from.geometry.page 0 (replicate (l.k * from.geometry.block) 255)) from now;
      erased : erases now ≡ option_map (erases_of_slot from.geometry l.slot l.k) (erases from);
    }
