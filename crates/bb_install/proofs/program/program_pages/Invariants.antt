use Rattle.std.proofs.Common.{◌≡◌, ◌*◌, length, take}
use Rattle.bb_flash.specs.Device.{erases}
use Rattle.bb_bucket.specs.Front.{put_at}
use Rattle.bb_install.specs.Ranges.{piece_ranges}
use Rattle.bb_install.specs.Writing.{SlotWrites}
use Rattle.bb_install.proofs.Making.{RunsOn}
use Rattle.bb_install.proofs.program.program_pages.Given as goal

-- so many pieces were programmed
abbrev pub invariant-loop-k : goal.invariant-loop-k
invariant-loop-k g l =
    let from = g.F.Flash.device l.fn.flash in
    let now = g.F.Flash.device l.flash in
    record {
      calls : RunsOn l.slot from now;
      writes : SlotWrites (piece_ranges l.len (length l.pages) l.slot l.k) l.slot (put_at from.geometry.page 0 (take (l.k * l.len) l.pages)) from now;
      erased : erases now ≡ erases from;
    }
