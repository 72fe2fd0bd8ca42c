use Rattle.std.proofs.Common.{◌≡◌, ◌-◌, ◌<◌, ◌≤◌, ◌%◌, length, take}
use Rattle.std.specs.Option.{ForSome}
use Rattle.bb_flash.specs.Device.{content}
use Rattle.bb_bucket.specs.Calls.{IsQuiet}
use Rattle.bb_install.specs.Holding.{HasBytesAt}
use Rattle.bb_install.proofs.page_difference.page_difference.Given as goal

-- the bytes so far stand at their place
abbrev pub invariant-loop-done : goal.invariant-loop-done
invariant-loop-done g l =
    let from = g.F.Flash.device l.fn.flash in
    let now = g.F.Flash.device l.flash in
    record {
      inside : l.done ≤ length l.bytes;
      aligned : l.done < length l.bytes → l.done % from.geometry.page ≡ 0;
      stands : ForSome (content from) (λ held. HasBytesAt from.geometry.page held l.at (take l.done l.bytes));
      quiet : IsQuiet from now;
      faults : now.faults ≡ from.faults;
      read_faults : now.read_faults ≡ from.read_faults;
      sized : length l.buffer ≡ length l.fn.buffer;
    }

abbrev pub decreases-loop-done : goal.decreases-loop-done
decreases-loop-done g l = length l.bytes - l.done
