use Rattle.std.proofs.Common.{◌≡◌, ◌≤◌, ◌/◌, length}
use Rattle.std.specs.Option.{ForSome}
use Rattle.bb_flash.specs.Device.{content}
use Rattle.bb_bucket.specs.Calls.{IsQuiet}
use Rattle.bb_bucket.specs.Kind.{part_of}
use Rattle.bb_circular.specs.PagesLaws.{IsLookedAt}
use Rattle.bb_circular.proofs.last_page.find_last_page.Given as goal

abbrev pub invariant-loop-pages : goal.invariant-loop-pages
invariant-loop-pages g l =
    let from = g.F.Flash.device l.fn.flash in
    let now = g.F.Flash.device l.flash in
    record {
      inside : l.pages ≤ l.block.region.size / l.block.page;
      looked : ForSome (content from) (λ image. IsLookedAt l.block.page (part_of l.block.page l.block.region image) l.pages);
      quiet : IsQuiet from now;
      faults : now.faults ≡ from.faults;
      read_faults : now.read_faults ≡ from.read_faults;
      sized : length l.page ≡ l.block.page;
    }

abbrev pub decreases-loop-pages : goal.decreases-loop-pages
decreases-loop-pages g l = l.pages
