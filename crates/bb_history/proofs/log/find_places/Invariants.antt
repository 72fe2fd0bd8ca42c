use Rattle.std.proofs.Common.{◌≡◌, ◌≤◌, ◌/◌}
use Rattle.std.specs.Option.{ForSome}
use Rattle.bb_flash.specs.Device.{content}
use Rattle.bb_bucket.specs.Calls.{IsQuiet}
use Rattle.bb_bucket.specs.Kind.{part_of}
use Rattle.bb_history.specs.Reading.{AreFound, AreWithin, HasPageRoom}
use Rattle.bb_history.proofs.log.find_places.Given as goal

abbrev pub invariant-loop-pages : goal.invariant-loop-pages
invariant-loop-pages g l =
    let from = g.F.Flash.device l.fn.flash in
    let now = g.F.Flash.device l.flash in
    let form = g.M.Format.form l.format in
    let all = l.block.region.size / l.block.page in
    record {
      inside : l.pages ≤ all;
      found : ForSome (content from) (λ image.
          AreFound form l.block.page (part_of l.block.page l.block.region image) all l.pages l.places);
      within : AreWithin all l.places;
      memory : HasPageRoom l.block.page form.area_len l.memory;
      quiet : IsQuiet from now;
      faults : now.faults ≡ from.faults;
      read_faults : now.read_faults ≡ from.read_faults;
    }

abbrev pub decreases-loop-pages : goal.decreases-loop-pages
decreases-loop-pages g l = l.pages
