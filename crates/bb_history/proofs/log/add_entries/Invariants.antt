use Rattle.std.proofs.Common.{◌≡◌, ◌++◌, take}
use Rattle.std.specs.Option.{ForSome}
use Rattle.bb_flash.specs.Device.{content}
use Rattle.bb_bucket.specs.Calls.{IsQuiet}
use Rattle.bb_bucket.specs.Kind.{part_of}
use Rattle.bb_history.specs.Reading.{HasPageRoom, places_text}
use Rattle.bb_layout.specs.Layout.{fields_of}
use Rattle.bb_history.proofs.log.add_entries.Given as goal

-- the lines of the entries so far are added
abbrev pub invariant-loop-number : goal.invariant-loop-number
invariant-loop-number g l =
    let from = g.F.Flash.device l.fn.flash in
    let now = g.F.Flash.device l.flash in
    let form = g.M.Format.form l.format in
    record {
      added : ForSome (content from) (λ image.
          l.out
          ≡ l.fn.out
          ++ places_text (fields_of l.layout) form l.block.page (part_of l.block.page l.block.region image) 1
          (take l.number l.places));
      memory : HasPageRoom l.block.page form.area_len l.memory;
      quiet : IsQuiet from now;
      faults : now.faults ≡ from.faults;
      read_faults : now.read_faults ≡ from.read_faults;
    }
