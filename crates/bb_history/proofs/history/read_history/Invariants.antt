use Rattle.std.proofs.Common.{◌≡◌, ◌++◌, take}
use Rattle.std.specs.Option.{ForSome}
use Rattle.bb_flash.specs.Device.{content}
use Rattle.bb_bucket.specs.Calls.{IsQuiet}
use Rattle.bb_layout.specs.Layout.{fields_of}
use Rattle.bb_state.specs.Kinds.{any_form}
use Rattle.bb_history.specs.History.{regions_text}
use Rattle.bb_history.specs.Reading.{HasPageRoom}
use Rattle.bb_history.proofs.history.read_history.Given as goal

-- the lines of the copies so far are added
abbrev pub invariant-loop-copy : goal.invariant-loop-copy
invariant-loop-copy g l =
    let from = g.F.Flash.device l.fn.flash in
    let now = g.F.Flash.device l.flash in
    record {
      added : ForSome (content from) (λ image.
          l.out
          ≡ l.fn.out
          ++ regions_text (fields_of l.layout) (any_form l.format) from.geometry.page 0
          (take l.copy l.regions) image);
      memory : HasPageRoom from.geometry.page (any_form l.format).area_len l.memory;
      quiet : IsQuiet from now;
      faults : now.faults ≡ from.faults;
      read_faults : now.read_faults ≡ from.read_faults;
    }
