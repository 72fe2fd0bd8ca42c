use Rattle.std.proofs.Common.{◌≡◌, ◌<◌, None, length}
use Rattle.std.specs.Option.{ForSome}
use Rattle.bb_flash.specs.Device.{content}
use Rattle.bb_bucket.specs.Calls.{IsQuiet}
use Rattle.bb_copies.specs.Buckets.{AllAgree, EachCopy, HasMemory, kinds_of}
use Rattle.bb_copies.specs.Passing.{passing_of}
use Rattle.bb_copies.specs.Placing.{AllPlaced}
use Rattle.bb_copies.proofs.look.find_first.Given as goal

abbrev pub invariant-loop-copy : goal.invariant-loop-copy
invariant-loop-copy g l =
    let form = g.M.Format.form l.format in
    let from = g.F.Flash.device l.fn.flash in
    let now = g.F.Flash.device l.flash in
    record {
      none :
          ForSome (content from)
          (λ image. EachCopy (kinds_of g.B.Bucket.holding l.fn.buckets.items) (λ place kind. place < l.copy → passing_of form from.geometry.page kind image ≡ None));
      quiet : IsQuiet from now;
      faults : now.faults ≡ from.faults;
      read_faults : now.read_faults ≡ from.read_faults;
      kinds : kinds_of g.B.Bucket.holding l.buckets.items ≡ kinds_of g.B.Bucket.holding l.fn.buckets.items;
      agrees : AllAgree g.B.Bucket.holding now l.buckets.items;
      placed : AllPlaced g.B.Bucket.holding l.fn.buckets.items → AllPlaced g.B.Bucket.holding l.buckets.items;
      memory : HasMemory form l.room;
      sized : length l.area ≡ length l.fn.area;
    }
