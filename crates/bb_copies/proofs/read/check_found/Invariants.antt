use Rattle.std.proofs.Common.{◌≡◌, ◌≤◌, ◌-◌, ℕ, List, Some, length, take, IsTrue}
use Rattle.std.specs.Option.{ForSome}
use Rattle.bb_flash.specs.Device.{content}
use Rattle.bb_bucket.specs.Calls.{Agrees, IsQuiet, candidate_in}
use Rattle.bb_copies.proofs.read.check_found.Given as goal

abbrev pub invariant-loop-from : goal.invariant-loop-from
invariant-loop-from g l =
    let from = g.F.Flash.device l.fn.flash in
    let now = g.F.Flash.device l.flash in
    let form = g.M.Format.form l.format in
    record {
      inside : l.from ≤ l.count;
      fed :
          (fed : List ℕ) × (g.M.Format.holds l.format l.feed fed l.area)
          × (ForSome (content from) (λ image. ForSome (candidate_in (g.B.Bucket.holding l.fn.bucket).kind from.geometry.page image) (λ bytes. fed ≡ take l.from bytes)))
          × (length fed ≡ l.from);
      quiet : IsQuiet from now;
      faults : now.faults ≡ from.faults;
      read_faults : now.read_faults ≡ from.read_faults;
      kind : (g.B.Bucket.holding l.bucket).kind ≡ (g.B.Bucket.holding l.fn.bucket).kind;
      agrees : Agrees (g.B.Bucket.holding l.bucket) now;
      found : (g.B.Bucket.holding l.bucket).found ≡ Some l.len;
      placed : IsTrue (g.B.Bucket.holding l.bucket).knows_place;
      area : length l.area ≡ form.area_len;
    }

abbrev pub decreases-loop-from : goal.decreases-loop-from
decreases-loop-from g l = l.count - l.from
