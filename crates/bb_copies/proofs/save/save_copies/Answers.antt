use Rattle.std.proofs.Common.{◌≡◌, ◌∙◌, ◌≤◌, ℕ, Bool, List, count_by, length, sym, subst, take, ap, arith, refl}
use Rattle.std.proofs.lemmas.List.{length-map}
use Rattle.bb_base.specs.Form.{Form}
use Rattle.bb_flash.specs.Device.{Device}
use Rattle.bb_bucket.specs.Kind.{BucketKind}
use Rattle.bb_copies.specs.Buckets.{kinds_of}
use Rattle.bb_copies.specs.Erasing.{ErasesBy, IsBounded}
use Rattle.bb_copies.specs.Refreshing.{IsFirstMarked}
use Rattle.bb_copies.specs.Saving.{EachWritten}
use Rattle.bb_copies.proofs.Loads.{all_kept}
use Rattle.bb_copies.proofs.Rooms.{packed_room}
use Rattle.bb_copies.proofs.Runs.{later_refl}
use Rattle.bb_copies.proofs.Saves.{save_runs}
use Rattle.bb_copies.proofs.save.save_copies.Goals as goal

pub returns-in-Ok-clause-saved : goal.returns-in-Ok-clause-saved
returns-in-Ok-clause-saved g c =
    let form : Form = g.M.Format.form c.args.format.now in
    let kinds : List BucketKind = kinds_of g.B.Bucket.holding c.args.buckets.now.items in
    let from : Device = g.F.Flash.device c.args.flash.now in
    let to : Device = g.F.Flash.device c.save_all.new.flash in
    let good : List Bool = c.save_all.new.good.items in
    let many : length good ≡ length kinds = c.save_all.ensures.marks ∙ c.clear.ensures.len ∙ c.requires.marks ∙ sym (length-map c.args.buckets.now.items _) in
    record {
      used = c.tell.result.used;
      is = refl;
      exit =
          all_kept form kinds c.args.area.now good c.tell.result.used c.tell.result.live from from to many (later_refl from)
          (subst (λ (xs : List Bool). IsFirstMarked xs (length xs) c.tell.result.used) c.deref-in-Ok.ensures.value c.tell.ensures.used)
          (c.tell.ensures.live ∙ ap (count_by (λ marked. marked)) c.deref-in-Ok.ensures.value) c.in-Ok.ensures.held c.in-Ok.ensures.read_faults;
    }

pub returns-in-Ok-clause-save : goal.returns-in-Ok-clause-save
returns-in-Ok-clause-save g c =
    let form : Form = g.M.Format.form c.args.format.now in
    let kinds : List BucketKind = kinds_of g.B.Bucket.holding c.args.buckets.now.items in
    let from : Device = g.F.Flash.device c.args.flash.now in
    let to : Device = g.F.Flash.device c.save_all.new.flash in
    let packed = c.front-packed.ensures ∙ ap (take c.pack-len.result) c.deref.ensures.value ∙ c.pack-len.ensures.packed in
    record {
      unsure = (λ e. absurd cc, λ e. absurd cc);
      runs =
          save_runs form kinds c.args.used c.args.area.now from to c.save_all.ensures.refreshes c.save_all.ensures.spares
          (subst (λ (rec : List ℕ). IsBounded kinds rec from to) packed c.save_all.ensures.bounds);
      stored = record { live = c.tell.result.live; saved = returns-in-Ok-clause-saved g c };
      fails = tt;
      exact = λ quiet. subst (λ (rec : List ℕ). EachWritten kinds rec from to) packed (c.in-Ok.ensures.exact quiet);
      erases = λ quiet. subst (λ (rec : List ℕ). ErasesBy kinds rec from to) packed (c.in-Ok.ensures.erases quiet);
    }

pub returns-in-Err-clause-save : goal.returns-in-Err-clause-save
returns-in-Err-clause-save g c =
    let form : Form = g.M.Format.form c.args.format.now in
    let kinds : List BucketKind = kinds_of g.B.Bucket.holding c.args.buckets.now.items in
    let from : Device = g.F.Flash.device c.args.flash.now in
    let to : Device = g.F.Flash.device c.save_all.new.flash in
    record {
      unsure = (λ e. absurd cc, λ e. absurd cc);
      runs =
          save_runs form kinds c.args.used c.args.area.now from to c.save_all.ensures.refreshes c.save_all.ensures.spares
          (subst (λ (rec : List ℕ). IsBounded kinds rec from to) (c.front-packed.ensures ∙ ap (take c.pack-len.result) c.deref.ensures.value ∙ c.pack-len.ensures.packed) c.save_all.ensures.bounds);
      stored = tt;
      fails = c.in-Err.ensures.fails;
      exact = λ quiet. tt;
      erases = λ quiet. tt;
    }

pub pack-len-requires-clause-most : goal.pack-len-requires-clause-most
pack-len-requires-clause-most g c = (g.met.M.Format.laws c.args.format.now).most c.args.area.now c.requires.fits

pub front-packed-requires : goal.front-packed-requires
front-packed-requires g c =
    let size = c.pack-len.ensures.«record» in
    let within = c.pack-len.ensures.within in
    subst (λ (xs : List ℕ). c.pack-len.result ≤ length xs) (sym c.deref.ensures.value) (omega (arith, size, within))

pub save_all-requires-clause-packed : goal.save_all-requires-clause-packed
save_all-requires-clause-packed g c =
    c.front-packed.ensures ∙ ap (take c.pack-len.result) c.deref.ensures.value ∙ c.pack-len.ensures.packed

pub save_all-requires-clause-room : goal.save_all-requires-clause-room
save_all-requires-clause-room g c =
    let form : Form = g.M.Format.form c.args.format.now in
    let kinds : List BucketKind = kinds_of g.B.Bucket.holding c.args.buckets.now.items in
    packed_room form kinds c.args.area.now c.front-packed.result.now (g.met.M.Format.laws c.args.format.now) c.requires.fits
    (c.front-packed.ensures ∙ ap (take c.pack-len.result) c.deref.ensures.value ∙ c.pack-len.ensures.packed) c.requires.room
