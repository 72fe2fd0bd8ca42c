-- How many flash calls that change a device a call of a bucket made.
use Rattle.std.proofs.Common.{◌≡◌, ℕ, ◌+◌, ◌*◌, ◌≤◌, ◌++◌, ◌∷◌, [], List, length, Option, Some, None, Result, Ok, Err, IsErr, OnOk, option_map, sym, ap, ◌∙◌, arith, inl, inr, ◌⊎◌, length-append}
use Rattle.std.specs.Option.{ForSome, is_some}
use Rattle.bb_flash.specs.declared.geometry.Geometry.{Geometry}
use Rattle.bb_flash.specs.declared.region.Region.{Region}
use Rattle.bb_flash.specs.Calls.{ChangesOnly, IsTornBy, HasNoChange, erased_bytes, told_after_erase, told_after_program}
use Rattle.bb_flash.specs.Cuts.{IsLater}
use Rattle.bb_flash.specs.Device.{Change, Device, Told, change_of, content, moment}
use Rattle.bb_flash.specs.Image.{Image}
use Rattle.bb_bucket.specs.Calls.{IsQuiet, MakesCalls}
use Rattle.bb_bucket.specs.Kind.{part_of}
use Rattle.bb_bucket.proofs.BlockCalls.{content_of}
use Rattle.bb_bucket.proofs.Runs.{quiet_told, some_of}

one_more_change : (before after : List Change) (change : Change) → after ≡ before ++ change ∷ [] → length after ≡ length before + 1
one_more_change before after change e = ap length e ∙ length-append before (change ∷ [])

one_at_most :
    (page at : ℕ) (bytes : List ℕ) (first last : Told) →
    HasNoChange first last ⊎ IsTornBy page at bytes first last → moment last ≤ moment first + 1
one_at_most page at bytes first last (inl same) = omega (arith, ap (length {A = Change}) same.changes)
one_at_most page at bytes first last (inr torn) = omega (arith, one_more_change first.changes last.changes _ torn.change)

-- a step that adds one change, where it is told
one_step :
    (step : Told → Told) → ((told : Told) → moment (step told) ≡ moment told + 1) →
    (old new : Option Told) → new ≡ option_map step old →
    ForSome old (λ first. ForSome new (λ last. moment last ≡ moment first + 1))
one_step step adds None new e first f last g = absurd cc
one_step step adds (Some told) new e first f last g =
    let is : told ≡ first = cc in
    let then : step told ≡ last = (let same : Some (step told) ≡ Some last = sym e ∙ g in cc) in
    sym (ap moment then) ∙ adds told ∙ ap (λ t. moment t + 1) is

done_of :
    {T E : Type 0} (step : Told → Told) → ((told : Told) → moment (step told) ≡ moment told + 1) →
    (result : Result T E) (old new : Option Told) → OnOk result (new ≡ option_map step old) →
    OnOk result (ForSome old (λ first. ForSome new (λ last. moment last ≡ moment first + 1)))
done_of step adds (Ok x) old new e = one_step step adds old new e
done_of step adds (Err x) old new e = e

-- one flash call, which adds one change where it answers Ok
pub made_one :
    {T E : Type 0} (step : Told → Told) (result : Result T E) (region : Region) (at : ℕ) (bytes : List ℕ) (from to : Device) →
    ((told : Told) → moment (step told) ≡ moment told + 1) → ChangesOnly at bytes from to →
    OnOk result (to.told ≡ option_map step from.told) →
    MakesCalls result region (λ part. 1) from to
made_one step result region at bytes from to adds changes done = record {
  most = λ first e last f. one_at_most from.geometry.page at bytes first last (changes.told first e last f);
  done = done_of step adds result from.told to.told done;
}

done_as :
    {T E : Type 0} (P Q : Type 0) (result : Result T E) → (P → Q) → OnOk result P → OnOk result Q
done_as P Q (Ok x) f p = f p
done_as P Q (Err e) f p = p

-- as many calls, said by another function of what stood in the region
pub made_as :
    {T E : Type 0} (result : Result T E) (region : Region) (f g : Image → ℕ) (from to : Device) →
    ForSome (content from) (λ image. f (part_of from.geometry.page region image) ≡ g (part_of from.geometry.page region image)) →
    MakesCalls result region f from to → MakesCalls result region g from to
made_as result region f g from to same made = record {
  most = λ first e last h. omega (arith, made.most first e last h, same first.image (content_of from.told first e));
  done = done_as _ _ result
      (λ (all : ForSome from.told (λ (first : Told). ForSome to.told (λ (last : Told). moment last ≡ moment first + f (part_of from.geometry.page region first.image)))) first e last h.
      all first e last h ∙ ap (λ n. moment first + n) (same first.image (content_of from.told first e)))
      made.done;
}

refused : {T E : Type 0} (P : Type 0) (result : Result T E) → IsErr result → OnOk result P
refused P (Ok x) e = absurd cc
refused P (Err x) e = tt

-- a call that was refused made at most as many as one that may make more
pub refused_most :
    {T E U D : Type 0} (one : Result T E) (two : Result U D) (region : Region) (f g : Image → ℕ) (from to : Device) →
    ((part : Image) → f part ≤ g part) → IsErr two →
    MakesCalls one region f from to → MakesCalls two region g from to
refused_most one two region f g from to fewer fails made = record {
  most = λ first e last h. omega (arith, made.most first e last h, fewer (part_of from.geometry.page region first.image));
  done = refused _ two fails;
}

-- a call after one that made one
pub made_behind_one :
    {T U E : Type 0} (one : T) (result : Result U E) (region : Region) (from mid to : Device) →
    IsLater from mid →
    MakesCalls (let r : Result T E = Ok one in r) region (λ part. 1) from mid →
    MakesCalls result region (λ part. 1) mid to →
    MakesCalls result region (λ part. 2) from to
made_behind_one one result region from mid to later early late = record {
  most = λ first e last h.
      let there = some_of mid.told (later.told ∙ ap is_some e) in
      omega (arith, early.done first e there.0 there.1, late.most there.0 there.1 last h);
  done = done_as _ _ result
      (λ (all : ForSome mid.told (λ (first : Told). ForSome to.told (λ (last : Told). moment last ≡ moment first + 1))) first e last h.
      let there = some_of mid.told (later.told ∙ ap is_some e) in
      let n : moment last ≡ moment there.0 + 1 = all there.0 there.1 last h in
      omega (arith, early.done first e there.0 there.1, n))
      late.done;
}

pub program_adds :
    (page at : ℕ) (bytes : List ℕ) (told : Told) → moment (told_after_program page at bytes told) ≡ moment told + 1
program_adds page at bytes told = length-append told.changes (change_of page at bytes told.image ∷ [])

pub erase_adds : (geometry : Geometry) (block : ℕ) (told : Told) → moment (told_after_erase geometry block told) ≡ moment told + 1
erase_adds geometry block told =
    length-append told.changes (change_of geometry.page (block * geometry.block) (erased_bytes geometry) told.image ∷ [])

-- a look that failed, or that came first, made none
pub made_none :
    {T E : Type 0} (result : Result T E) (region : Region) (f : Image → ℕ) (from to : Device) →
    IsErr result → IsQuiet from to → MakesCalls result region f from to
made_none result region f from to fails quiet = record {
  most = λ first e last h. omega (arith, ap (length {A = Change}) (quiet_told from.told to.told first last quiet.told e h).changes);
  done = refused _ result fails;
}

pub made_behind_look :
    {T E : Type 0} (result : Result T E) (region : Region) (f : Image → ℕ) (from mid to : Device) →
    IsQuiet from mid → MakesCalls result region f mid to → MakesCalls result region f from to
made_behind_look result region f from mid to quiet made =
    let number : Geometry → Image → ℕ = λ geometry image. f (part_of geometry.page region image) in
    record {
      most = λ first e last h.
          let there = some_of mid.told (quiet.later.told ∙ ap is_some e) in
          let same = quiet_told from.told mid.told first there.0 quiet.told e there.1 in
          let part : number mid.geometry there.0.image ≡ number from.geometry first.image =
          ap (λ geometry. number geometry there.0.image) quiet.later.geometry ∙ ap (number from.geometry) same.image in
          omega (arith, made.most there.0 there.1 last h, part, ap (length {A = Change}) same.changes);
      done = done_as _ _ result
          (λ (all : ForSome mid.told (λ (first : Told). ForSome to.told (λ (last : Told). moment last ≡ moment first + f (part_of mid.geometry.page region first.image)))) first e last h.
          let there = some_of mid.told (quiet.later.told ∙ ap is_some e) in
          let same = quiet_told from.told mid.told first there.0 quiet.told e there.1 in
          let part : number mid.geometry there.0.image ≡ number from.geometry first.image =
          ap (λ geometry. number geometry there.0.image) quiet.later.geometry ∙ ap (number from.geometry) same.image in
          let n : moment last ≡ moment there.0 + number mid.geometry there.0.image = all there.0 there.1 last h in
          omega (arith, n, part, ap (length {A = Change}) same.changes))
          made.done;
    }

-- the same calls, with another value answered
pub made_ok :
    {T U E D : Type 0} (x : T) (y : U) (region : Region) (f : Image → ℕ) (from to : Device) →
    MakesCalls (let r : Result T E = Ok x in r) region f from to → MakesCalls (let r : Result U D = Ok y in r) region f from to
made_ok x y region f from to made = record { most = made.most; done = made.done }
