-- Calls on a slot, one after another.
use Rattle.std.proofs.Common.{◌≡◌, ℕ, ◌+◌, ◌<◌, ◌∙◌, ◌⊎◌, List, [], ◌∷◌, ◌++◌, length, map, drop, Option, Some, None, Result, Ok, Err, ap, sym, subst, refl, arith, inl, inr, append_assoc, option_map, is_err}
use Rattle.std.specs.List.{range_with_len}
use Rattle.std.specs.Option.{ForSome, is_some}
use Rattle.std.proofs.lemmas.List.{append-nil, map-append, take-append-drop}
use Rattle.std.proofs.lemmas.List.FromFn.{map-range_with_len_more, take-map-range_with_len}
use Rattle.bb_base.specs.Faults.{counted}
use Rattle.bb_flash.specs.declared.region.Region.{Region}
use Rattle.bb_flash.specs.Calls.{ChangesOnly, HasNoChange, IsTornBy}
use Rattle.bb_flash.specs.Cuts.{IsLater}
use Rattle.bb_flash.specs.Device.{Change, Device, IsDevice, Told, change_of}
use Rattle.bb_flash.specs.Image.{Image}
use Rattle.bb_bucket.specs.Calls.{Leaves, range_of}
use Rattle.bb_bucket.specs.Kind.{part_of}
use Rattle.bb_bucket.proofs.Quiet.{quiet_same}
use Rattle.bb_bucket.proofs.Runs.{leaves_joined, some_of, within_joined, within_of_quiet}
use Rattle.bb_install.specs.Writing.{AreMade, SlotCalls, SlotWrites, StopsAmong}

-- ---- the ranges of changes

pub made_more : (before after : List Change) (change : Change) (range : Region) → after ≡ before ++ change ∷ [] → range_of change ≡ range → map range_of after ≡ map range_of before ++ range ∷ []
made_more before after change range e is =
    ap (map range_of) e ∙ map-append range_of before (change ∷ []) ∙ ap (λ (r : Region). map range_of before ++ r ∷ []) is

pub made_joined : (xs ys : List Region) (first mid last : Told) → AreMade xs first mid → AreMade ys mid last → AreMade (xs ++ ys) first last
made_joined xs ys first mid last early late =
    late ∙ ap (λ (rs : List Region). rs ++ ys) early ∙ append_assoc (map range_of first.changes) xs ys

pub made_none : (first last : Told) → last.changes ≡ first.changes → AreMade [] first last
made_none first last same = ap (map range_of) same ∙ sym (append-nil (map range_of first.changes))

-- one step, which adds a change of this range
pub made_step : (step : Told → Told) (range : Region) (from to : Option Told) → ((told : Told) → (change : Change) × ((step told).changes ≡ told.changes ++ change ∷ []) × (range_of change ≡ range)) → to ≡ option_map step from → ForSome from (λ first. ForSome to (AreMade (range ∷ []) first))
made_step step range None to adds e first f last g = absurd cc
made_step step range (Some told) to adds e first f last g =
    let is : told ≡ first = cc in
    let then : step told ≡ last = (let same : Some (step told) ≡ Some last = sym e ∙ g in cc) in
    let one = adds told in
    let after : last.changes ≡ first.changes ++ one.0 ∷ [] = ap (λ (t : Told). t.changes) (sym then) ∙ one.1 ∙ ap (λ (t : Told). t.changes ++ one.0 ∷ []) is in
    made_more first.changes last.changes one.0 range after one.2

-- a call that failed adds a change of its range, or none
pub made_by_failure : (page at : ℕ) (bytes : List ℕ) (range : Region) (first last : Told) → range ≡ record { at = at; size = length bytes } → HasNoChange first last ⊎ IsTornBy page at bytes first last → AreMade [] first last ⊎ AreMade (range ∷ []) first last
made_by_failure page at bytes range first last is (inl same) = inl (made_none first last same.changes)
made_by_failure page at bytes range first last is (inr torn) = inr (made_more first.changes last.changes (change_of page at bytes first.image) range torn.change (sym is))

-- ---- runs of calls

pub leaves_as : (slot : Region) (f g : Image → Image) (one two : Device) → ((part : Image) → f part ≡ g part) → Leaves slot f one two → Leaves slot g one two
leaves_as slot f g one two same leaves = record {
  there = λ before e after k. leaves.there before e after k ∙ same (part_of one.geometry.page slot before);
}

-- a run after another that was made, where h is what both make of the slot
pub writes_joined : (xs ys : List Region) (slot : Region) (f g h : Image → Image) (one two three : Device) → IsLater one two → ((part : Image) → g (f part) ≡ h part) → SlotWrites xs slot f one two → SlotWrites ys slot g two three → SlotWrites (xs ++ ys) slot h one three
writes_joined xs ys slot f g h one two three later same early late = record {
  made = λ first e last k.
      let there = some_of two.told (later.told ∙ ap is_some e) in
      made_joined xs ys first there.0 last (early.made first e there.0 there.1) (late.made there.0 there.1 last k);
  leaves = leaves_as slot (λ part. g (f part)) h one three same (leaves_joined slot f g one two three later early.leaves late.leaves);
}

pub writes_as : (xs ys : List Region) (slot : Region) (f g : Image → Image) (one two : Device) → xs ≡ ys → ((part : Image) → f part ≡ g part) → SlotWrites xs slot f one two → SlotWrites ys slot g one two
writes_as xs ys slot f g one two e same writes = record {
  made = subst (λ (rs : List Region). ForSome one.told (λ first. ForSome two.told (AreMade rs first))) e writes.made;
  leaves = leaves_as slot f g one two same writes.leaves;
}

-- no call at all
pub writes_none : (slot : Region) (f : Image → Image) (device : Device) → ((part : Image) → f part ≡ part) → SlotWrites [] slot f device device
writes_none slot f device same = record {
  made = λ first e last k. (let is : first ≡ last = (let some : Some first ≡ Some last = sym e ∙ k in cc) in made_none first last (ap (λ (t : Told). t.changes) (sym is)));
  leaves = record {
    there = λ before e after k.
        (let is : after ≡ before = (let some : Some after ≡ Some before = sym k ∙ e in cc) in
        ap (part_of device.geometry.page slot) is ∙ sym (same (part_of device.geometry.page slot before)));
  };
}

-- a run, as one that answered Ok
abbrev pub RunsOn : Region → Device → Device → Type 0
RunsOn slot from to = SlotCalls {T = Unit {0}} {E = Unit {0}} (Ok tt) slot from to

pub runs_none : (slot : Region) (device : Device) → IsDevice device → RunsOn slot device device
runs_none slot device whole = record {
  within = within_of_quiet slot device device (quiet_same device whole);
  faults = refl;
  read_faults = refl;
  reads = refl;
}

pub runs_on : {T E : Type 0} (x : T) (slot : Region) (from to : Device) → SlotCalls {T = T} {E = E} (Ok x) slot from to → RunsOn slot from to
runs_on x slot from to calls = record { within = calls.within; faults = calls.faults; read_faults = calls.read_faults; reads = calls.reads }

pub runs_done : {T E : Type 0} (x : T) (slot : Region) (from to : Device) → RunsOn slot from to → SlotCalls {T = T} {E = E} (Ok x) slot from to
runs_done x slot from to calls = record { within = calls.within; faults = calls.faults; read_faults = calls.read_faults; reads = calls.reads }

pub calls_failed : {T U E D : Type 0} (x : E) (y : D) (slot : Region) (from to : Device) → SlotCalls {T = T} {E = E} (Err x) slot from to → SlotCalls {T = U} {E = D} (Err y) slot from to
calls_failed x y slot from to calls = record { within = calls.within; faults = calls.faults; read_faults = calls.read_faults; reads = calls.reads }

-- calls after a run
pub calls_joined_on : {T E : Type 0} (result : Result T E) (slot : Region) (one two three : Device) → RunsOn slot one two → SlotCalls result slot two three → SlotCalls result slot one three
calls_joined_on result slot one two three early late = record {
  within = within_joined slot one two three early.within late.within;
  faults = late.faults ∙ ap (counted (is_err result)) early.faults;
  read_faults = late.read_faults ∙ early.read_faults;
  reads = late.reads ∙ early.reads;
}

-- ---- a list of ranges up to one of them

pub split_at : {X : Type 0} (f : ℕ → X) (n k : ℕ) → k < n → map f (range_with_len 0 n) ≡ map f (range_with_len 0 k) ++ f k ∷ drop (k + 1) (map f (range_with_len 0 n))
split_at f n k inside =
    let all = map f (range_with_len 0 n) in
    sym (take-append-drop (k + 1) all)
    ∙ ap (λ front. front ++ drop (k + 1) all) (take-map-range_with_len f 0 n (k + 1) (omega arith) ∙ map-range_with_len_more f 0 k k (omega arith))
    ∙ append_assoc (map f (range_with_len 0 k)) (f k ∷ []) (drop (k + 1) all)

stops_told : (before : List Region) (call : Region) (first mid last : Told) → AreMade before first mid → AreMade [] mid last ⊎ AreMade (call ∷ []) mid last → AreMade before first last ⊎ AreMade (before ++ call ∷ []) first last
stops_told before call first mid last early (inl none) = inl (made_joined before [] first mid last early none ∙ ap (λ rs. map range_of first.changes ++ rs) (append-nil before))
stops_told before call first mid last early (inr one) = inr (made_joined before (call ∷ []) first mid last early one)

-- a call failed after the calls before it were made
pub stops_at : (ranges before others : List Region) (call : Region) (at : ℕ) (bytes : List ℕ) (one two three : Device) → ranges ≡ before ++ call ∷ others → call ≡ record { at = at; size = length bytes } → IsLater one two → ForSome one.told (λ first. ForSome two.told (AreMade before first)) → ChangesOnly at bytes two three → StopsAmong ranges at one three
stops_at ranges before others call at bytes one two three split is later made changes = record {
  before = before;
  call = call;
  others = others;
  split = split;
  place = ap (λ (r : Region). r.at) is;
  made = λ first e last k.
      let there = some_of two.told (later.told ∙ ap is_some e) in
      stops_told before call first there.0 last (made first e there.0 there.1)
      (made_by_failure two.geometry.page at bytes call there.0 last is (changes.told there.0 there.1 last k));
}

-- calls among more, after others that were made
pub stops_among_more : (before ranges behind all : List Region) (at : ℕ) (one two three : Device) → all ≡ before ++ (ranges ++ behind) → IsLater one two → ForSome one.told (λ first. ForSome two.told (AreMade before first)) → StopsAmong ranges at two three → StopsAmong all at one three
stops_among_more before ranges behind all at one two three e later made stops = record {
  before = before ++ stops.before;
  call = stops.call;
  others = stops.others ++ behind;
  split =
      e ∙ ap (λ rs. before ++ (rs ++ behind)) stops.split
      ∙ ap (λ rs. before ++ rs) (append_assoc stops.before (stops.call ∷ stops.others) behind)
      ∙ sym (append_assoc before stops.before (stops.call ∷ (stops.others ++ behind)));
  place = stops.place;
  made = λ first g last k.
      let there = some_of two.told (later.told ∙ ap is_some g) in
      let early = made first g there.0 there.1 in
      elim (stops.made there.0 there.1 last k) [
        | inl none ↦ inl (made_joined before stops.before first there.0 last early none)
        | inr one ↦
            inr
            (made_joined before (stops.before ++ stops.call ∷ []) first there.0 last early one
            ∙ ap (λ rs. map range_of first.changes ++ rs) (sym (append_assoc before stops.before (stops.call ∷ []))))
      ];
}
