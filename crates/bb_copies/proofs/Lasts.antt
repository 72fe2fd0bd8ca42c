-- The copies of which the last is settled after the others.
use Rattle.std.proofs.Common.{◌≡◌, ◌≢◌, ◌∙◌, ℕ, ◌<◌, Bool, true, false, List, length, set, Option, Some, None, is_some, option_map, ap, sym, subst, arith, refl, inl, inr, get_or-set_other, get_or-set_same}
use Rattle.std.specs.Option.{ForSome}
use Rattle.std.proofs.lemmas.Option.{slice_get_within}
use Rattle.bb_base.specs.Form.{Form}
use Rattle.bb_flash.specs.Cuts.{EachImage, IsLater}
use Rattle.bb_flash.specs.Device.{Device, Told, content}
use Rattle.bb_flash.specs.Image.{Image}
use Rattle.bb_flash.proofs.Moments.{images_joined}
use Rattle.bb_bucket.specs.Kind.{BucketKind}
use Rattle.bb_copies.specs.Buckets.{EachCopy}
use Rattle.bb_copies.specs.Looking.{IsFirst}
use Rattle.bb_copies.specs.Passing.{passing_of, passings}
use Rattle.bb_copies.specs.Refreshing.{AllHeld, AllSettled, IsFirstMarked, IsSettledAt, KeepsMarked, LeavesOthers, MarkedPass, NeverEmpty, NoOther, PassesAt, area_if, is_marked}
use Rattle.bb_copies.specs.Saving.{IsAlone, KeepsUsed, SparesUsed}
use Rattle.bb_copies.specs.StandsFor.{SomeIsSpared, SomePasses}
use Rattle.bb_copies.proofs.Below.{kind_inside, passes_still}
use Rattle.bb_copies.proofs.Held.{dead_set, few_live, spares_by, true_or_false}
use Rattle.bb_copies.proofs.Many.{passes_kind, same_or_not, same_passing}
use Rattle.bb_copies.proofs.Passed.{some_passes}

-- ---- what passes at entry

-- where the first that passes was found
pub fresh_pass : (form : Form) (kinds : List BucketKind) (area : List ℕ) (good : List Bool) (bound used : ℕ) (device : Device) → bound ≡ length kinds → ForSome (content device) (λ image. IsFirst form device.geometry.page kinds bound area good image used) → MarkedPass form kinds area good device
fresh_pass form kinds area good bound used device many first = λ copy kind e mark image f.
    (((first image f).fresh copy kind e (omega (arith, slice_get_within kinds copy kind e, many))).0 mark).passes

pub first_passes : (form : Form) (kinds : List BucketKind) (area : List ℕ) (good : List Bool) (bound used : ℕ) (device : Device) → ForSome (content device) (λ image. IsFirst form device.geometry.page kinds bound area good image used) → PassesAt form kinds area used device
first_passes form kinds area good bound used device first = λ copy kind e same image f. (first image f).passes copy kind e same

-- the last one passes too
pub last_passes : (form : Form) (kinds : List BucketKind) (area : List ℕ) (marked : List Bool) (last : ℕ) (device : Device) → MarkedPass form kinds area marked device → PassesAt form kinds area last device → MarkedPass form kinds area (set marked last true) device
last_passes form kinds area marked last device before here = λ copy kind e mark. elim (same_or_not copy last) [
  | inl same ↦ here copy kind e same
  | inr other ↦ before copy kind e (sym (get_or-set_other marked last copy true false other) ∙ mark)
]

-- ---- the others are settled

-- each other passes the area where it is marked, else nothing
pub OthersHeld : Form → List BucketKind → List ℕ → ℕ → List Bool → Device → Device → Type 0
OthersHeld form kinds area last good from to = EachCopy kinds (λ copy kind. copy ≢ last → ForSome (content to) (λ image. passing_of form from.geometry.page kind image ≡ area_if area (is_marked good copy)))

pub others_held : (form : Form) (kinds : List BucketKind) (area : List ℕ) (marked good : List Bool) (last : ℕ) (from to : Device) → IsLater from to → MarkedPass form kinds area marked from → KeepsMarked kinds (set marked last true) from to → AllSettled form kinds area (set marked last true) good from to → OthersHeld form kinds area last good from to
unfolding OthersHeld
others_held form kinds area marked good last from to later before kept settled = λ copy kind e other.
    let same : is_marked (set marked last true) copy ≡ is_marked marked copy = get_or-set_other marked last copy true false other in
    elim (true_or_false (is_marked marked copy)) [
      | inr new ↦ settled.each copy kind e (same ∙ new)
      | inl mark ↦
          subst (λ (b : Bool). ForSome (content to) (λ image. passing_of form from.geometry.page kind image ≡ area_if area b)) (sym (settled.stays copy (same ∙ mark)))
          (passes_still form kind from.geometry.page (Some area) from to refl later (kept copy kind e (same ∙ mark)) (before copy kind e mark))
    ]

some_passed : (p : Option (List ℕ)) → is_some p ≡ true → (area : List ℕ) × (p ≡ Some area)
some_passed None e = absurd cc
some_passed (Some area) e = (area, refl)

-- the last one isn't touched
pub last_spares : (form : Form) (kinds : List BucketKind) (good : List Bool) (last : ℕ) (from to : Device) → last < length kinds → last < length good → KeepsMarked kinds (set good last true) from to → SparesUsed form kinds (Some last) from to
last_spares form kinds good last from to inside within kept = record {
  each = λ first f end h image cut keeps some.
      let page : ℕ = from.geometry.page in
      let there = kind_inside kinds last inside in
      let region = (kept last there.0 there.1 (get_or-set_same good last true false within)).images.each first f end h image cut in
      let old = some_passed (passing_of form page there.0 first.image) (ap is_some (sym (passes_kind form page kinds last there.0 first.image there.1)) ∙ keeps) in
      some_passes (λ kind. passing_of form page kind image) kinds last there.0 old.0 there.1 (same_passing form page there.0 first.image image region ∙ old.1);
}

-- so that some copy passes in every image, where it passes at entry
pub never_spared : (form : Form) (kinds : List BucketKind) (area : List ℕ) (used : ℕ) (from to : Device) → used < length kinds → PassesAt form kinds area used from → SparesUsed form kinds (Some used) from to → NeverEmpty form kinds from to
never_spared form kinds area used from to inside passes spares = record {
  each = λ first e last f image cut.
      let page : ℕ = from.geometry.page in
      let map : Told → Image = λ t. t.image in
      let there = kind_inside kinds used inside in
      let here : passing_of form page there.0 first.image ≡ Some area = passes used there.0 there.1 refl first.image (ap (option_map map) e) in
      spares.each first e last f image cut (ap is_some (passes_kind form page kinds used there.0 first.image there.1 ∙ here))
      (some_passes (λ kind. passing_of form page kind first.image) kinds used there.0 area there.1 here);
}

-- ---- no other passes the area

pub alone : (form : Form) (kinds : List BucketKind) (area : List ℕ) (marked good : List Bool) (last : ℕ) (from to : Device) → length good ≡ length kinds → last < length marked → NoOther good last → KeepsMarked kinds (set marked last true) from to → OthersHeld form kinds area last good from to → AllSettled form kinds area (set marked last true) good from to → to.read_faults ≡ from.read_faults → IsAlone form kinds (Some last) last from to
unfolding OthersHeld
alone form kinds area marked good last from to many within none kept others settled calm =
    let few = few_live good last none in
    let dead = settled.dead in
    record {
      is = refl;
      untouched = λ copy kind e same. kept copy kind e (ap (is_marked (set marked last true)) same ∙ get_or-set_same marked last true false within);
      others = λ copy kind e other. subst (λ (b : Bool). ForSome (content to) (λ image. passing_of form from.geometry.page kind image ≡ area_if area b)) (none copy (omega (arith, slice_get_within kinds copy kind e, many)) other) (others copy kind e other);
      cause = omega (arith, few, dead, many);
      read_faults = calm;
    }

-- ---- another does

pub another_spares : (form : Form) (kinds : List BucketKind) (area : List ℕ) (good : List Bool) (last copy : ℕ) (from mid to : Device) → IsLater from mid → length good ≡ length kinds → IsFirstMarked good last copy → OthersHeld form kinds area last good from mid → LeavesOthers kinds last mid to → NeverEmpty form kinds mid to
unfolding OthersHeld
another_spares form kinds area good last copy from mid to h many first held others =
    let there = kind_inside kinds copy (omega (arith, first.inside, many)) in
    let page : mid.geometry.page ≡ from.geometry.page = ap (λ geo. geo.page) h.geometry in
    let passes : ForSome (content mid) (λ image. passing_of form from.geometry.page there.0 image ≡ Some area) = subst (λ (b : Bool). ForSome (content mid) (λ image. passing_of form from.geometry.page there.0 image ≡ area_if area b)) first.marked (held copy there.0 there.1 first.other) in
    spares_by form kinds copy there.0 area mid to there.1 (others copy there.0 there.1 first.other)
    (subst (λ (p : ℕ). ForSome (content mid) (λ image. passing_of form p there.0 image ≡ Some area)) (sym page) passes)

pub spares_joined : (form : Form) (kinds : List BucketKind) (used : Option ℕ) (one two three : Device) → IsLater one two → IsLater two three → SparesUsed form kinds used one two → NeverEmpty form kinds two three → SparesUsed form kinds used one three
spares_joined form kinds used one two three h k first second =
    let page : ℕ = one.geometry.page in
    let spared : Image → Image → Type 0 = λ before image. KeepsUsed used (passings form page kinds before) → SomeIsSpared (passings form page kinds before) (passings form page kinds image) in
    let some : Image → Image → Type 0 = λ before image. SomePasses (passings form page kinds image) in
    images_joined spared some spared one two three (λ x y s. s) (λ x y z s t keeps passed. t) h k first
    (subst (λ (p : ℕ). EachImage (λ before image. SomePasses (passings form p kinds image)) two three) (ap (λ geo. geo.page) h.geometry) second)

pub last_held : (form : Form) (kinds : List BucketKind) (area : List ℕ) (marked good : List Bool) (last : ℕ) (g : Bool) (from mid to : Device) → last < length good → is_marked good last ≡ true → IsLater from mid → IsLater mid to → OthersHeld form kinds area last good from mid → AllSettled form kinds area marked good from mid → LeavesOthers kinds last mid to → IsSettledAt form kinds area last mid to g → AllHeld form kinds area (set good last g) from to
unfolding OthersHeld
last_held form kinds area marked good last g from mid to inside mark h k held before others settled =
    let page : mid.geometry.page ≡ from.geometry.page = ap (λ geo. geo.page) h.geometry in
    record {
      each = λ copy kind e. elim (same_or_not copy last) [
        | inl same ↦
            let now : is_marked (set good last g) copy ≡ g = ap (is_marked (set good last g)) same ∙ get_or-set_same good last g false inside in
            subst (λ (b : Bool). ForSome (content to) (λ image. passing_of form from.geometry.page kind image ≡ area_if area b)) (sym now)
            (subst (λ (p : ℕ). ForSome (content to) (λ image. passing_of form p kind image ≡ area_if area g)) page (settled.passes copy kind e same))
        | inr other ↦
            let now : is_marked (set good last g) copy ≡ is_marked good copy = get_or-set_other good last copy g false other in
            subst (λ (b : Bool). ForSome (content to) (λ image. passing_of form from.geometry.page kind image ≡ area_if area b)) (sym now)
            (passes_still form kind from.geometry.page (area_if area (is_marked good copy)) mid to page k (others copy kind e other) (held copy kind e other))
      ];
      dead = dead_set good last g from mid to mark k settled.cause before.dead;
    }
