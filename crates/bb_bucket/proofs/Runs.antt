-- Two runs of a bucket's flash calls, one after the other; and runs that only read, before or after
-- them.
use Rattle.std.proofs.Common.{◌≡◌, ℕ, Bool, zero, suc, ◌<◌, ◌≤◌, List, [], ◌∷◌, ◌++◌, length, take, true, Option, Some, None, refl, sym, ap, ◌∙◌, subst, arith, inl, inr, ◌⊎◌, option_map, append_assoc}
use Rattle.std.specs.Prelude.{slice_get}
use Rattle.std.specs.Option.{ForSome, is_some}
use Rattle.std.proofs.lemmas.List.{append-nil}
use Rattle.std.proofs.lemmas.Option.{slice_get_within}
use Rattle.bb_flash.specs.declared.geometry.Geometry.{Geometry}
use Rattle.bb_flash.specs.declared.region.Region.{Region}
use Rattle.bb_flash.specs.Calls.{HasNoChange}
use Rattle.bb_flash.specs.Cuts.{EachTorn, IsLater}
use Rattle.bb_flash.specs.Device.{Change, Device, Told, content, erases, moment}
use Rattle.bb_flash.specs.Image.{Image, Torn}
use Rattle.bb_flash.proofs.Moments.{later_joined, torn_joined}
use Rattle.bb_flash.proofs.Tearing.{Torn-refl}
use Rattle.bb_bucket.specs.Calls.{ChangesWithin, EachCall, EndsTorn, ErasesWhere, IsQuiet, IsTornLast, Leaves, but_reads, erases_after, told_but_reads}
use Rattle.bb_bucket.specs.Kind.{part_of}

pub some_of : {T : Type 0} (o : Option T) → is_some o ≡ true → (x : T) × (o ≡ Some x)
some_of None e = absurd cc
some_of (Some x) e = (x, refl)

below_or_not : (m n : ℕ) → (m < n) ⊎ (n ≤ m)
below_or_not m zero = inr (omega arith)
below_or_not zero (suc n) = inl (omega arith)
below_or_not (suc m) (suc n) = elim (below_or_not m n) [ inl h ↦ inl (omega arith) | inr h ↦ inr (omega arith) ]

get_of_take :
    {X : Type 0} (n : ℕ) (xs : List X) (k : ℕ) →
    k < n → slice_get (take n xs) k ≡ slice_get xs k
get_of_take zero xs k h = absurd (omega arith)
get_of_take (suc n) [] k h = refl
get_of_take (suc n) (x ∷ xs) zero h = refl
get_of_take (suc n) (x ∷ xs) (suc k) h = get_of_take n xs k (omega arith)

-- R holds of each call of two runs, where it follows of those of the first, and of those of the
-- second with M between what the two runs began with
pub calls_joined :
    (P Q R : Image → Change → Type 0) (M : Image → Image → Type 0) (one two three : Device) →
    ((x : Image) (change : Change) → P x change → R x change) →
    ((x y : Image) (change : Change) → M x y → Q y change → R x change) →
    IsLater one two →
    IsLater two three →
    ForSome one.told (λ first. ForSome two.told (λ mid. M first.image mid.image)) →
    EachCall P one two →
    EachCall Q two three →
    EachCall R one three
calls_joined P Q R M one two three of_first of_second h k between first_run second_run = record {
  each = λ first e last f call change late made.
      let there = some_of two.told (h.told ∙ ap is_some e) in
      let mid = there.0 in
      let then = (k.continued mid there.1 last f).changes in
      elim (below_or_not call (moment mid)) [
        | inl before ↦
            let same = ap (λ changes. slice_get changes call) (sym then) ∙ get_of_take (moment mid) last.changes call before in
            of_first first.image change (first_run.each first e mid there.1 call change late (same ∙ made))
        | inr after ↦
            of_second first.image mid.image change (between first e mid there.1)
            (second_run.each mid there.1 last f call change after made)
      ];
}

-- the last change of two runs is that of the second, or of the first where the second made none
torn_with :
    (page : ℕ) (first mid last : Told) →
    IsTornLast page first mid → HasNoChange mid last → IsTornLast page first last
torn_with page first mid last torn same = record {
  earlier = torn.earlier;
  change = torn.change;
  made = same.changes ∙ torn.made;
  torn = subst (λ (image : Image). Torn page torn.change.at torn.change.len torn.change.before image) (sym same.image) torn.torn;
}

torn_after :
    (page : ℕ) (first mid last : Told) (before : List Change) →
    mid.changes ≡ first.changes ++ before → IsTornLast page mid last → IsTornLast page first last
torn_after page first mid last before made torn = record {
  earlier = before ++ torn.earlier;
  change = torn.change;
  made =
      torn.made ∙ ap (λ changes. changes ++ (torn.earlier ++ torn.change ∷ [])) made
      ∙ append_assoc first.changes before (torn.earlier ++ torn.change ∷ [])
      ∙ ap (λ changes. first.changes ++ changes) (sym (append_assoc before torn.earlier (torn.change ∷ [])));
  torn = torn.torn;
}

ends_twice :
    (page : ℕ) (first mid last : Told) →
    HasNoChange first mid ⊎ IsTornLast page first mid →
    HasNoChange mid last ⊎ IsTornLast page mid last →
    HasNoChange first last ⊎ IsTornLast page first last
ends_twice page first mid last (inl h) (inl k) = inl (record { image = k.image ∙ h.image; changes = k.changes ∙ h.changes })
ends_twice page first mid last (inr h) (inl k) = inr (torn_with page first mid last h k)
ends_twice page first mid last (inl h) (inr k) = inr (torn_after page first mid last [] (h.changes ∙ sym (append-nil first.changes)) k)
ends_twice page first mid last (inr h) (inr k) = inr (torn_after page first mid last _ h.made k)

pub ends_joined :
    (one two three : Device) →
    IsLater one two → EndsTorn one two → EndsTorn two three → EndsTorn one three
ends_joined one two three h first_run second_run = record {
  ends = λ first e last f.
      let there = some_of two.told (h.told ∙ ap is_some e) in
      let mid = there.0 in
      let page = ap (λ geometry. geometry.page) h.geometry in
      ends_twice one.geometry.page first mid last (first_run.ends first e mid there.1)
      (subst (λ page. HasNoChange mid last ⊎ IsTornLast page mid last) page (second_run.ends mid there.1 last f));
}

-- a run that changed nothing but the number of reads
pub quiet_told :
    (from to : Option Told) (first last : Told) →
    option_map but_reads to ≡ option_map but_reads from → from ≡ Some first → to ≡ Some last →
    HasNoChange first last
quiet_told from to first last same e f =
    let some : Some (but_reads last) ≡ Some (but_reads first) = ap (option_map but_reads) (sym f) ∙ same ∙ ap (option_map but_reads) e in
    let is : but_reads last ≡ but_reads first = cc in
    record { image = ap (λ told. told.image) is; changes = ap (λ told. told.changes) is }

pub quiet_ends : (from to : Device) → told_but_reads to ≡ told_but_reads from → EndsTorn from to
quiet_ends from to same = record { ends = λ first e last f. inl (quiet_told from.told to.told first last same e f) }

pub quiet_calls :
    (P : Image → Change → Type 0) (from to : Device) →
    told_but_reads to ≡ told_but_reads from → EachCall P from to
quiet_calls P from to same = record {
  each = λ first e last f call change late made.
      let there = slice_get_within last.changes call change made in
      let still = ap length (quiet_told from.told to.told first last same e f).changes in
      absurd (omega (arith, there, late, still));
}

-- what a run leaves of a region, with a run before or after it that leaves the content
pub leaves_after_quiet :
    (region : Region) (f : Image → Image) (one two three : Device) →
    two.geometry ≡ one.geometry → content two ≡ content one → Leaves region f two three →
    Leaves region f one three
leaves_after_quiet region f one two three geometry same run = record {
  there = λ before e after g.
      subst (λ (geometry : Geometry). part_of geometry.page region after ≡ f (part_of geometry.page region before)) geometry
      (run.there before (same ∙ e) after g);
}

pub leaves_then_quiet :
    (region : Region) (f : Image → Image) (one two three : Device) →
    content three ≡ content two → Leaves region f one two → Leaves region f one three
leaves_then_quiet region f one two three same run = record {
  there = λ before e after g. run.there before e after (sym same ∙ g);
}

told_of_content :
    (told : Option Told) (image : Image) → option_map (λ (t : Told). t.image) told ≡ Some image →
    (t : Told) × (told ≡ Some t) × (t.image ≡ image)
told_of_content None image e = absurd cc
told_of_content (Some t) image e = (t, refl, cc)

-- what a run makes of a region where its first leaves what f makes, and its second what g makes of
-- that
pub leaves_joined :
    (region : Region) (f g : Image → Image) (one two three : Device) →
    IsLater one two → Leaves region f one two → Leaves region g two three →
    Leaves region (λ part. g (f part)) one three
leaves_joined region f g one two three h early late = record {
  there = λ before e after k.
      let first = told_of_content one.told before e in
      let there = some_of two.told (h.told ∙ ap is_some first.1) in
      let mid : Told = there.0 in
      let held : content two ≡ Some mid.image = ap (option_map (λ (t : Told). t.image)) there.1 in
      let second = subst (λ (geometry : Geometry). part_of geometry.page region after ≡ g (part_of geometry.page region mid.image)) h.geometry (late.there mid.image held after k) in
      second ∙ ap g (early.there before e mid.image held);
}

-- what a run left of a region, where the device tells what it holds afterwards
pub part_after :
    (region : Region) (f : Image → Image) (one two : Device) (after : Image) →
    IsLater one two → Leaves region f one two → content two ≡ Some after →
    (before : Image) × (content one ≡ Some before) × (part_of one.geometry.page region after ≡ f (part_of one.geometry.page region before))
part_after region f one two after h leaves k =
    let last = told_of_content two.told after k in
    let there = some_of one.told (sym h.told ∙ ap is_some last.1) in
    let first : Told = there.0 in
    let held : content one ≡ Some first.image = ap (option_map (λ (t : Told). t.image)) there.1 in
    (first.image, held, leaves.there first.image held after k)

-- what a run left of a region, of the images at its two ends
pub leaves_of :
    (region : Region) (f : Image → Image) (one two : Device) →
    Leaves region f one two →
    ForSome one.told
    (λ first. ForSome two.told (λ mid. part_of one.geometry.page region mid.image ≡ f (part_of one.geometry.page region first.image)))
leaves_of region f one two leaves first e mid k =
    leaves.there first.image (ap (option_map (λ (t : Told). t.image)) e) mid.image (ap (option_map (λ (t : Told). t.image)) k)

-- a run that erased nothing after one that did
pub erases_then_none :
    (region : Region) (f : Image → Bool) (one two three : Device) →
    erases three ≡ erases two → ErasesWhere region f one two → ErasesWhere region f one three
erases_then_none region f one two three same run = record { counted = λ before e. same ∙ run.counted before e }

-- ---- runs that only read

kept_erases :
    (from to : Option Told) →
    option_map but_reads to ≡ option_map but_reads from →
    option_map (λ (t : Told). t.erases) to ≡ option_map (λ (t : Told). t.erases) from
kept_erases None None same = refl
kept_erases None (Some last) same = absurd cc
kept_erases (Some first) None same = absurd cc
kept_erases (Some first) (Some last) same =
    let is : but_reads last ≡ but_reads first = cc in
    ap (λ told. Some told.erases) is

pub quiet_erases : (from to : Device) → told_but_reads to ≡ told_but_reads from → erases to ≡ erases from
quiet_erases from to same = kept_erases from.told to.told same

-- no cut in it leaves another image
pub quiet_torn :
    (at size : ℕ) (from to : Device) → told_but_reads to ≡ told_but_reads from → EachTorn at size from to
quiet_torn at size from to same = record {
  images = record {
    each = λ first e last f image cut.
        let still = quiet_told from.told to.told first last same e f in
        elim cut [
          | inl now ↦
              subst (λ (i : Image). Torn from.geometry.page at size first.image i) (sym (now ∙ still.image))
              (Torn-refl from.geometry.page first.image at size)
          | inr torn ↦
              let there = slice_get_within last.changes torn.call torn.change torn.made in
              let none = ap length still.changes in
              absurd (omega (arith, there, torn.later, none))
        ];
  };
}

-- the calls of a run after it are its calls too
pub calls_after_quiet :
    (P : Image → Change → Type 0) (one two three : Device) →
    IsLater one two → IsLater two three → told_but_reads two ≡ told_but_reads one →
    EachCall P two three → EachCall P one three
calls_after_quiet P one two three h k same run =
    calls_joined P P P (λ first image. image ≡ first) one two three (λ x change made. made)
    (λ x y change is made. subst (λ (i : Image). P i change) is made) h k
    (λ first e mid f. (quiet_told one.told two.told first mid same e f).image)
    (quiet_calls P one two same) run

-- and so are its erases
pub erases_after_quiet :
    (region : Region) (f : Image → Bool) (one two three : Device) →
    IsLater one two → content two ≡ content one → told_but_reads two ≡ told_but_reads one →
    ErasesWhere region f two three → ErasesWhere region f one three
erases_after_quiet region f one two three h held same run = record {
  counted = λ before e.
      let after = run.counted before (held ∙ e) in
      let here =
      ap (λ (geometry : Geometry). option_map (erases_after geometry region (f (part_of geometry.page region before))) (erases two)) h.geometry
      ∙ ap (option_map (erases_after one.geometry region (f (part_of one.geometry.page region before)))) (quiet_erases one two same) in
      after ∙ here;
}

-- ---- runs that change a region alone

pub within_joined :
    (region : Region) (one two three : Device) →
    ChangesWithin region one two → ChangesWithin region two three → ChangesWithin region one three
within_joined region one two three h k = record {
  ends = ends_joined one two three h.later h.ends k.ends;
  images = torn_joined region.at region.size one two three h.later k.later h.images k.images;
  later = later_joined one two three h.later k.later;
  starts = record {
    starts = k.starts.starts ∙ h.starts.starts;
    start_faults = k.starts.start_faults ∙ h.starts.start_faults;
  };
  whole = k.whole;
}

-- one that only reads changes nothing at all
pub within_of_quiet : (region : Region) (from to : Device) → IsQuiet from to → ChangesWithin region from to
within_of_quiet region from to quiet = record {
  ends = quiet_ends from to quiet.told;
  images = quiet_torn region.at region.size from to quiet.told;
  later = quiet.later;
  starts = quiet.starts;
  whole = quiet.whole;
}
