-- The copies below one are settled, those from it on aren't yet.
use Rattle.std.proofs.Common.{◌≡◌, ◌≢◌, ◌⊎◌, ◌∙◌, ℕ, zero, suc, ◌+◌, ◌<◌, ◌≤◌, Bool, true, false, not, List, [], ◌∷◌, ◌++◌, length, set, take, Option, Some, count_by, ap, sym, subst, arith, refl, inl, inr}
use Rattle.std.specs.Prelude.{slice_get}
use Rattle.std.specs.Option.{ForSome}
use Rattle.std.proofs.lemmas.List.{get_or-set_other, get_or-set_same, take-set}
use Rattle.std.proofs.lemmas.List.Sums.{count_by_more_no, count_by_more_yes}
use Rattle.std.proofs.lemmas.Option.{slice_get_within}
use Rattle.std.proofs.Math.Seq.{take-length}
use Rattle.bb_base.specs.Faults.{Rose, one_more}
use Rattle.bb_base.specs.Form.{Form}
use Rattle.bb_flash.specs.Cuts.{IsLater}
use Rattle.bb_flash.specs.Device.{Device, IsDevice, content}
use Rattle.bb_flash.specs.Image.{Image}
use Rattle.bb_bucket.specs.Calls.{Leaves}
use Rattle.bb_bucket.specs.Kind.{BucketKind, part_of}
use Rattle.bb_copies.specs.Buckets.{EachCopy}
use Rattle.bb_copies.specs.Erasing.{EachBounded, ErasesBy, IsBoundedInSum, unmarked_kinds}
use Rattle.bb_copies.specs.Passing.{passing_of}
use Rattle.bb_copies.specs.Refreshing.{AllSettled, AllWritten, IsBoundedAt, IsSettledAt, IsStuckAt, IsUntouched, IsWrittenAt, KeepsMarked, LeavesOthers, Refreshes, area_if, is_marked}
use Rattle.bb_copies.specs.Settling.{IsStale, NothingFails, IsUnread, PassesAnother, RoseBy}
use Rattle.bb_copies.proofs.Bounded.{bounded_joined, bounded_wider, none_bounded, unmarked_below}
use Rattle.bb_copies.proofs.Ends.{content_before}
use Rattle.bb_copies.proofs.Erased.{count_append, erases_joined, none_erased, unmarked_enough, unmarked_more, unmarked_skip, written_erases}
use Rattle.bb_copies.proofs.Many.{images_now, same_or_not, same_part, same_passing}
use Rattle.bb_copies.proofs.Runs.{none_refreshes, none_untouched, refreshes_joined, undisturbed_first, undisturbed_second, untouched_joined}
use Rattle.bb_copies.proofs.Touched.{each_settled, none_settled}

-- not yet settled: it was marked from the first, or its turn hasn't come
abbrev pub IsLeft : List Bool → ℕ → ℕ → Type 0
IsLeft marked bound copy = (is_marked marked copy ≡ true) ⊎ (bound ≤ copy)

pub record RefreshedBelow (form : Form) (kinds : List BucketKind) (area rec : List ℕ) (marked good : List Bool) (bound : ℕ) (from to : Device) : Type 0 where
  pub refreshes : Refreshes form kinds area from to
  pub kept : EachCopy kinds (λ copy kind. IsLeft marked bound copy → IsUntouched kind from to)
  pub same : (copy : ℕ) → IsLeft marked bound copy → is_marked good copy ≡ is_marked marked copy
  pub each :
      EachCopy
      kinds
      (λ copy kind.
      copy < bound → is_marked marked copy ≡ false → ForSome (content to) (λ image. passing_of form from.geometry.page kind image ≡ area_if area (is_marked good copy)))
  pub dead : RoseBy (count_by not (take bound good)) from.faults to.faults
  pub exact : NothingFails from to → EachCopy kinds (λ copy kind. copy < bound → is_marked marked copy ≡ false → Leaves kind.region (kind.after_write rec) from to)
  pub erased : NothingFails from to → ErasesBy (unmarked_kinds (take bound marked) (take bound kinds)) rec from to
  pub bounded : IsBoundedInSum (unmarked_kinds (take bound marked) (take bound kinds)) rec from to
  pub each_copy : EachBounded kinds rec from to
  pub read_faults : to.read_faults ≡ from.read_faults

pub none_refreshed : (form : Form) (kinds : List BucketKind) (area rec : List ℕ) (marked : List Bool) (device : Device) → IsDevice device → RefreshedBelow form kinds area rec marked marked 0 device device
none_refreshed form kinds area rec marked device whole = record {
  refreshes = none_refreshes form kinds area device whole;
  kept = λ copy kind e left. none_untouched kind device;
  same = λ copy left. refl;
  each = λ copy kind e low. absurd (omega arith);
  dead = omega arith;
  exact = λ quiet copy kind e low. absurd (omega arith);
  erased = λ quiet. none_erased rec device;
  bounded = none_bounded _ rec device;
  each_copy = none_settled kinds rec device;
  read_faults = refl;
}

pub kind_inside : (kinds : List BucketKind) (copy : ℕ) → copy < length kinds → (kind : BucketKind) × (slice_get kinds copy ≡ Some kind)
kind_inside [] copy inside = absurd (omega arith)
kind_inside (kind ∷ kinds) zero inside = (kind, refl)
kind_inside (kind ∷ kinds) (suc copy) inside = kind_inside kinds copy (omega arith)

-- ---- over a copy that is marked

true_or_false : (b : Bool) → (b ≡ true) ⊎ (b ≡ false)
true_or_false true = inl refl
true_or_false false = inr refl

below_or_at : (copy bound : ℕ) → copy < bound + 1 → (copy < bound) ⊎ (copy ≡ bound)
below_or_at copy bound low = elim (same_or_not copy bound) [ inl same ↦ inr same | inr other ↦ inl (omega arith) ]

left_before : (marked : List Bool) (bound copy : ℕ) → IsLeft marked (bound + 1) copy → IsLeft marked bound copy
left_before marked bound copy (inl m) = inl m
left_before marked bound copy (inr high) = inr (omega arith)

-- one more copy, said of the list of those that were written
erased_next : (kinds : List BucketKind) (rec : List ℕ) (marked : List Bool) (bound : ℕ) (written : List BucketKind) (from to : Device) → unmarked_kinds (take (suc bound) marked) (take (suc bound) kinds) ≡ written → ErasesBy written rec from to → ErasesBy (unmarked_kinds (take (bound + 1) marked) (take (bound + 1) kinds)) rec from to
erased_next kinds rec marked bound written from to is erased =
    let next : bound + 1 ≡ suc bound = omega arith in
    subst (λ (n : ℕ). ErasesBy (unmarked_kinds (take n marked) (take n kinds)) rec from to) (sym next)
    (subst (λ (ks : List BucketKind). ErasesBy ks rec from to) (sym is) erased)

bounded_next : (kinds : List BucketKind) (rec : List ℕ) (marked : List Bool) (bound : ℕ) (settled : List BucketKind) (from to : Device) → unmarked_kinds (take (suc bound) marked) (take (suc bound) kinds) ≡ settled → IsBoundedInSum settled rec from to → IsBoundedInSum (unmarked_kinds (take (bound + 1) marked) (take (bound + 1) kinds)) rec from to
bounded_next kinds rec marked bound settled from to is bounded =
    let next : bound + 1 ≡ suc bound = omega arith in
    subst (λ (n : ℕ). IsBoundedInSum (unmarked_kinds (take n marked) (take n kinds)) rec from to) (sym next)
    (subst (λ (ks : List BucketKind). IsBoundedInSum ks rec from to) (sym is) bounded)

pub skipped : (form : Form) (kinds : List BucketKind) (area rec : List ℕ) (marked good : List Bool) (bound : ℕ) (from to : Device) → bound < length good → is_marked good bound ≡ true → RefreshedBelow form kinds area rec marked good bound from to → RefreshedBelow form kinds area rec marked good (bound + 1) from to
skipped form kinds area rec marked good bound from to inside mark below =
    let here : is_marked marked bound ≡ true = sym (below.same bound (inr (omega arith))) ∙ mark in
    let still : count_by not (take (bound + 1) good) ≡ count_by not (take bound good) = count_by_more_no not good bound false inside (ap not mark) in
    record {
      refreshes = below.refreshes;
      kept = λ copy kind e left. below.kept copy kind e (left_before marked bound copy left);
      same = λ copy left. below.same copy (left_before marked bound copy left);
      each = λ copy kind e low new. elim (below_or_at copy bound low) [
        | inl lower ↦ below.each copy kind e lower new
        | inr at ↦ let clash : is_marked marked bound ≡ false = ap (is_marked marked) (sym at) ∙ new in absurd cc
      ];
      dead = subst (λ (n : ℕ). RoseBy n from.faults to.faults) (sym still) below.dead;
      exact = λ quiet copy kind e low new. elim (below_or_at copy bound low) [
        | inl lower ↦ below.exact quiet copy kind e lower new
        | inr at ↦ let clash : is_marked marked bound ≡ false = ap (is_marked marked) (sym at) ∙ new in absurd cc
      ];
      erased = λ quiet. erased_next kinds rec marked bound _ from to (unmarked_skip marked kinds bound here) (below.erased quiet);
      bounded = bounded_next kinds rec marked bound _ from to (unmarked_skip marked kinds bound here) below.bounded;
      each_copy = below.each_copy;
      read_faults = below.read_faults;
    }

-- ---- over a copy that was settled

-- what a copy passes that a later run didn't touch
pub passes_still : (form : Form) (kind : BucketKind) (page : ℕ) (passes : Option (List ℕ)) (mid to : Device) → mid.geometry.page ≡ page → IsLater mid to → IsUntouched kind mid to → ForSome (content mid) (λ image. passing_of form page kind image ≡ passes) → ForSome (content to) (λ image. passing_of form page kind image ≡ passes)
passes_still form kind page passes mid to same later untouched before = λ after f.
    let there = content_before mid to later after f in
    let region = images_now _ mid to untouched.images there.0 after there.1 f in
    let old = before there.0 there.1 in
    let kept : passing_of form mid.geometry.page kind after ≡ passing_of form mid.geometry.page kind there.0 = same_passing form mid.geometry.page kind there.0 after region in
    subst (λ (p : ℕ). passing_of form p kind after ≡ passing_of form p kind there.0) same kept ∙ old

-- a region that a run left, and a later run didn't touch
pub leaves_still : (kind : BucketKind) (f : Image → Image) (one two three : Device) → IsLater one two → IsLater two three → IsUntouched kind two three → Leaves kind.region f one two → Leaves kind.region f one three
leaves_still kind f one two three h k untouched leaves = record {
  there = λ before e after g.
      let mid = content_before two three k after g in
      let region = images_now _ two three untouched.images mid.0 after mid.1 g in
      let kept : part_of two.geometry.page kind.region after ≡ part_of two.geometry.page kind.region mid.0 = same_part two.geometry.page kind.region mid.0 after region in
      subst (λ (p : ℕ). part_of p kind.region after ≡ part_of p kind.region mid.0) (ap (λ geo. geo.page) h.geometry) kept ∙ leaves.there before e mid.0 mid.1;
}

-- a region that a first run didn't touch, and a later one left
pub still_leaves : (kind : BucketKind) (f : Image → Image) (one two three : Device) → IsLater one two → IsLater two three → IsUntouched kind one two → Leaves kind.region f two three → Leaves kind.region f one three
still_leaves kind f one two three h k untouched leaves = record {
  there = λ before e after g.
      let mid = content_before two three k after g in
      let region = images_now _ one two untouched.images before mid.0 e mid.1 in
      let kept : part_of one.geometry.page kind.region mid.0 ≡ part_of one.geometry.page kind.region before = same_part one.geometry.page kind.region before mid.0 region in
      let left : part_of two.geometry.page kind.region after ≡ f (part_of two.geometry.page kind.region mid.0) = leaves.there mid.0 mid.1 after g in
      subst (λ (p : ℕ). part_of p kind.region after ≡ f (part_of p kind.region mid.0)) (ap (λ geo. geo.page) h.geometry) left ∙ ap f kept;
}

rose_more : (n : ℕ) (one two three : Device) → IsLater two three → RoseBy n one.faults two.faults → RoseBy n one.faults three.faults
rose_more n one two three k rose = let later = k.faults in omega (arith, rose, later)

rose_again : (n : ℕ) (one two three : Device) → RoseBy n one.faults two.faults → Rose two.faults three.faults → RoseBy (n + 1) one.faults three.faults
rose_again n one two three rose more = omega (arith, rose, more)

dead_more : (good : List Bool) (bound : ℕ) (g : Bool) (one two three : Device) → bound < length (set good bound g) → is_marked (set good bound g) bound ≡ g → IsLater two three → (g ≡ false → Rose two.faults three.faults) → RoseBy (count_by not (take bound good)) one.faults two.faults → RoseBy (count_by not (take (bound + 1) (set good bound g))) one.faults three.faults
dead_more good bound true one two three inside here k cause rose =
    let still : count_by not (take (bound + 1) (set good bound true)) ≡ count_by not (take bound good) = count_by_more_no not (set good bound true) bound false inside (ap not here) ∙ ap (count_by not) (take-set good bound true) in
    subst (λ (n : ℕ). RoseBy n one.faults three.faults) (sym still) (rose_more (count_by not (take bound good)) one two three k rose)
dead_more good bound false one two three inside here k cause rose =
    let more : count_by not (take (bound + 1) (set good bound false)) ≡ count_by not (take bound good) + 1 = count_by_more_yes not (set good bound false) bound false inside (ap not here) ∙ ap (λ xs. count_by not xs + 1) (take-set good bound false) in
    subst (λ (n : ℕ). RoseBy n one.faults three.faults) (sym more) (rose_again (count_by not (take bound good)) one two three rose (cause refl))

-- one more copy was settled, or is stuck
bounded_more : (form : Form) (kinds : List BucketKind) (area rec : List ℕ) (marked good : List Bool) (bound : ℕ) (from mid to : Device) → bound < length marked → bound < length kinds → is_marked good bound ≡ false → RefreshedBelow form kinds area rec marked good bound from mid → IsBoundedAt kinds bound rec mid to → IsBoundedInSum (unmarked_kinds (take (bound + 1) marked) (take (bound + 1) kinds)) rec from to
bounded_more form kinds area rec marked good bound from mid to among there fresh_here below bounds =
    let kind = kind_inside kinds bound there in
    let new : is_marked marked bound ≡ false = sym (below.same bound (inr (omega arith))) ∙ fresh_here in
    let first : List BucketKind = unmarked_kinds (take bound marked) (take bound kinds) in
    bounded_next kinds rec marked bound (first ++ kind.0 ∷ []) from to (unmarked_more marked kinds bound kind.0 kind.1 among new)
    (bounded_joined first (first ++ kind.0 ∷ []) kind.0 rec from mid to below.refreshes.later (below.kept bound kind.0 kind.1 (inr (omega arith))) below.bounded (bounds bound kind.0 kind.1 refl)
    (λ p. let sum = count_append p first (kind.0 ∷ []) in omega (arith, sum)))

pub each_more : (form : Form) (kinds : List BucketKind) (area rec : List ℕ) (marked good : List Bool) (bound : ℕ) (from mid to : Device) → RefreshedBelow form kinds area rec marked good bound from mid → IsLater mid to → LeavesOthers kinds bound mid to → IsBoundedAt kinds bound rec mid to → EachBounded kinds rec from to
each_more form kinds area rec marked good bound from mid to below later others bounds =
    each_settled kinds rec bound from mid to below.refreshes.later later below.each_copy
    (λ place kind e same. below.kept place kind e (inr (omega (arith, same)))) others bounds

pub settled_more : (form : Form) (kinds : List BucketKind) (area rec : List ℕ) (marked good : List Bool) (bound : ℕ) (g : Bool) (from mid to : Device) → bound < length good → bound < length (set good bound g) → bound < length marked → bound < length kinds → is_marked good bound ≡ false → RefreshedBelow form kinds area rec marked good bound from mid → Refreshes form kinds area mid to → LeavesOthers kinds bound mid to → IsSettledAt form kinds area bound mid to g → (NothingFails mid to → IsWrittenAt kinds bound rec mid to) → IsBoundedAt kinds bound rec mid to → to.read_faults ≡ mid.read_faults → RefreshedBelow form kinds area rec marked (set good bound g) (bound + 1) from to
settled_more form kinds area rec marked good bound g from mid to inside within among there fresh_here below run others settled exact bounds calm =
    let page : mid.geometry.page ≡ from.geometry.page = ap (λ geo. geo.page) below.refreshes.later.geometry in
    let new : is_marked marked bound ≡ false = sym (below.same bound (inr (omega arith))) ∙ fresh_here in
    let here : is_marked (set good bound g) bound ≡ g = get_or-set_same good bound g false inside in
    let else_same : (copy : ℕ) → copy ≢ bound → is_marked (set good bound g) copy ≡ is_marked good copy = λ copy other. get_or-set_other good bound copy g false other in
    let left_other : (copy : ℕ) → IsLeft marked (bound + 1) copy → copy ≢ bound = λ copy left same. elim left [
      | inl m ↦ let clash : is_marked marked bound ≡ true = ap (is_marked marked) (sym same) ∙ m in absurd cc
      | inr high ↦ absurd (omega arith)
    ] in
    record {
      refreshes = refreshes_joined form kinds area from mid to below.refreshes run;
      kept = λ copy kind e left. untouched_joined kind from mid to below.refreshes.later run.later (below.kept copy kind e (left_before marked bound copy left)) (others copy kind e (left_other copy left));
      same = λ copy left. else_same copy (left_other copy left) ∙ below.same copy (left_before marked bound copy left);
      each = λ copy kind e low fresh. elim (below_or_at copy bound low) [
        | inl lower ↦
            let apart : copy ≢ bound = omega arith in
            subst (λ (b : Bool). ForSome (content to) (λ image. passing_of form from.geometry.page kind image ≡ area_if area b)) (sym (else_same copy apart))
            (passes_still form kind from.geometry.page (area_if area (is_marked good copy)) mid to page run.later (others copy kind e apart) (below.each copy kind e lower fresh))
        | inr at ↦
            let mark : is_marked (set good bound g) copy ≡ g = ap (is_marked (set good bound g)) at ∙ here in
            subst (λ (b : Bool). ForSome (content to) (λ image. passing_of form from.geometry.page kind image ≡ area_if area b)) (sym mark)
            (subst (λ (p : ℕ). ForSome (content to) (λ image. passing_of form p kind image ≡ area_if area g)) page (settled.passes copy kind e at))
      ];
      dead = dead_more good bound g from mid to within here run.later settled.cause below.dead;
      exact = λ quiet copy kind e low fresh. elim (below_or_at copy bound low) [
        | inl lower ↦
            let apart : copy ≢ bound = omega arith in
            leaves_still kind (kind.after_write rec) from mid to below.refreshes.later run.later (others copy kind e apart) (below.exact (undisturbed_first from mid to run.later quiet) copy kind e lower fresh)
        | inr at ↦
            still_leaves kind (kind.after_write rec) from mid to below.refreshes.later run.later (below.kept copy kind e (inr (omega arith)))
            (exact (undisturbed_second from mid to below.refreshes.later quiet) copy kind e at).leaves
      ];
      erased = λ quiet.
          let kind = kind_inside kinds bound there in
          let before : ErasesBy (unmarked_kinds (take bound marked) (take bound kinds)) rec from mid = below.erased (undisturbed_first from mid to run.later quiet) in
          let last = written_erases kind.0 rec mid to (exact (undisturbed_second from mid to below.refreshes.later quiet) bound kind.0 kind.1 refl) in
          let whole : List BucketKind = unmarked_kinds (take bound marked) (take bound kinds) ++ kind.0 ∷ [] in
          erased_next kinds rec marked bound whole from to (unmarked_more marked kinds bound kind.0 kind.1 among new)
          (erases_joined (unmarked_kinds (take bound marked) (take bound kinds)) whole kind.0 rec from mid to below.refreshes.later run.later
          (below.kept bound kind.0 kind.1 (inr (omega arith))) before last (λ p. count_append p (unmarked_kinds (take bound marked) (take bound kinds)) (kind.0 ∷ [])));
      bounded = bounded_more form kinds area rec marked good bound from mid to among there fresh_here below bounds;
      each_copy = each_more form kinds area rec marked good bound from mid to below run.later others bounds;
      read_faults = calm ∙ below.read_faults;
    }

-- ---- at the end

pub all_settled : (form : Form) (kinds : List BucketKind) (area rec : List ℕ) (marked good : List Bool) (from to : Device) → length good ≡ length kinds → RefreshedBelow form kinds area rec marked good (length good) from to → AllSettled form kinds area marked good from to
all_settled form kinds area rec marked good from to many below = record {
  each = λ copy kind e fresh. below.each copy kind e (omega (arith, slice_get_within kinds copy kind e, many)) fresh;
  stays = λ copy mark. below.same copy (inl mark) ∙ mark;
  dead = subst (λ (xs : List Bool). RoseBy (count_by not xs) from.faults to.faults) (take-length good) below.dead;
}

pub all_written : (form : Form) (kinds : List BucketKind) (area rec : List ℕ) (marked good : List Bool) (from to : Device) → length good ≡ length kinds → RefreshedBelow form kinds area rec marked good (length good) from to → NothingFails from to → AllWritten kinds rec marked from to
all_written form kinds area rec marked good from to many below quiet =
    let some : unmarked_kinds (take (length good) marked) (take (length good) kinds) ≡ unmarked_kinds marked kinds =
    ap (λ n. unmarked_kinds (take (length good) marked) (take n kinds)) many ∙ ap (unmarked_kinds (take (length good) marked)) (take-length kinds)
    ∙ unmarked_enough marked kinds (length good) (omega (arith, many)) in
    record {
      each = λ copy kind e fresh. below.exact quiet copy kind e (omega (arith, slice_get_within kinds copy kind e, many)) fresh;
      erases = subst (λ (ks : List BucketKind). ErasesBy ks rec from to) some (below.erased quiet);
    }

pub keeps_marked : (form : Form) (kinds : List BucketKind) (area rec : List ℕ) (marked good : List Bool) (bound : ℕ) (from to : Device) → RefreshedBelow form kinds area rec marked good bound from to → KeepsMarked kinds marked from to
keeps_marked form kinds area rec marked good bound from to below = λ copy kind e mark. below.kept copy kind e (inl mark)

pub all_bounded : (form : Form) (kinds : List BucketKind) (area rec : List ℕ) (marked good : List Bool) (bound : ℕ) (from to : Device) → RefreshedBelow form kinds area rec marked good bound from to → IsBoundedInSum (unmarked_kinds marked kinds) rec from to
all_bounded form kinds area rec marked good bound from to below = bounded_wider _ (unmarked_kinds marked kinds) rec from to (unmarked_below bound marked kinds) below.bounded

-- ---- where a copy is stuck

pub stuck_bounded : (form : Form) (kinds : List BucketKind) (area rec : List ℕ) (marked good : List Bool) (bound : ℕ) (from mid to : Device) → bound < length marked → bound < length kinds → is_marked good bound ≡ false → RefreshedBelow form kinds area rec marked good bound from mid → IsBoundedAt kinds bound rec mid to → IsBoundedInSum (unmarked_kinds marked kinds) rec from to
stuck_bounded form kinds area rec marked good bound from mid to among there fresh_here below bounds =
    bounded_wider _ (unmarked_kinds marked kinds) rec from to (unmarked_below (bound + 1) marked kinds)
    (bounded_more form kinds area rec marked good bound from mid to among there fresh_here below bounds)

cause_earlier : (form : Form) (kind : BucketKind) (area : List ℕ) (from mid to : Device) → IsLater from mid → IsLater mid to → IsStale form kind area mid to ⊎ IsUnread mid to → IsStale form kind area from to ⊎ IsUnread from to
cause_earlier form kind area from mid to h k (inl stale) =
    let before = h.faults in
    let cause = stale.cause in
    inl (record {
      passes = subst (λ (p : ℕ). ForSome (content to) (λ image. PassesAnother area (passing_of form p kind image))) (ap (λ geo. geo.page) h.geometry) stale.passes;
      cause = omega (arith, before, cause);
    })
cause_earlier form kind area from mid to h k (inr unread) =
    let before = h.faults in
    let reads = h.read_faults in
    let cause = unread.cause in
    let read = unread.read in
    inr (record { cause = omega (arith, before, cause); read = omega (arith, reads, read) })

pub stuck_earlier : (form : Form) (kinds : List BucketKind) (area : List ℕ) (copy : ℕ) (from mid to : Device) → IsLater from mid → IsLater mid to → mid.read_faults ≡ from.read_faults → IsStuckAt form kinds area copy mid to → IsStuckAt form kinds area copy from to
stuck_earlier form kinds area copy from mid to h k calm stuck = record {
  inside = stuck.inside;
  read_faults = elim stuck.read_faults [ inl same ↦ inl (same ∙ calm) | inr more ↦ inr (more ∙ ap one_more calm) ];
  cause = λ place kind e same. cause_earlier form kind area from mid to h k (stuck.cause place kind e same);
}

cause_rose : (form : Form) (kind : BucketKind) (area : List ℕ) (from to : Device) → IsStale form kind area from to ⊎ IsUnread from to → Rose from.faults to.faults
cause_rose form kind area from to (inl stale) = let cause = stale.cause in omega (arith, cause)
cause_rose form kind area from to (inr unread) = let cause = unread.cause in omega (arith, cause)

-- where a copy is stuck a call failed
pub stuck_rose : (form : Form) (kinds : List BucketKind) (area : List ℕ) (copy : ℕ) (from to : Device) → IsStuckAt form kinds area copy from to → Rose from.faults to.faults
stuck_rose form kinds area copy from to stuck =
    let there = kind_inside kinds copy stuck.inside in
    cause_rose form there.0 area from to (stuck.cause copy there.0 there.1 refl)

pub stuck_keeps : (form : Form) (kinds : List BucketKind) (area rec : List ℕ) (marked good : List Bool) (bound : ℕ) (from mid to : Device) → is_marked good bound ≡ false → RefreshedBelow form kinds area rec marked good bound from mid → IsLater mid to → LeavesOthers kinds bound mid to → KeepsMarked kinds marked from to
stuck_keeps form kinds area rec marked good bound from mid to unmarked below later others = λ copy kind e mark.
    let new : is_marked marked bound ≡ false = sym (below.same bound (inr (omega arith))) ∙ unmarked in
    untouched_joined kind from mid to below.refreshes.later later (below.kept copy kind e (inl mark))
    (others copy kind e (λ same. let clash : is_marked marked bound ≡ true = ap (is_marked marked) (sym same) ∙ mark in absurd cc))
