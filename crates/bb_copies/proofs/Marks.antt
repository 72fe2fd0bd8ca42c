-- The marks of the copies: what there is of them, and what becomes of them where copies take, keep
-- or lose an area.
use Rattle.std.proofs.Common.{◌≡◌, ◌⊎◌, ℕ, ◌+◌, ◌≤◌, List, [], ◌∷◌, ◌++◌, length, Option, Some, None, is_some, slice_get, IsTrue, refl, sym, ap, ◌∙◌, subst, inl, inr, arith}
use Rattle.std.specs.List.{AllByRecursion, AllZip, list_any}
use Rattle.std.proofs.lemmas.List.{length-append}
use Rattle.std.proofs.lemmas.Option.{none-some, slice_get_within}
use Rattle.bb_copies.specs.StandsFor.{IsAreaOrNone, IsAt, IsKeptOrLost, IsKeptOrTaken, IsMark, KeepsOrTakes, SomePasses, StandsFor, first_passed, marks_left, picked}
use Rattle.bb_copies.proofs.Places.{get_append, get_some}

-- ---- what a mark says

module _ (h : List (List ℕ)) (a : ℕ) where
  -- a copy has a mark exactly where it passes
  is_marked : (passes : Option (List ℕ)) (mark : Option ℕ) → IsMark h a passes mark →
      is_some mark ≡ is_some passes
  is_marked passes None none = sym (ap is_some none)
  is_marked passes (Some place) at = sym (ap is_some at.area ∙ get_some h place at.inside)

  marked_none : (place : ℕ) → IsMark h a None (Some place) → ⊥
  marked_none place at =
      let some = is_marked None (Some place) at in
      grind arith

  pub some_marked : (passed : List (Option (List ℕ))) (marks : List (Option ℕ)) →
      AllZip (IsMark h a) passed marks → list_any is_some marks ≡ list_any is_some passed
  some_marked [] [] marked = refl
  some_marked [] (mark ∷ marks) marked = absurd marked
  some_marked (passes ∷ passed) [] marked = absurd marked
  some_marked (passes ∷ passed) (mark ∷ marks) marked =
      rw (is_marked passes mark marked.0, some_marked passed marks marked.1) refl

  pub picked_area : (first : List ℕ) (passed : List (Option (List ℕ))) (marks : List (Option ℕ)) →
      slice_get h 0 ≡ Some first → AllZip (IsMark h a) passed marks →
      slice_get h (picked marks) ≡ Some (first_passed first passed)
  picked_area first [] [] begins marked = begins
  picked_area first [] (mark ∷ marks) begins marked = absurd marked
  picked_area first (passes ∷ passed) [] begins marked = absurd marked
  picked_area first (None ∷ passed) (None ∷ marks) begins marked =
      picked_area first passed marks begins marked.1
  picked_area first (Some area ∷ passed) (None ∷ marks) begins marked =
      absurd (none-some area (sym marked.0))
  picked_area first (None ∷ passed) (Some place ∷ marks) begins marked =
      absurd (marked_none place marked.0)
  picked_area first (Some area ∷ passed) (Some place ∷ marks) begins marked = sym marked.0.area

  pub picked_acked : (passed : List (Option (List ℕ))) (marks : List (Option ℕ)) →
      AllZip (IsMark h a) passed marks → IsTrue (list_any is_some marks) → a ≤ picked marks
  picked_acked [] [] marked some = grind arith
  picked_acked [] (mark ∷ marks) marked some = absurd marked
  picked_acked (passes ∷ passed) [] marked some = absurd marked
  picked_acked (passes ∷ passed) (None ∷ marks) marked some =
      picked_acked passed marks marked.1 some
  picked_acked (passes ∷ passed) (Some place ∷ marks) marked some = marked.0.acked

  -- some copy passes, or `first` is acknowledged: so the content stands by its marks
  pub standing : (first : List ℕ) (passed : List (Option (List ℕ))) (marks : List (Option ℕ)) →
      slice_get h 0 ≡ Some first → AllZip (IsMark h a) passed marks → SomePasses passed ⊎ (a ≡ 0) →
      StandsFor first passed h a marks
  standing first passed marks begins marked (inl passes) = record {
    begins = begins;
    marked = marked;
    some = inl (some_marked passed marks marked ∙ passes);
  }
  standing first passed marks begins marked (inr blank) =
      record { begins = begins; marked = marked; some = inr blank }

pub picked_none : (marks : List (Option ℕ)) → (IsTrue (list_any is_some marks) → ⊥) →
    picked marks ≡ 0
picked_none [] none = refl
picked_none (None ∷ marks) none = picked_none marks none
picked_none (Some place ∷ marks) none = absurd (none refl)

pub none_each : (area : List ℕ) (passed : List (Option (List ℕ))) → (SomePasses passed → ⊥) →
    AllByRecursion (IsAreaOrNone area) passed
none_each area [] none = tt
none_each area (None ∷ passed) none = (inr refl, none_each area passed none)
none_each area (Some other ∷ passed) none = absurd (none refl)

-- ---- new marks

pub longer_mark : (h more : List (List ℕ)) (a : ℕ) (passes : Option (List ℕ)) (mark : Option ℕ) →
    IsMark h a passes mark → IsMark (h ++ more) a passes mark
longer_mark h more a passes None none = none
longer_mark h more a passes (Some place) at = record {
  acked = at.acked;
  inside = let len = length-append h more in let inside = at.inside in omega arith;
  area = at.area ∙ sym (get_append h more place at.inside);
}

-- the mark of a copy that passes the area at a place
placed : (h : List (List ℕ)) (a place : ℕ) (area : List ℕ) → a ≤ place →
    slice_get h place ≡ Some area → (passes : Option (List ℕ)) → passes ≡ Some area →
    IsAt h a passes place
placed h a place area acked here passes is = record {
  acked = acked;
  inside = slice_get_within h place area here;
  area = is ∙ sym here;
}

module _ (h : List (List ℕ)) (a place : ℕ) (area : List ℕ) (acked : a ≤ place)
    (here : slice_get h place ≡ Some area) where
  taken_mark : (before image : Option (List ℕ)) (mark : Option ℕ) → IsMark h a before mark →
      IsKeptOrTaken area before image → (new : Option ℕ) × IsMark h a image new
  taken_mark before image mark marked (inl (inl kept)) =
      (mark, subst (λ passes. IsMark h a passes mark) (sym kept) marked)
  taken_mark before image mark marked (inl (inr lost)) = (None, lost)
  taken_mark before image mark marked (inr taken) =
      (Some place, placed h a place area acked here image taken)

  pub taken_marks : (before image : List (Option (List ℕ))) (marks : List (Option ℕ)) →
      AllZip (IsMark h a) before marks → KeepsOrTakes area before image →
      (new : List (Option ℕ)) × AllZip (IsMark h a) image new
  taken_marks [] [] marks marked takes = ([], tt)
  taken_marks [] (image ∷ images) marks marked takes = absurd takes
  taken_marks (before ∷ befores) [] marks marked takes = absurd takes
  taken_marks (before ∷ befores) (image ∷ images) [] marked takes = absurd marked
  taken_marks (before ∷ befores) (image ∷ images) (mark ∷ marks) marked takes =
      let new = taken_mark before image mark marked.0 takes.0 in
      let rest = taken_marks befores images marks marked.1 takes.1 in
      (new.0 ∷ rest.0, (new.1, rest.1))

pub written_mark : (h : List (List ℕ)) (place : ℕ) (area : List ℕ) → slice_get h place ≡ Some area →
    (passes : Option (List ℕ)) → IsAreaOrNone area passes →
    (mark : Option ℕ) × IsMark h place passes mark
written_mark h place area here passes (inl new) =
    (Some place, placed h place place area (omega arith) here passes new)
written_mark h place area here passes (inr none) = (None, none)

-- ---- the mark of the last area, where it is acknowledged

module _ (h : List (List ℕ)) (a : ℕ) (area : List ℕ) (last : a + 1 ≡ length h)
    (here : slice_get h a ≡ Some area) where
  last_mark : (passes : Option (List ℕ)) (mark : Option ℕ) → IsMark h a passes mark →
      IsAreaOrNone area passes
  last_mark passes None none = inr none
  last_mark passes (Some place) at =
      let acked = at.acked in
      let inside = at.inside in
      let same : place ≡ a = omega arith in
      inl (at.area ∙ ap (slice_get h) same ∙ here)

  pub last_marks : (passed : List (Option (List ℕ))) (marks : List (Option ℕ)) →
      AllZip (IsMark h a) passed marks → AllByRecursion (IsAreaOrNone area) passed
  last_marks [] marks marked = tt
  last_marks (passes ∷ passed) [] marked = absurd marked
  last_marks (passes ∷ passed) (mark ∷ marks) marked =
      (last_mark passes mark marked.0, last_marks passed marks marked.1)

-- ---- the marks that a decay leaves

module _ (h : List (List ℕ)) (a : ℕ) where
  spared_mark : (before : Option (List ℕ)) (area : List ℕ) (mark : Option ℕ) →
      IsMark h a before mark → IsKeptOrLost before (Some area) → IsMark h a (Some area) mark
  spared_mark before area mark marked (inl kept) =
      subst (λ passes. IsMark h a passes mark) (sym kept) marked
  spared_mark before area mark marked (inr lost) = absurd (none-some area (sym lost))

  pub decayed_marks : (before after : List (Option (List ℕ))) (marks : List (Option ℕ)) →
      AllZip (IsMark h a) before marks → AllZip IsKeptOrLost before after →
      AllZip (IsMark h a) after (marks_left marks after)
  decayed_marks [] [] [] marked kept = tt
  decayed_marks [] [] (mark ∷ marks) marked kept = absurd marked
  decayed_marks [] (after ∷ afters) marks marked kept = absurd kept
  decayed_marks (before ∷ befores) [] marks marked kept = absurd kept
  decayed_marks (before ∷ befores) (after ∷ afters) [] marked kept = absurd marked
  decayed_marks (before ∷ befores) (None ∷ afters) (mark ∷ marks) marked kept =
      (refl, decayed_marks befores afters marks marked.1 kept.1)
  decayed_marks (before ∷ befores) (Some area ∷ afters) (mark ∷ marks) marked kept = (
    spared_mark before area mark marked.0 kept.0,
    decayed_marks befores afters marks marked.1
        kept.1,
  )

-- each is the mark before, or none
pub marks_are_left : (marks : List (Option ℕ)) (after : List (Option (List ℕ))) →
    length after ≡ length marks → AllZip (λ mark left. (left ≡ mark) ⊎ (left ≡ None)) marks
    (marks_left marks after)
marks_are_left [] after same = tt
marks_are_left (mark ∷ marks) [] same = absurd (omega arith)
marks_are_left (mark ∷ marks) (None ∷ after) same =
    (inr refl, marks_are_left marks after (omega arith))
marks_are_left (mark ∷ marks) (Some area ∷ after) same =
    (inl refl, marks_are_left marks after (omega arith))
