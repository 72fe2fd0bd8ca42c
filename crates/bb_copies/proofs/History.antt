-- What a content stands for after a load, a save and a decay, and in each image that a cut during
-- one may leave. These are laws on lists alone.
use Rattle.std.proofs.Common.{◌≡◌, ◌⊎◌, ℕ, ◌+◌, ◌<◌, ◌≤◌, Bool, true, false, List, [], ◌∷◌, ◌++◌, length, take, Option, Some, None, is_some, slice_get, refl, sym, ◌∙◌, inl, inr, arith}
use Rattle.std.specs.List.{list_any}
use Rattle.std.proofs.lemmas.List.{length-append, length-take}
use Rattle.std.proofs.lemmas.List.Elements.{All-from_recursion, recursion_from_All}
use Rattle.std.proofs.lemmas.Option.{slice_get_within}
use Rattle.bb_copies.specs.StandsFor.{Decay, EachPassesOrNothing, IsAreaOrNone, IsMark, KeepsOrTakes, SomeIsSpared, SomePasses, Stands, StandsFor, first_passed, marks_left, picked}
use Rattle.bb_copies.proofs.Places.{each_weaker, get_append, get_seam, get_take, zip_chosen, zip_weaker}
use Rattle.bb_copies.proofs.Marks.{decayed_marks, last_marks, longer_mark, none_each, picked_acked, picked_area, picked_none, some_marked, standing, taken_marks, written_mark}

-- ---- a content that stands for a list

module _ (first : List ℕ) (passed : List (Option (List ℕ))) (h : List (List ℕ)) (a : ℕ)
    (marks : List (Option ℕ)) (stands : StandsFor first passed h a marks) where
  some_passes : SomePasses passed ⊎ (a ≡ 0)
  some_passes = elim stands.some [
    | inl some ↦ inl (sym (some_marked h a passed marks stands.marked) ∙ some)
    | inr blank ↦ inr blank
  ]

  -- the area of the first copy that passes is the one at the place that is picked
  pub picked_is_first : slice_get h (picked marks) ≡ Some (first_passed first passed)
  picked_is_first = picked_area h a first passed marks stands.begins stands.marked

  -- it is not before the acknowledged one
  pub picked_holds : a ≤ picked marks
  picked_holds = elim stands.some [
    | inl some ↦ picked_acked h a passed marks stands.marked some
    | inr blank ↦ omega arith
  ]

  pub picked_inside : picked marks < length h
  picked_inside = slice_get_within h (picked marks) (first_passed first passed) picked_is_first

  pub acked_inside : a < length h
  acked_inside = let holds = picked_holds in let inside = picked_inside in omega arith

  -- where no copy passes `first` is picked, and it is the acknowledged one
  pub none_picked : (SomePasses passed → ⊥) → picked marks ≡ 0
  none_picked none =
      picked_none marks (λ some. none (sym (some_marked h a passed marks stands.marked) ∙ some))

  pub none_acked : (SomePasses passed → ⊥) → a ≡ 0
  none_acked none = elim some_passes [ inl some ↦ absurd (none some) | inr blank ↦ blank ]

-- where no copy passes a load gives `first`
pub none_first : (first : List ℕ) (passed : List (Option (List ℕ))) → (SomePasses passed → ⊥) →
    first_passed first passed ≡ first
none_first first [] none = refl
none_first first (None ∷ passed) none = none_first first passed none
none_first first (Some area ∷ passed) none = absurd (none refl)

-- ---- a longer list

first_inside : (first : List ℕ) (h : List (List ℕ)) → slice_get h 0 ≡ Some first → 0 < length h
first_inside first h begins = slice_get_within h 0 first begins

-- a content stands for a longer list too, by the same marks
pub longer : (first : List ℕ) (passed : List (Option (List ℕ))) (h more : List (List ℕ)) (a : ℕ)
    (marks : List (Option ℕ)) → StandsFor first passed h a marks →
    StandsFor first passed (h ++ more) a marks
longer first passed h more a marks stands = record {
  begins = get_append h more 0 (first_inside first h stands.begins) ∙ stands.begins;
  marked =
      zip_weaker (IsMark h a) (IsMark (h ++ more) a) (longer_mark h more a) passed marks
      stands.marked;
  some = stands.some;
}

-- ---- an area of the list is written

spared : (before image : List (Option (List ℕ))) (a : ℕ) → SomeIsSpared before image →
    SomePasses before ⊎ (a ≡ 0) → SomePasses image ⊎ (a ≡ 0)
spared before image a spares (inl some) = inl (spares some)
spared before image a spares (inr blank) = inr blank

-- while an area is written that is not before the acknowledged one, the content stands for the same
-- list
pub while_written : (first : List ℕ) (before image : List (Option (List ℕ))) (h : List (List ℕ))
    (a : ℕ) (marks : List (Option ℕ)) (place : ℕ) (area : List ℕ) →
    StandsFor first before h a marks → a ≤ place → slice_get h place ≡ Some area →
    KeepsOrTakes area before image → SomeIsSpared before image → Stands first image h a
while_written first before image h a marks place area stands acked here takes spares =
    let new = taken_marks h a place area acked here before image marks stands.marked takes in
    let some = spared before image a spares (some_passes first before h a marks stands) in
    record { marks = new.0; stands = standing h a first image new.0 stands.begins new.1 some }

-- where each copy passes one area of the list or nothing, that area is acknowledged
pub once_written : (first : List ℕ) (passed : List (Option (List ℕ))) (h : List (List ℕ))
    (place : ℕ) (area : List ℕ) → slice_get h 0 ≡ Some first → slice_get h place ≡ Some area →
    EachPassesOrNothing area passed → SomePasses passed ⊎ (place ≡ 0) → Stands first passed h place
once_written first passed h place area begins here each some =
    let recursed = recursion_from_All (IsAreaOrNone area) passed each in
    let marked = each_weaker (IsAreaOrNone area)
    (λ passes. (mark : Option ℕ) × IsMark h place passes mark) (written_mark h place area here)
    passed recursed in
    let new = zip_chosen (IsMark h place) passed marked in
    record { marks = new.0; stands = standing h place first passed new.0 begins new.1 some }

-- ---- a load

module _ (first : List ℕ) (before : List (Option (List ℕ))) (h : List (List ℕ)) (a : ℕ)
    (marks : List (Option ℕ)) (stands : StandsFor first before h a marks) where
  -- in each image of a load the content stands for the list as before: a copy takes only the area
  -- that is picked
  pub load_during : (image : List (Option (List ℕ))) →
      KeepsOrTakes (first_passed first before) before image → SomeIsSpared before image →
      Stands first image h a
  load_during image takes spares =
      while_written first before image h a marks (picked marks) (first_passed first before) stands
      (picked_holds first before h a marks stands)
      (picked_is_first first before h a marks stands) takes spares

  some_loaded : (after : List (Option (List ℕ))) → SomeIsSpared before after → (some : Bool) →
      list_any is_some before ≡ some → SomePasses after ⊎ (picked marks ≡ 0)
  some_loaded after spares true some = inl (spares some)
  some_loaded after spares false none =
      inr (none_picked first before h a marks stands (λ some. grind arith))

  -- a load that answered Ok cuts the list after the area that is picked, and acknowledges it;
  -- where no copy passed before this is `first`
  pub load_done : (after : List (Option (List ℕ))) →
      EachPassesOrNothing (first_passed first before) after → SomeIsSpared before after →
      Stands first after (take (picked marks + 1) h) (picked marks)
  load_done after each spares =
      let loaded = take (picked marks + 1) h in
      let begins = get_take (picked marks + 1) h 0 (omega arith) ∙ stands.begins in
      let given = picked_is_first first before h a marks stands in
      let here = get_take (picked marks + 1) h (picked marks) (omega arith) ∙ given in
      once_written first after loaded (picked marks) (first_passed first before) begins here each
      (some_loaded after spares (list_any is_some before) refl)

  -- so the acknowledged area is the last of the list
  pub load_last : picked marks + 1 ≡ length (take (picked marks + 1) h)
  load_last =
      let len = length-take (picked marks + 1) h in
      let inside = picked_inside first before h a marks stands in
      omega arith

-- ---- a save

module _ (first : List ℕ) (before : List (Option (List ℕ))) (h : List (List ℕ)) (a : ℕ)
    (marks : List (Option ℕ)) (area : List ℕ) (stands : StandsFor first before h a marks) where
  -- in each image of a save the content stands for the list with the new area after it, and
  -- acknowledges no more than before
  pub save_during : (image : List (Option (List ℕ))) → KeepsOrTakes area before image →
      SomeIsSpared before image → Stands first image (h ++ area ∷ []) a
  save_during image takes spares =
      let inside = acked_inside first before h a marks stands in
      while_written first before image (h ++ area ∷ []) a marks (length h) area
      (longer first before h (area ∷ []) a marks stands) (omega arith) (get_seam h area [])
      takes spares

  -- a save that answered Ok acknowledges the new area
  pub save_done : (after : List (Option (List ℕ))) → EachPassesOrNothing area after →
      SomePasses after → Stands first after (h ++ area ∷ []) (length h)
  save_done after each some =
      let longer_begins = get_append h (area ∷ []) 0 (first_inside first h stands.begins) in
      let begins = longer_begins ∙ stands.begins in
      once_written first after (h ++ area ∷ []) (length h) area begins (get_seam h area []) each
      (inl some)

-- so the acknowledged area is the last of the list
pub save_last : (h : List (List ℕ)) (area : List ℕ) → length h + 1 ≡ length (h ++ area ∷ [])
save_last h area = let len = length-append h (area ∷ []) in omega arith

-- where the last area is acknowledged each copy passes it or nothing
pub last_alone : (first : List ℕ) (passed : List (Option (List ℕ))) (h : List (List ℕ)) (a : ℕ)
    (marks : List (Option ℕ)) (area : List ℕ) → StandsFor first passed h a marks →
    a + 1 ≡ length h → slice_get h a ≡ Some area → EachPassesOrNothing area passed
last_alone first passed h a marks area stands last here =
    All-from_recursion (IsAreaOrNone area) passed
    (last_marks h a area last here passed marks stands.marked)

-- ---- a decay

-- after a decay the content stands for the same list and the same acknowledged area, by the marks
-- that are left
pub decayed : (first : List ℕ) (before after : List (Option (List ℕ))) (h : List (List ℕ)) (a : ℕ)
    (marks : List (Option ℕ)) → StandsFor first before h a marks → Decay before after →
    StandsFor first after h a (marks_left marks after)
decayed first before after h a marks stands decay =
    standing h a first after (marks_left marks after) stands.begins
    (decayed_marks h a before after marks stands.marked decay.each)
    (spared before after a decay.spares (some_passes first before h a marks stands))

-- ---- a blank device

-- where no copy passes the content stands for `first` alone
pub blank_stands : (first : List ℕ) (passed : List (Option (List ℕ))) → (SomePasses passed → ⊥) →
    Stands first passed (first ∷ []) 0
blank_stands first passed none =
    once_written first passed (first ∷ []) 0 first refl refl
    (All-from_recursion (IsAreaOrNone first) passed (none_each first passed none)) (inr refl)
