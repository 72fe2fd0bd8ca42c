-- Nothing that was acknowledged is lost over a chronicle.
use Rattle.std.proofs.Common.{◌≡◌, ℕ, zero, suc, ◌+◌, ◌≤◌, List, [], ◌∷◌, take, map, Option, Some, slice_get, AllPairs, refl, sym, ap, ◌∙◌, subst, arith}
use Rattle.std.specs.List.{AllByRecursion}
use Rattle.std.proofs.lemmas.List.{length-take, take-append-le}
use Rattle.std.proofs.lemmas.List.Elements.{All-from_recursion}
use Rattle.std.proofs.lemmas.List.Kept.{AllPairs-cons}
use Rattle.std.proofs.lemmas.Option.{none-some, same_Some}
use Rattle.bb_copies.specs.StandsFor.{picked}
use Rattle.bb_copies.specs.Chronicle.{Chronicle, ChronicleLaw, Content, EachLoad, ChronicleEntry, Event, Finished, CutOff, Decayed, Follows, IsAfterDecay, IsGiven, IsAfterSaves, IsStanding, Outlives, TurnMakes, Turn, Untouched, Looked, Unloaded, Loaded, contents_of, loaded_in, place_of}
use Rattle.bb_copies.proofs.History.{decayed, picked_holds, picked_inside, picked_is_first}

take_within : {X : Type 0} (n m : ℕ) (xs : List X) → n ≤ m → take n (take m xs) ≡ take n xs
take_within zero m xs low = refl
take_within (suc n) zero xs low = absurd (omega arith)
take_within (suc n) (suc m) [] low = refl
take_within (suc n) (suc m) (x ∷ xs) low = ap (λ rest. x ∷ rest) (take_within n m xs (omega arith))

-- ---- one event

outlives_same : (before after : Content) → after.areas ≡ before.areas → after.acked ≡ before.acked →
    Outlives before after
outlives_same before after areas acked = record {
  acked = omega arith;
  begins = ap (take (before.acked + 1)) areas;
}

module _ (first : List ℕ) (before : Content) (stands : IsStanding first before) where
  not_before : before.acked ≤ picked before.marks
  not_before = picked_holds first before.passed before.areas before.acked before.marks stands

  outlives_saved : (after : Content) (place : ℕ) (saves : List (List ℕ)) (ok : ℕ)
      (started : Option ℕ) → IsAfterSaves before place saves ok started after.areas after.acked →
      Outlives before after
  outlives_saved after place saves ok started saved =
      let low = not_before in
      let inside = picked_inside first before.passed before.areas before.acked before.marks stands
      in
      let given = saved.given in
      let acked = saved.acked in
      let len = length-take (place + 1) before.areas in
      let loaded = take (place + 1) before.areas in
      record {
        acked = omega arith;
        begins =
            ap (take (before.acked + 1)) saved.areas
            ∙ take-append-le (before.acked + 1) loaded saves (omega arith)
            ∙ take_within (before.acked + 1) (place + 1) before.areas (omega arith);
      }

  outlives_step : (turn : Turn) (after : Content) → TurnMakes before turn after.areas after.acked →
      Outlives before after
  outlives_step Untouched after step = outlives_same before after step.areas step.acked
  outlives_step Looked after step = outlives_same before after step.areas step.acked
  outlives_step Unloaded after step = outlives_same before after step.areas step.acked
  outlives_step (Loaded place saves ok started) after step =
      outlives_saved after place saves ok started step

  given_step : (turn : Turn) (after : Content) (place : ℕ) →
      TurnMakes before turn after.areas after.acked → place_of turn ≡ Some place →
      IsGiven first before place
  given_step Untouched after place step loaded = absurd (none-some place loaded)
  given_step Looked after place step loaded = absurd (none-some place loaded)
  given_step Unloaded after place step loaded = absurd (none-some place loaded)
  given_step (Loaded given saves ok started) after place step loaded =
      let low = not_before in
      let same : place ≡ picked before.marks = sym (same_Some given place loaded) ∙ step.given in
      let here = picked_is_first first before.passed before.areas before.acked before.marks stands
      in
      record { acked = omega arith; area = ap (slice_get before.areas) same ∙ here }

  stands_decayed : (after : Content) → IsAfterDecay before after → IsStanding first after
  stands_decayed after decays =
      let left = decayed first before.passed after.passed before.areas before.acked before.marks
      stands decays.decay in
      rw (decays.areas, decays.acked, decays.marks) left

  -- what follows a content stands for its list, and has all that was acknowledged
  pub stands_after : (event : Event) (after : Content) → Follows first before event after →
      IsStanding first after
  stands_after (Finished turn) after follows = follows.stands
  stands_after (CutOff turn) after follows = follows.stands
  stands_after Decayed after follows = stands_decayed after follows

  pub outlives_after : (event : Event) (after : Content) → Follows first before event after →
      Outlives before after
  outlives_after (Finished turn) after follows = outlives_step turn after follows.step
  outlives_after (CutOff turn) after follows = outlives_step turn after follows.step
  outlives_after Decayed after follows = outlives_same before after follows.areas follows.acked

  -- a load that answered Ok gave an area that is not before the acknowledged one
  pub given_in : (event : Event) (after : Content) (place : ℕ) → Follows first before event after →
      loaded_in event ≡ Some place → IsGiven first before place
  given_in (Finished turn) after place follows loaded =
      given_step turn after place follows.step loaded
  given_in (CutOff turn) after place follows loaded =
      given_step turn after place follows.step loaded
  given_in Decayed after place follows loaded = absurd (none-some place loaded)

-- ---- over a chronicle

outlives_joined : (one two three : Content) → Outlives one two → Outlives two three →
    Outlives one three
outlives_joined one two three early late =
    let early_acked = early.acked in
    let late_acked = late.acked in
    record {
      acked = omega arith;
      begins =
          sym (take_within (one.acked + 1) (two.acked + 1) three.areas (omega arith))
          ∙ ap (take (one.acked + 1)) late.begins
          ∙ take_within (one.acked + 1) (two.acked + 1) two.areas (omega arith)
          ∙ early.begins;
    }

module _ (first : List ℕ) where
  -- the content that an entry leaves stands for its list
  next : (before : Content) (entry : ChronicleEntry) (later : List ChronicleEntry) → IsStanding first before →
      Chronicle first before (entry ∷ later) → IsStanding first entry.content
  next before entry later stands chronicle =
      stands_after first before stands entry.event entry.content chronicle.0

  each_stands : (before : Content) (entries : List ChronicleEntry) → IsStanding first before →
      Chronicle first before entries → AllByRecursion (IsStanding first)
      (contents_of before entries)
  each_stands before [] stands chronicle = (stands, tt)
  each_stands before (entry ∷ later) stands chronicle = (
    stands,
    each_stands entry.content later (next before entry later stands chronicle)
        chronicle.1,
  )

  each_outlives : (earliest before : Content) (entries : List ChronicleEntry) → Outlives earliest before →
      IsStanding first before → Chronicle first before entries →
      AllByRecursion (Outlives earliest) (map (λ entry. entry.content) entries)
  each_outlives earliest before [] outlives stands chronicle = tt
  each_outlives earliest before (entry ∷ later) outlives stands chronicle =
      let after = outlives_after first before stands entry.event entry.content chronicle.0 in
      let joined = outlives_joined earliest before entry.content outlives after in
      let behind = next before entry later stands chronicle in
      (joined, each_outlives earliest entry.content later joined behind chronicle.1)

  all_outlive : (before : Content) (entries : List ChronicleEntry) → IsStanding first before →
      Chronicle first before entries → AllPairs Outlives (contents_of before entries)
  all_outlive before [] stands chronicle = λ i j d low inside. absurd (omega arith)
  all_outlive before (entry ∷ later) stands chronicle =
      let contents = contents_of entry.content later in
      let same = outlives_same before before refl refl in
      let each = each_outlives before before (entry ∷ later) same stands chronicle in
      let all = All-from_recursion (Outlives before) contents each in
      let behind = next before entry later stands chronicle in
      AllPairs-cons Outlives before contents all
      (all_outlive entry.content later behind chronicle.1)

  each_given : (before : Content) (entries : List ChronicleEntry) → IsStanding first before →
      Chronicle first before entries → EachLoad first before entries
  each_given before [] stands chronicle k content entry place here at loaded =
      absurd (none-some entry at)
  each_given before (head ∷ later) stands chronicle zero content entry place here at loaded =
      let happened = ap (λ e. loaded_in e.event) (same_Some head entry at) ∙ loaded in
      let given = given_in first before stands head.event head.content place chronicle.0 happened in
      subst (λ c. IsGiven first c place) (same_Some before content here) given
  each_given before (head ∷ later) stands chronicle (suc k) content entry place here at loaded =
      let behind = next before head later stands chronicle in
      each_given head.content later behind chronicle.1 k content entry place here at loaded

pub nothing_lost : ChronicleLaw
nothing_lost first before entries stands chronicle =
    let contents = contents_of before entries in
    record {
      standing =
          All-from_recursion (IsStanding first) contents
          (each_stands first before entries stands chronicle);
      outlives = all_outlive first before entries stands chronicle;
      loads = each_given first before entries stands chronicle;
    }
