-- What stands for a stage of a turn is what a session leaves that was cut there.
use Rattle.std.proofs.Common.{◌≡◌, ◌∙◌, ℕ, zero, suc, ◌+◌, ◌≤◌, ◌<◌, List, [], ◌∷◌, ◌++◌, length, take, Option, Some, None, inl, inr, refl, ap, sym, arith, append_assoc}
use Rattle.std.specs.Prelude.{slice_get}
use Rattle.std.proofs.lemmas.List.{append-nil, append_cancel_left, length-take-le}
use Rattle.bb_copies.specs.Chronicle.{Content, IsAsBefore, Loaded, Looked, Turn, TurnMakes, Unloaded, Untouched}
use Rattle.bb_copies.specs.Cutting.{BeginsLoaded, BeginsTurn, CutLaw, IsAtOne, IsCutOff, LoadsThePicked, turn_stages}
use Rattle.bb_copies.specs.StandsFor.{picked}
use Rattle.bb_copies.specs.Trail.{Stage, StandsAt, StandsAtOne, session_stages, stages_of}

abbrev pub stage : List (List ℕ) → ℕ → Stage
stage h a = record { areas = h; acked = a }

-- ---- where a stage stands among those of saves

-- so many of the saves were begun by then, and so many of them answered Ok
record IsPlaced (h : List (List ℕ)) (a : ℕ) (saves : List (List ℕ)) (number : ℕ) (at : Stage) : Type 0 where
  begun : ℕ
  done : ℕ
  areas : at.areas ≡ h ++ take begun saves
  acked : at.acked ≡ a + done
  sum : number ≡ begun + done
  most : done ≤ begun
  least : begun ≤ done + 1
  inside : begun ≤ length saves

placed_after : (h : List (List ℕ)) (a : ℕ) (area : List ℕ) (saves : List (List ℕ)) (number : ℕ) (at : Stage) →
    IsPlaced (h ++ area ∷ []) (a + 1) saves number at → IsPlaced h a (area ∷ saves) (suc (suc number)) at
placed_after h a area saves number at by =
    let acked = by.acked in
    let sum = by.sum in
    let most = by.most in
    let least = by.least in
    let inside = by.inside in
    record {
      begun = suc by.begun;
      done = suc by.done;
      areas = by.areas ∙ append_assoc h (area ∷ []) (take by.begun saves);
      acked = omega (arith, acked);
      sum = omega (arith, sum);
      most = omega (arith, most);
      least = omega (arith, least);
      inside = omega (arith, inside);
    }

placed_at : (h : List (List ℕ)) (a : ℕ) (saves : List (List ℕ)) (number : ℕ) (at : Stage) →
    slice_get (stage h a ∷ stages_of h a saves) number ≡ Some at → IsPlaced h a saves number at
placed_at h a saves zero at e =
    let is : stage h a ≡ at = cc in
    let acked : a ≡ at.acked = ap (λ (s : Stage). s.acked) is in
    record {
      begun = 0;
      done = 0;
      areas = ap (λ (s : Stage). s.areas) (sym is) ∙ sym (append-nil h);
      acked = omega (arith, acked);
      sum = omega arith;
      most = omega arith;
      least = omega arith;
      inside = omega arith;
    }
placed_at h a [] (suc number) at e = absurd cc
placed_at h a (area ∷ saves) (suc zero) at e =
    let is : stage (h ++ area ∷ []) a ≡ at = cc in
    let acked : a ≡ at.acked = ap (λ (s : Stage). s.acked) is in
    record {
      begun = 1;
      done = 0;
      areas = ap (λ (s : Stage). s.areas) (sym is);
      acked = omega (arith, acked);
      sum = omega arith;
      most = omega arith;
      least = omega arith;
      inside = omega arith;
    }
placed_at h a (area ∷ saves) (suc (suc number)) at e =
    placed_after h a area saves number at (placed_at (h ++ area ∷ []) (a + 1) saves number at e)

taken : (n : ℕ) (stages : List Stage) (number : ℕ) (at : Stage) → slice_get (take n stages) number ≡ Some at →
    (number < n) × (slice_get stages number ≡ Some at)
taken zero stages number at e = absurd cc
taken (suc n) [] number at e = absurd cc
taken (suc n) (s ∷ stages) zero at e = (omega arith, e)
taken (suc n) (s ∷ stages) (suc number) at e =
    let rest = taken n stages number at e in
    let low = rest.0 in
    (omega (arith, low), rest.1)

-- ---- how a turn begins

-- saves that lead from a list to a stage that was reached are the first ones of the turn's
pub begins_loaded : (h : List (List ℕ)) (place ok : ℕ) (saves : List (List ℕ)) (number : ℕ) (at : Stage)
    (begun : List (List ℕ)) (done : ℕ) (started : Option ℕ) →
    slice_get (take (1 + length saves + ok) (stage h place ∷ stages_of h place saves)) number ≡ Some at →
    at.areas ≡ h ++ begun → at.acked ≡ place + done → started ≡ None →
    BeginsLoaded place place begun saves done ok started
begins_loaded h place ok saves number at begun done started e areas acked unstarted =
    let there = taken (1 + length saves + ok) (stage h place ∷ stages_of h place saves) number at e in
    let by = placed_at h place saves number at there.1 in
    let low = there.0 in
    let answered = by.acked in
    let sum = by.sum in
    let most = by.most in
    let inside = by.inside in
    let same : begun ≡ take by.begun saves =
    append_cancel_left h begun (take by.begun saves) (sym areas ∙ by.areas) in
    let size : length begun ≡ by.begun = ap length same ∙ length-take-le by.begun saves by.inside in
    record {
      same = refl;
      first = same ∙ ap (λ n. take n saves) (sym size);
      fewer = λ few. omega (arith, low, answered, acked, sum, most, inside, few);
      unstarted = unstarted;
    }

-- a content that stands for what a beginning of a turn makes of the list is one that a cut leaves
abbrev pub cut_off : (first : List ℕ) (before : Content) (turn cut : Turn) (at : Stage)
    (passed : List (Option (List ℕ))) → TurnMakes before cut at.areas at.acked →
    StandsAt first passed at → BeginsTurn cut turn → IsCutOff first before turn at passed
cut_off first before turn cut at passed step stands begins =
    let after : Content = record {
      passed = passed;
      areas = at.areas;
      acked = at.acked;
      marks = stands.marks;
    } in
    record {
      cut = cut;
      begins = begins;
      after = after;
      passed_is = refl;
      areas = refl;
      acked = refl;
      follows = record { step = step; stands = stands.stands };
    }

-- ---- at each stage

module _ (first : List ℕ) (before : Content) (at : Stage) (passed : List (Option (List ℕ))) where
  abbrev pub Entry : Stage
  Entry = stage before.areas before.acked

  pub as_before : Entry ≡ at → IsAsBefore before at.areas at.acked
  as_before is = record {
    areas = ap (λ (s : Stage). s.areas) (sym is);
    acked = ap (λ (s : Stage). s.acked) (sym is);
  }

  -- where no load answered Ok there is no other stage
  pub only_entry : (number : ℕ) → slice_get (Entry ∷ []) number ≡ Some at → IsAsBefore before at.areas at.acked
  only_entry zero e = let is : Entry ≡ at = cc in as_before is
  only_entry (suc number) e = absurd cc

  loaded : (place ok : ℕ) (saves : List (List ℕ)) (started : Option ℕ) → place ≡ picked before.marks →
      StandsAt first passed at → (number : ℕ) →
      slice_get
      (Entry
      ∷ take (1 + length saves + ok)
      (stage (take (place + 1) before.areas) place ∷ stages_of (take (place + 1) before.areas) place saves))
      number
      ≡ Some at →
      IsCutOff first before (Loaded place saves ok started) at passed
  loaded place ok saves started given stands zero e =
      let is : Entry ≡ at = cc in
      cut_off first before (Loaded place saves ok started) Unloaded at passed (as_before is) stands tt
  loaded place ok saves started given stands (suc number) e =
      let h = take (place + 1) before.areas in
      let there = taken (1 + length saves + ok) (stage h place ∷ stages_of h place saves) number at e in
      let by = placed_at h place saves number at there.1 in
      let size = length-take-le by.begun saves by.inside in
      let most = by.most in
      let least = by.least in
      cut_off first before (Loaded place saves ok started) (Loaded place (take by.begun saves) by.done None) at
      passed
      (record {
        given = given;
        areas = by.areas;
        acked = by.acked;
        most = omega (arith, most, size);
        least = omega (arith, least, size);
        start = λ some. grind arith;
      })
      stands
      (begins_loaded h place ok saves number at (take by.begun saves) by.done None e by.areas by.acked refl)

-- the number of a turn's stages, as one and the others
pub counted_stages : (before : Content) (place ok : ℕ) (saves : List (List ℕ)) (number : ℕ) (at : Stage) →
    slice_get (take (2 + length saves + ok) (session_stages before.areas before.acked place saves)) number
    ≡ Some at →
    slice_get
    (stage before.areas before.acked
    ∷ take (1 + length saves + ok)
    (stage (take (place + 1) before.areas) place ∷ stages_of (take (place + 1) before.areas) place saves))
    number
    ≡ Some at
counted_stages before place ok saves number at e =
    let count : suc (1 + length saves + ok) ≡ 2 + length saves + ok = omega arith in
    ap (λ n. slice_get (take n (session_stages before.areas before.acked place saves)) number) count ∙ e

cut_each : (first : List ℕ) (before : Content) (turn : Turn) (number : ℕ) (at : Stage)
    (passed : List (Option (List ℕ))) → LoadsThePicked before turn →
    slice_get (turn_stages before turn) number ≡ Some at → StandsAt first passed at →
    IsCutOff first before turn at passed
cut_each first before Untouched number at passed given e stands =
    cut_off first before Untouched Untouched at passed (only_entry first before at passed number e) stands tt
cut_each first before Looked number at passed given e stands =
    cut_off first before Looked Looked at passed (only_entry first before at passed number e) stands tt
cut_each first before Unloaded number at passed given e stands =
    cut_off first before Unloaded Unloaded at passed (only_entry first before at passed number e) stands tt
cut_each first before (Loaded place saves ok started) number at passed given e stands =
    loaded first before at passed place ok saves started given stands number
    (counted_stages before place ok saves number at e)

-- ---- one of the stages

one_of : (first : List ℕ) (passed : List (Option (List ℕ))) (stages : List Stage) →
    StandsAtOne first passed stages → IsAtOne first passed stages
one_of first passed [] stands = absurd stands
one_of first passed (at ∷ later) (inl here) = record { number = 0; stage = at; is = refl; stands = here }
one_of first passed (at ∷ later) (inr there) =
    let rest = one_of first passed later there in
    record { number = suc rest.number; stage = rest.stage; is = rest.is; stands = rest.stands }

pub cut_law : CutLaw
cut_law = record { each = cut_each; one = one_of }
