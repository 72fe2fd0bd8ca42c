-- The stages that a turn reached by its load, and by its first save, where that was made.
use Rattle.std.proofs.Common.{◌≡◌, ℕ, zero, suc, ◌+◌, Bool, true, false, List, [], ◌∷◌, ◌++◌, append-nil, length, map, take, Option, Some, slice_get, ap, arith, refl, sym, subst, ◌∙◌}
use Rattle.std.specs.Prelude.{count_by}
use Rattle.bb_copies.proofs.Places.{get_take}
use Rattle.bb_copies.specs.Chronicle.{Content, Loaded}
use Rattle.bb_copies.specs.Cutting.{turn_stages}
use Rattle.bb_copies.specs.Trail.{Stage, session_stages}
use Rattle.bb_shell.proofs.Reached.{begun_saving, idle_saving, is_made, made_cons, stage}
use Rattle.bb_shell.specs.Boot.{Round}
use Rattle.bb_shell.specs.Counting.{target_started, turn_of_rounds}
use Rattle.bb_shell.specs.Running.{is_refused_save, same_as_kept}
use Rattle.bb_shell.specs.Stages.{made_of, saves_of, saving_rounds}

-- a stage of this list of areas is among them
abbrev pub HasStage : List Stage → List (List ℕ) → ℕ → Type 0
HasStage stages h a = (number : ℕ) × (slice_get stages number ≡ Some (stage h a))

-- the one after the load
loaded_stage : (before : Content) (place : ℕ) (saves : List (List ℕ)) (ok : ℕ) (started : Option ℕ) →
    slice_get (turn_stages before (Loaded place saves ok started)) (suc zero) ≡ Some (stage (take (place + 1) before.areas) place)
loaded_stage before place saves ok started =
    get_take (2 + length saves + ok) (session_stages before.areas before.acked place saves) (suc zero) (omega arith)

-- and the one after a first save that was made
saved_stage : (before : Content) (place : ℕ) (area : List ℕ) (saves : List (List ℕ)) (ok : ℕ) (started : Option ℕ) →
    slice_get (turn_stages before (Loaded place (area ∷ saves) (suc ok) started)) (suc (suc (suc zero)))
    ≡ Some (stage (take (place + 1) before.areas ++ area ∷ []) (place + 1))
saved_stage before place area saves ok started =
    get_take (2 + suc (length saves) + suc ok) (session_stages before.areas before.acked place (area ∷ saves)) (suc (suc (suc zero)))
    (omega arith)

module _ (before : Content) (place : ℕ) (kept : Option (List ℕ)) (round : Round) (back : List Round)
    (done : is_refused_save round.outcome ≡ false) where
  abbrev Given : List (List ℕ)
  Given = take (place + 1) before.areas

  abbrev StagesBy : List Round → List Stage
  StagesBy saving =
      turn_stages before
      (Loaded place (map (λ (r : Round). r.table) saving) (count_by is_made saving) (target_started (round ∷ back)))

  -- so far the saves of these rounds came
  abbrev IsReached : List Round → Type 0
  IsReached saving =
      HasStage (StagesBy (saving_rounds kept (round ∷ back))) (Given ++ map (λ (r : Round). r.table) saving) (place + count_by is_made saving)

  idle_reached : same_as_kept kept round.table ≡ true → IsReached (saving_rounds kept (round ∷ []))
  idle_reached e =
      let saving = saving_rounds kept (round ∷ back) in
      let acked : place ≡ place + 0 = omega arith in
      let at =
      loaded_stage before place (map (λ (r : Round). r.table) saving) (count_by is_made saving) (target_started (round ∷ back)) in
      subst IsReached (sym (idle_saving kept round [] e))
      (suc zero, at ∙ ap (λ (h : List (List ℕ)). Some (stage h place)) (sym (append-nil Given)) ∙ ap (λ (n : ℕ). Some (stage (Given ++ []) n)) acked)

  begun_reached : same_as_kept kept round.table ≡ false → IsReached (saving_rounds kept (round ∷ []))
  begun_reached e =
      let rest = saving_rounds (Some round.table) back in
      let tables = map (λ (r : Round). r.table) rest in
      let number = suc (suc (suc zero)) in
      let one = made_cons round [] false done in
      let more = made_cons round rest false done in
      let acked : place + 1 ≡ place + count_by is_made (round ∷ []) = omega (arith, one) in
      let many : suc (count_by is_made rest) ≡ count_by is_made (round ∷ rest) = omega (arith, more) in
      let at : slice_get (StagesBy (round ∷ rest)) number ≡ Some (stage (Given ++ round.table ∷ []) (place + 1)) =
      subst
      (λ (n : ℕ).
      slice_get (turn_stages before (Loaded place (round.table ∷ tables) n (target_started (round ∷ back)))) number
      ≡ Some (stage (Given ++ round.table ∷ []) (place + 1)))
      many (saved_stage before place round.table tables (count_by is_made rest) (target_started (round ∷ back))) in
      subst IsReached (sym (begun_saving kept round [] e)) (
        number,
        subst
            (λ (saving : List Round).
            slice_get (StagesBy saving) number ≡ Some (stage (Given ++ round.table ∷ []) (place + count_by is_made (round ∷ []))))
            (sym (begun_saving kept round back e)) (at ∙ ap (λ (n : ℕ). Some (stage (Given ++ round.table ∷ []) n)) acked),
      )

  pub first_reached : HasStage (turn_stages before (turn_of_rounds place kept (round ∷ back))) (Given ++ saves_of kept (round ∷ []))
      (place + made_of kept (round ∷ []))
  first_reached = by (same_as_kept kept round.table) refl
    where
      by : (same : Bool) → same_as_kept kept round.table ≡ same → IsReached (saving_rounds kept (round ∷ []))
      by true e = idle_reached e
      by false e = begun_reached e
