-- The work of an install, as the work of a plan: two saves with a slot between them.
use Rattle.std.proofs.Common.{◌≡◌, ℕ, true, false, List, [], ◌∷◌, map, Option, Some, None, is_none, Result, Err, refl, sym, ap, subst, ◌∙◌, if◌then◌else◌, inl, inr}
use Rattle.bb_chooser.specs.Binding.{Binding}
use Rattle.bb_chooser.specs.Counting.{disable_of, enable_of}
use Rattle.bb_copies.specs.declared.answers.CopyFault.{CopyFault}
use Rattle.bb_flash.specs.Device.{Device}
use Rattle.bb_install.proofs.Beside.{beside_copies}
use Rattle.bb_install.specs.Beside.{IsBesideCopies}
use Rattle.bb_install.specs.Steps.{IsImageWrittenAfter, IsInstallRun, IsSaveRunAfter, install_end_of}
use Rattle.bb_install.specs.declared.install_end.InstallEnd.{InstallEnd}
use Rattle.bb_install.specs.declared.install_end.InstallEnd.TheVariants as ends
use Rattle.bb_shell.proofs.Sequence.{none_run, save_run}
use Rattle.bb_shell.specs.Boot.{Round}
use Rattle.bb_shell.specs.Rounds.{answer_of, best_of}
use Rattle.bb_shell.specs.Running.{AreRun, IsSaveRun}
use Rattle.bb_shell.specs.Sequence.{save_round}
use Rattle.bb_state.specs.Keyed.{Keyed}
use Rattle.bb_state.specs.Kinds.{laid_kinds}
use Rattle.bb_state.specs.State.{keyed_of, laid_of, last_table_of, used_of}
use Rattle.bb_state.specs.declared.state.State.{State}
use Rattle.bb_plan.specs.Plan.{IsServed, SessionPlan}
use Rattle.bb_plan.specs.Refusal.{copy_refusal}
use Rattle.bb_plan.specs.declared.plan.SlotImage.{SlotImage}
use Rattle.bb_plan.specs.declared.plan.Work.{Work}
use Rattle.bb_plan.specs.declared.plan.Work.TheVariants.{Install}
use Rattle.bb_plan.specs.declared.refusal.Refusal.{Refusal}
use Rattle.bb_plan.specs.declared.refusal.Refusal.TheVariants as refusals
use Rattle.bb_session.specs.Acting.{Acts, AreRoundsOf, IsSavedAround, LastOne, SavesAround, Stops, WorkAnswers, acts_of, around_rounds, place_in}
use Rattle.bb_session.specs.Around.{AreRunAround, IsSlotRun}
use Rattle.bb_session.specs.Doing.{EndsWith, IsDone, IsEndTold}
use Rattle.bb_session.specs.Installing.{installed_name, installed_text}
use Rattle.bb_session.specs.Session.{Session, around_session, session_by_acts}
use Rattle.bb_session.specs.Work.{IsPlayOf}
use Rattle.bb_session.specs.declared.report.Report.{Report}
use Rattle.bb_session.proofs.Acted.{around_back}
use Rattle.bb_session.proofs.Done.{done_by}
use Rattle.bb_session.proofs.Worked.{refused_ends, text_ends}

-- ---- the table ends it

module _ (keyed : Keyed) (used : Option ℕ) (table : List ℕ) (targets : Binding) (target : ℕ) (place : SlotImage) where
  abbrev Does : Work
  Does = Install targets target place

  abbrev Plans : SessionPlan
  Plans = record { keyed = keyed; work = Does }

  abbrev Name : List ℕ
  Name = installed_name targets target

  barred_ends : (given : Result Report Refusal) → IsEndTold targets target place ends.LastTarget given →
      EndsWith (record { text = []; refusal = Some (refusals.LastTarget Name); rounds = [] }) given
  barred_ends given (inl last) = refused_ends (refusals.LastTarget Name) [] given last
  barred_ends given (inr memory) = inr (memory, refl)

  done_last : (device : Device) (given : Result Report Refusal) → is_none (best_of targets (disable_of targets table target)) ≡ true →
      IsEndTold targets target place ends.LastTarget given → IsDone keyed used table Does device device given
  done_last device given none told =
      let disabled = disable_of targets table target in
      done_by keyed used table Does (Stops (LastOne Name))
      (ap (λ n. if n then Stops (LastOne Name) else SavesAround disabled place (enable_of targets disabled target)) none) [] used device device given
      refl refl refl refl (none_run keyed [] (Some table) used device) (barred_ends given told)

  -- ---- the saves around the slot

  module _ (other : is_none (best_of targets (disable_of targets table target)) ≡ false)
      (beside : IsBesideCopies (laid_kinds keyed.layout) place.slot) where
    abbrev First : List ℕ
    First = disable_of targets table target

    abbrev Second : List ℕ
    Second = enable_of targets First target

    abbrev Goes : Acts
    Goes = SavesAround First place Second

    goes : acts_of keyed.layout Does table ≡ Goes
    goes = ap (λ n. if n then Stops (LastOne Name) else Goes) other

    done_around : (early : Option CopyFault) (stuck : Option ℕ) (late : Option CopyFault) (now : Option ℕ) (from to : Device)
        (given : Result Report Refusal) →
        AreRunAround keyed [] (Some place) (Some table) used now (around_rounds First Second early stuck late) stuck from to →
        EndsWith (around_session Plans (Some table) stuck (around_rounds First Second early stuck late)) given →
        IsDone keyed used table Does from to given
    done_around early stuck late now from to given run ends =
        let rounds : List Round = around_rounds First Second early stuck late in
        let answers : WorkAnswers = record { rounds = map answer_of rounds; grants = None; stuck = stuck; listed = [] } in
        let saved : IsSavedAround First Second stuck rounds = record { early = early; late = late; is = refl } in
        record {
          answers = answers;
          ran = record {
            rounds = rounds;
            now = now;
            answers_are = refl;
            are = subst (λ (a : Acts). AreRoundsOf [] a rounds) (sym goes) (stuck, saved);
            run = subst (λ (a : Acts). AreRunAround keyed [] (place_in a) (Some table) used now rounds stuck from to) (sym goes) run;
            played = subst (λ (a : Acts). IsPlayOf a answers rounds) (sym goes) (refl, saved);
            listed = refl;
          };
          ends =
              subst (λ (s : Session). EndsWith s given)
              (sym
              (ap (λ (a : Acts). session_by_acts Plans (Some table) a answers) goes
              ∙ ap (λ (r : List Round). around_session Plans (Some table) stuck r) (around_back First Second early stuck late))) ends;
        }

    -- by how each step was answered
    module _ (copy now : Option ℕ) (from before behind to : Device) (given : Result Report Refusal) where
      -- the first save was refused
      done_early : (fault : CopyFault) (stuck : Option ℕ) → IsSaveRun keyed (Some table) used copy First (Some fault) from before →
          behind ≡ before → (now ≡ copy) × (to ≡ behind) → given ≡ Err (copy_refusal fault) → IsDone keyed used table Does from to given
      done_early fault stuck save unwritten unsaved gave =
          done_around (Some fault) stuck None now from to given
          (record {
            front = save_round 0 First (Some fault) ∷ [];
            back = [];
            split = refl;
            cut = refl;
            beside = beside;
            copy = copy;
            before = before;
            behind = behind;
            early = save_run keyed [] 0 (Some table) used copy First (Some fault) from before save;
            wrote = unwritten;
            late =
                subst (λ (n : Option ℕ). AreRun keyed [] (Some First) copy n [] behind to) (sym unsaved.0)
                (subst (λ (d : Device). AreRun keyed [] (Some First) copy copy [] behind d) (sym unsaved.1)
                (none_run keyed [] (Some First) copy behind));
          })
          (refused_ends (copy_refusal fault) (save_round 0 First (Some fault) ∷ []) given gave)

      -- it was made, and then a call on the slot failed
      done_stuck : (at : ℕ) → IsSaveRun keyed (Some table) used copy First None from before → IsSlotRun place (Some at) before behind →
          (now ≡ copy) × (to ≡ behind) → given ≡ Err (refusals.SlotFault at) → IsDone keyed used table Does from to given
      done_stuck at save slot unsaved gave =
          done_around None (Some at) None now from to given
          (record {
            front = save_round 0 First None ∷ [];
            back = [];
            split = refl;
            cut = refl;
            beside = beside;
            copy = copy;
            before = before;
            behind = behind;
            early = save_run keyed [] 0 (Some table) used copy First None from before save;
            wrote = slot;
            late =
                subst (λ (n : Option ℕ). AreRun keyed [] (Some First) copy n [] behind to) (sym unsaved.0)
                (subst (λ (d : Device). AreRun keyed [] (Some First) copy copy [] behind d) (sym unsaved.1)
                (none_run keyed [] (Some First) copy behind));
          })
          (refused_ends (refusals.SlotFault at) (save_round 0 First None ∷ []) given gave)

      -- or the second save was tried
      run_both : (late : Option CopyFault) → IsSaveRun keyed (Some table) used copy First None from before → IsSlotRun place None before behind →
          IsSaveRun keyed (Some First) copy now Second late behind to →
          AreRunAround keyed [] (Some place) (Some table) used now (around_rounds First Second None None late) None from to
      run_both late save slot second = record {
        front = save_round 0 First None ∷ [];
        back = save_round 0 Second late ∷ [];
        split = refl;
        cut = refl;
        beside = beside;
        copy = copy;
        before = before;
        behind = behind;
        early = save_run keyed [] 0 (Some table) used copy First None from before save;
        wrote = slot;
        late = save_run keyed [] 0 (Some First) copy now Second late behind to second;
      }

      by_steps : (early : Option CopyFault) (stuck : Option ℕ) (late : Option CopyFault) →
          IsSaveRun keyed (Some table) used copy First early from before → IsImageWrittenAfter early place.slot place.image stuck before behind →
          IsSaveRunAfter early stuck keyed First copy now Second late behind to →
          IsEndTold targets target place (install_end_of early stuck late) given → IsDone keyed used table Does from to given
      by_steps (Some fault) stuck late save unwritten unsaved told = done_early fault stuck save unwritten unsaved told
      by_steps None (Some at) late save slot unsaved told = done_stuck at save slot unsaved told
      by_steps None None (Some fault) save slot second told =
          done_around None None (Some fault) now from to given (run_both (Some fault) save slot second)
          (refused_ends (copy_refusal fault) (around_rounds First Second None None (Some fault)) given told)
      by_steps None None None save slot second told =
          done_around None None None now from to given (run_both None save slot second)
          (text_ends (installed_text targets target place) (around_rounds First Second None None None) given told)

-- ---- an install of a state

pub done_installed : (targets : Binding) (target : ℕ) (place : SlotImage) (old new : State) (from to : Device) (end : InstallEnd)
    (given : Result Report Refusal) → IsServed (keyed_of old) (Install targets target place) → last_table_of old ≡ old.table →
    IsInstallRun targets target place.slot place.image old new from to end → IsEndTold targets target place end given →
    IsDone (keyed_of old) (used_of old) old.table (Install targets target place) from to given
done_installed targets target place old new from to end given served kept (inl barred) told =
    subst (λ (d : Device). IsDone (keyed_of old) (used_of old) old.table (Install targets target place) from d given) (sym barred.untouched)
    (done_last (keyed_of old) (used_of old) old.table targets target place from given barred.none
    (subst (λ (e : InstallEnd). IsEndTold targets target place e given) barred.is told))
done_installed targets target place old new from to end given served kept (inr ran) told =
    let first = disable_of targets old.table target in
    by_steps (keyed_of old) (used_of old) old.table targets target place ran.other
    (beside_copies (laid_of old) old.facts place.slot served.fits.beside) ran.copy (used_of new) from ran.before ran.behind to given
    ran.early ran.stuck ran.late
    (subst (λ (t : List ℕ). IsSaveRun (keyed_of old) (Some t) (used_of old) ran.copy first ran.early from ran.before) kept ran.saved)
    ran.wrote ran.again (subst (λ (e : InstallEnd). IsEndTold targets target place e given) ran.ends_so told)
