-- The steps of an install: whether another target qualifies, the state after the calls on the slot,
-- and how the steps end.
use Rattle.std.proofs.Common.{◌≡◌, ℕ, true, false, List, Option, Some, None, IfSome, is_none, is_some, Result, Ok, Err, IsTrue, slice_get, refl, sym, ap, subst, ◌∙◌, inl, inr}
use Rattle.std.proofs.lemmas.Bool.{false≢true}
use Rattle.bb_bucket.specs.Calls.{HasFound}
use Rattle.bb_bucket.specs.Kind.{LiesOn, part_of}
use Rattle.bb_chooser.specs.Binding.{Binding}
use Rattle.bb_chooser.specs.Choosing.{IsBest, NoneQualifies}
use Rattle.bb_chooser.specs.Counting.{disable_of, enable_of}
use Rattle.bb_copies.proofs.Ends.{content_before}
use Rattle.bb_copies.proofs.Many.{images_now, kind_at, same_part}
use Rattle.bb_copies.specs.Buckets.{AllAgree}
use Rattle.bb_copies.specs.declared.answers.CopyFault.{CopyFault}
use Rattle.bb_flash.proofs.Moments.{images_weaker}
use Rattle.bb_flash.specs.Cuts.{EachImage, IsSameRegion}
use Rattle.bb_flash.specs.Device.{Device}
use Rattle.bb_flash.specs.Geometry.{IsGeometry}
use Rattle.bb_flash.specs.Image.{Image, Torn}
use Rattle.bb_flash.specs.declared.geometry.Geometry.{Geometry}
use Rattle.bb_flash.specs.declared.region.Region.{Region}
use Rattle.bb_shell.proofs.Answering.{best_is, best_none}
use Rattle.bb_shell.specs.Rounds.{best_of}
use Rattle.bb_shell.specs.Running.{IsSaveRun}
use Rattle.bb_state.specs.Backed.{Backed, HasItsKinds}
use Rattle.bb_state.specs.Keyed.{Keyed}
use Rattle.bb_state.specs.Kinds.{any_holding, laid_kinds}
use Rattle.bb_state.specs.State.{IsOn, keyed_of, laid_of, last_table_of, used_of}
use Rattle.bb_state.specs.declared.any_bucket.AnyBucket.{AnyBucket}
use Rattle.bb_state.specs.declared.state.State.{State}
use Rattle.bb_install.proofs.Beside.{beside_same}
use Rattle.bb_install.proofs.Places.{slot_lies}
use Rattle.bb_install.specs.Beside.{IsBesideCopies}
use Rattle.bb_install.specs.Steps.{IsInstallRun, IsSaveStep, IsImageWritten, IsSlotStep, IsStateLeft, install_end_of, is_sure_after, ended, fault_result, stuck_result}
use Rattle.bb_install.specs.declared.install_end.InstallEnd.{InstallEnd}
use Rattle.bb_install.specs.declared.install_end.InstallEnd.TheVariants as ends

-- ---- whether another target qualifies

pub chosen_other : (b : Binding) (table : List ℕ) (o : Option ℕ) → IfSome o (IsBest b table) → is_some o ≡ true →
    is_none (best_of b table) ≡ false
chosen_other b table None best some = absurd (false≢true some)
chosen_other b table (Some target) best some = ap (λ t. is_none t) (best_is b table target best)

pub chosen_none : (b : Binding) (table : List ℕ) → NoneQualifies b table → is_none (best_of b table) ≡ true
chosen_none b table none = ap (λ t. is_none t) (best_none b table none)

-- ---- the state after the calls on the slot

module _ (state : State) (slot : Region) (image : List ℕ) (stuck : Option ℕ) (from to : Device) (on : IsOn state from)
    (beside : IsBesideCopies (laid_kinds (laid_of state)) slot) (run : IsImageWritten slot image stuck from to) where
  abbrev Page : ℕ
  Page = from.geometry.page

  on_geometry : IsGeometry from.geometry
  on_geometry = on.whole.geometry

  lies : LiesOn from.geometry slot
  lies = slot_lies from.geometry slot on_geometry run.stands

  -- a copy's region is as before in each image
  untouched : (copy : ℕ) (bucket : AnyBucket) → slice_get (laid_kinds (laid_of state)) copy ≡ Some (any_holding bucket).kind →
      EachImage (IsSameRegion Page (any_holding bucket).kind.region.at (any_holding bucket).kind.region.size) from to
  untouched copy bucket here =
      let region = (any_holding bucket).kind.region in
      images_weaker (Torn Page slot.at slot.size) (IsSameRegion Page region.at region.size) from to
      (λ before after torn.
      beside_same Page slot on_geometry.page_some lies.aligned lies.whole before after torn (laid_kinds (laid_of state)) beside copy
      (any_holding bucket).kind here) run.calls.within.images.images

  -- so what the buckets keep of it still stands there
  agrees_still : HasItsKinds state.backing → AllAgree any_holding to state.backing.buckets
  agrees_still kinds copy bucket e =
      let holding = any_holding bucket in
      let old = on.agrees copy bucket e in
      let later = run.calls.within.later in
      let there_is : slice_get (laid_kinds (laid_of state)) copy ≡ Some holding.kind =
      ap (λ ks. slice_get ks copy) (sym kinds) ∙ kind_at any_holding state.backing.buckets copy bucket e in
      let same = untouched copy bucket there_is in
      let page : to.geometry.page ≡ Page = ap (λ (g : Geometry). g.page) later.geometry in
      record {
        here = λ after f.
            let there = content_before from to later after f in
            let region = images_now _ from to same there.0 after there.1 f in
            subst (λ (p : ℕ). IsTrue (holding.agrees (part_of p holding.kind.region after))) (sym page)
            (subst (λ (part : Image). IsTrue (holding.agrees part)) (sym (same_part Page holding.kind.region there.0 after region))
            (old.here there.0 there.1));
        found = λ after f.
            let there = content_before from to later after f in
            let region = images_now _ from to same there.0 after there.1 f in
            subst (λ (p : ℕ). HasFound holding.found (holding.kind.candidate_of (part_of p holding.kind.region after))) (sym page)
            (subst (λ (part : Image). HasFound holding.found (holding.kind.candidate_of part))
            (sym (same_part Page holding.kind.region there.0 after region)) (old.found there.0 there.1));
      }

  pub on_still : HasItsKinds state.backing → IsOn state to
  on_still kinds = record {
    geometry = run.calls.within.later.geometry ∙ on.geometry;
    agrees = agrees_still kinds;
    whole = run.calls.within.whole;
  }

-- ---- what a step gave

-- a save that was made, and one that was refused
pub record IsSaveRefused (keyed : Keyed) (used now : Option ℕ) (kept table : List ℕ) (from to : Device) (end : InstallEnd) : Type 0 where
  pub fault : CopyFault
  pub is : end ≡ ends.Fault fault
  pub run : IsSaveRun keyed (Some kept) used now table (Some fault) from to

module _ (keyed : Keyed) (used now : Option ℕ) (kept table : List ℕ) (from to : Device) where
  pub save_made : (done : Unit {0}) → IsSaveStep keyed used now kept table from to (Ok done) → IsSaveRun keyed (Some kept) used now table None from to
  save_made done step = by step.refusal step.run step.gives
    where
      by : (o : Option CopyFault) → IsSaveRun keyed (Some kept) used now table o from to → Ok done ≡ fault_result o →
          IsSaveRun keyed (Some kept) used now table None from to
      by None run gives = run
      by (Some fault) run gives = absurd cc

  pub save_refused : (end : InstallEnd) → IsSaveStep keyed used now kept table from to (Err end) →
      IsSaveRefused keyed used now kept table from to end
  save_refused end step = by step.refusal step.run step.gives
    where
      by : (o : Option CopyFault) → IsSaveRun keyed (Some kept) used now table o from to → Err end ≡ fault_result o →
          IsSaveRefused keyed used now kept table from to end
      by None run gives = absurd cc
      by (Some fault) run gives = record { fault = fault; is = cc; run = run }

-- the calls on the slot, where all were made, and where one failed
pub record IsSlotStuck (slot : Region) (image : List ℕ) (from to : Device) (end : InstallEnd) : Type 0 where
  pub at : ℕ
  pub is : end ≡ ends.SlotFault at
  pub run : IsImageWritten slot image (Some at) from to

module _ (slot : Region) (image : List ℕ) (from to : Device) where
  pub slot_made : (done : Unit {0}) → IsSlotStep slot image from to (Ok done) → IsImageWritten slot image None from to
  slot_made done step = by step.stuck step.run step.gives
    where
      by : (o : Option ℕ) → IsImageWritten slot image o from to → Ok done ≡ stuck_result o → IsImageWritten slot image None from to
      by None run gives = run
      by (Some at) run gives = absurd cc

  pub slot_stuck : (end : InstallEnd) → IsSlotStep slot image from to (Err end) → IsSlotStuck slot image from to end
  slot_stuck end step = by step.stuck step.run step.gives
    where
      by : (o : Option ℕ) → IsImageWritten slot image o from to → Err end ≡ stuck_result o → IsSlotStuck slot image from to end
      by None run gives = absurd cc
      by (Some at) run gives = record { at = at; is = cc; run = run }

-- ---- how the steps end

module _ (targets : Binding) (target : ℕ) (slot : Region) (image : List ℕ) (old disabled : State)
    (table_is : disabled.table ≡ disable_of targets old.table target) (backing_is : disabled.backing ≡ old.backing) where
  abbrev First : List ℕ
  First = disable_of targets old.table target

  -- a save of the state in which the target is disabled, in the words of the one before
  pub first_step : {now : Option ℕ} {from to : Device} {given : Result (Unit {0}) InstallEnd} →
      IsSaveStep (keyed_of disabled) (used_of disabled) now (last_table_of disabled) disabled.table from to given →
      IsSaveStep (keyed_of old) (used_of old) now (last_table_of old) First from to given
  first_step {now} {from} {to} {given} step =
      subst (λ (t : List ℕ). IsSaveStep (keyed_of old) (used_of old) now (last_table_of old) t from to given) table_is
      (subst (λ (b : Backed). IsSaveStep b.keyed b.used now b.kept disabled.table from to given) backing_is step)

  -- and a save of it, once it was saved and the target is enabled
  pub second_step : (saved : State) {now : Option ℕ} {from to : Device} {given : Result (Unit {0}) InstallEnd} →
      keyed_of saved ≡ keyed_of disabled → saved.table ≡ disabled.table → last_table_of saved ≡ saved.table →
      IsSaveStep (keyed_of saved) (used_of saved) now (last_table_of saved) (enable_of targets saved.table target) from to given →
      IsSaveStep (keyed_of old) (used_of saved) now First (enable_of targets First target) from to given
  second_step saved {now} {from} {to} {given} keyed same kept step =
      subst (λ (k : Keyed). IsSaveStep k (used_of saved) now First (enable_of targets First target) from to given)
      (keyed ∙ ap (λ (b : Backed). b.keyed) backing_is)
      (subst (λ (t : List ℕ). IsSaveStep (keyed_of saved) (used_of saved) now t (enable_of targets t target) from to given) (same ∙ table_is)
      (subst (λ (t : List ℕ). IsSaveStep (keyed_of saved) (used_of saved) now t (enable_of targets saved.table target) from to given) kept step))

  -- and so for what either of them left of the state
  first_left : {new : State} {to : Device} {end : InstallEnd} → IsStateLeft (keyed_of disabled) disabled.table new to end →
      IsStateLeft (keyed_of old) First new to end
  first_left left = record {
    keyed = left.keyed ∙ ap (λ (b : Backed). b.keyed) backing_is;
    table = left.table ∙ table_is;
    on = left.on;
    sure = left.sure;
    kept = left.kept;
  }

  pub second_left : (saved : State) {new : State} {to : Device} {end : InstallEnd} →
      keyed_of saved ≡ keyed_of disabled → saved.table ≡ disabled.table →
      IsStateLeft (keyed_of saved) (enable_of targets saved.table target) new to end →
      IsStateLeft (keyed_of old) (enable_of targets First target) new to end
  second_left saved keyed same left = record {
    keyed = left.keyed ∙ keyed ∙ ap (λ (b : Backed). b.keyed) backing_is;
    table = left.table ∙ ap (λ (t : List ℕ). enable_of targets t target) (same ∙ table_is);
    on = left.on;
    sure = left.sure;
    kept = left.kept;
  }

  -- no other target qualifies
  pub ends_barred : (from : Device) (end : InstallEnd) → is_none (best_of targets disabled.table) ≡ true → end ≡ ends.LastTarget →
      IsInstallRun targets target slot image old disabled from from end
  ends_barred from end none is =
      inl (record {
        none = ap (λ (t : List ℕ). is_none (best_of targets t)) (sym table_is) ∙ none;
        is = is;
        untouched = refl;
        table = table_is;
        backing = backing_is;
      })

  module _ (other : is_none (best_of targets disabled.table) ≡ false) where
    others : is_none (best_of targets First) ≡ false
    others = ap (λ (t : List ℕ). is_none (best_of targets t)) (sym table_is) ∙ other

    -- the first save was refused
    pub ends_early : (new : State) (from to : Device) (end : InstallEnd) →
        IsSaveRefused (keyed_of old) (used_of old) (used_of new) (last_table_of old) First from to end →
        IsStateLeft (keyed_of disabled) disabled.table new to end →
        IsInstallRun targets target slot image old new from to end
    ends_early new from to end save left =
        inr (record {
          other = others;
          early = Some save.fault;
          stuck = None;
          late = None;
          ends_so = save.is;
          copy = used_of new;
          before = to;
          behind = to;
          saved = save.run;
          wrote = refl;
          again = (refl, refl);
          leaves = first_left left;
        })

    -- it was made, and then a call on the slot failed
    module _ (copy : Option ℕ) (from before : Device)
        (save : IsSaveRun (keyed_of old) (Some (last_table_of old)) (used_of old) copy First None from before) where
      pub ends_stuck : (new : State) (to : Device) (end : InstallEnd) → used_of new ≡ copy → IsSlotStuck slot image before to end →
          IsStateLeft (keyed_of disabled) disabled.table new before ends.Done → IsOn new to →
          IsInstallRun targets target slot image old new from to end
      ends_stuck new to end same slot_run saved on =
          inr (record {
            other = others;
            early = None;
            stuck = Some slot_run.at;
            late = None;
            ends_so = slot_run.is;
            copy = copy;
            before = before;
            behind = to;
            saved = save;
            wrote = slot_run.run;
            again = (same, refl);
            leaves =
                let left = first_left saved in
                record {
                  keyed = left.keyed;
                  table = left.table;
                  on = on;
                  sure = left.sure ∙ sym (ap is_sure_after slot_run.is);
                  kept = left.kept;
                };
          })

      -- or the second save was tried
      pub ends_late : (new : State) (behind to : Device) (given : Result (Unit {0}) InstallEnd) → IsImageWritten slot image None before behind →
          IsSaveStep (keyed_of old) copy (used_of new) First (enable_of targets First target) behind to given →
          IsStateLeft (keyed_of old) (enable_of targets First target) new to (ended given) →
          IsInstallRun targets target slot image old new from to (ended given)
      ends_late new behind to given slot_run step left = by step.refusal step.run step.gives
        where
          ends_by : (late : Option CopyFault) → given ≡ fault_result late → ended given ≡ install_end_of None None late
          ends_by None gives = ap ended gives
          ends_by (Some fault) gives = ap ended gives

          by : (late : Option CopyFault) →
              IsSaveRun (keyed_of old) (Some First) copy (used_of new) (enable_of targets First target) late behind to →
              given ≡ fault_result late → IsInstallRun targets target slot image old new from to (ended given)
          by late run gives =
              inr (record {
                other = others;
                early = None;
                stuck = None;
                late = late;
                ends_so = ends_by late gives;
                copy = copy;
                before = before;
                behind = behind;
                saved = save;
                wrote = slot_run;
                again = run;
                leaves = left;
              })
