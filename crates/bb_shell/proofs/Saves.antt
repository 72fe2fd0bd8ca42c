-- What the save of a round makes of the device.
use Rattle.std.proofs.Common.{IsTrue, ◌≡◌, ◌≢◌, ℕ, ◌&&◌, Bool, true, false, not, List, Option, Some, None, ap, refl, sym, subst, ◌∙◌}
use Rattle.std.proofs.lemmas.Bool.{false≢true}
use Rattle.std.proofs.lemmas.Slice.Eq.{bytes_eq-Decides}
use Rattle.std.specs.Option.{IfNone}
use Rattle.std.specs.Prelude.{is_some}
use Rattle.std.specs.Str.{bytes_eq}
use Rattle.bb_copies.specs.Loading.{KeepsOutside}
use Rattle.bb_copies.specs.Passing.{passings}
use Rattle.bb_copies.specs.Saving.{IsSave, SaveFails, SaveRuns}
use Rattle.bb_copies.specs.StandsFor.{EachPassesOrNothing}
use Rattle.bb_copies.specs.declared.answers.CopyFault.{CopyFault}
use Rattle.bb_copies.specs.declared.answers.CopyFault.TheVariants.{ReadFault, WriteFault, Unsure}
use Rattle.bb_copies.proofs.Runs.{later_refl}
use Rattle.bb_flash.specs.Cuts.{IsLater}
use Rattle.bb_flash.specs.Device.{Device, IsDevice, LeavesStarts, content}
use Rattle.bb_chooser.specs.Others.{KeepsOthers}
use Rattle.bb_chooser.specs.Binding.{Binding, IsBoundTo}
use Rattle.bb_chooser.proofs.Alone.{keeps_changes}
use Rattle.bb_state.proofs.Fitting.{changed_fits}
use Rattle.bb_state.proofs.Showing.{each_shows, state_own}
use Rattle.bb_state.specs.Keyed.{Keyed}
use Rattle.bb_state.specs.Kinds.{is_table, laid_form, laid_kinds}
use Rattle.bb_state.specs.State.{IsStored, form_of, has_changed, is_kept, is_sure, last_table_of, keyed_of, kinds_of, laid_of, used_of}
use Rattle.bb_state.specs.declared.state.State.{State}
use Rattle.bb_shell.proofs.Joins.{outside_refl, stored_refl}
use Rattle.bb_shell.specs.Ends.{EndsByWriteFault, StaysStored}
use Rattle.bb_shell.specs.Running.{IsBegun, IsSaveRun, same_as_kept}

-- ---- the state's words

changed_is : (state : State) (same : Bool) → is_sure state ≡ true → bytes_eq state.table (last_table_of state) ≡ same → has_changed state ≡ not same
changed_is state same sure e = ap (λ s. s && not (bytes_eq state.table (last_table_of state))) sure ∙ ap not e

known_is : (state : State) → is_sure state ≡ true → bytes_eq state.table (last_table_of state) ≡ true → is_kept state ≡ true
known_is state sure e = ap (λ s. s && bytes_eq state.table (last_table_of state)) sure ∙ e

-- a table in which a chooser changed its own variables alone can be kept as a record
pub chosen_fits : (b : Binding) (state : State) (table : List ℕ) → IsBoundTo (laid_of state).vars b → KeepsOthers b state.table table
    → IsTrue (is_table (keyed_of state) table)
chosen_fits b state table bound others =
    changed_fits (keyed_of state) state.table table state.facts state.fits (keeps_changes (laid_of state).vars b state.table table others bound)

-- a save that answered Ok
pub saved_ok : (state : State) (now : Option ℕ) (from to : Device) → is_sure state ≡ true →
    (has_changed state ≡ false → to ≡ from) →
    (has_changed state ≡ true → IsSave (form_of state) (kinds_of state) (is_sure state) (used_of state) now state.table from to None) →
    (is_kept state ≡ true → now ≡ used_of state) →
    IsSaveRun (keyed_of state) (Some (last_table_of state)) (used_of state) now state.table None from to
saved_ok state now from to sure idle save used = record {
  own = state_own state;
  idle = λ same. record { device = idle (changed_is state true sure same); copy = used (known_is state sure same); done = refl };
  begun = λ other.
      subst (λ (s : Bool). IsSave (form_of state) (kinds_of state) s (used_of state) now state.table from to None) sure
      (save (changed_is state false sure other));
}

-- and one that was refused
pub saved_err : (state : State) (now : Option ℕ) (fault : CopyFault) (from to : Device) → is_sure state ≡ true →
    (is_kept state ≡ true → ⊥) →
    (has_changed state ≡ true → IsSave (form_of state) (kinds_of state) (is_sure state) (used_of state) now state.table from to (Some fault)) →
    IsSaveRun (keyed_of state) (Some (last_table_of state)) (used_of state) now state.table (Some fault) from to
saved_err state now fault from to sure other save = record {
  own = state_own state;
  idle = λ same. absurd (other (known_is state sure same));
  begun = λ changed.
      subst (λ (s : Bool). IsSave (form_of state) (kinds_of state) s (used_of state) now state.table from to (Some fault)) sure
      (save (changed_is state false sure changed));
}

-- a save of copies that are sure isn't refused as unsure
pub begun_sure : (keyed : Keyed) (used now : Option ℕ) (table : List ℕ) (fault : CopyFault) (from to : Device) →
    IsBegun keyed used now table (Some fault) from to → fault ≢ Unsure
begun_sure keyed used now table fault from to save = λ is. false≢true (sym (save.unsure.0 (ap (λ f. Some f) is)))

-- what is kept where a table is the one that is
pub kept_is : (kept : Option (List ℕ)) (table : List ℕ) → same_as_kept kept table ≡ true → kept ≡ Some table
kept_is None table e = absurd (false≢true e)
kept_is (Some kept) table e = ap (λ t. Some t) (sym ((bytes_eq-Decides table kept).0 e))

-- a save that is made whatever was last loaded or saved
pub always_saved : (state : State) (now : Option ℕ) (refusal : Option CopyFault) (from to : Device) → is_sure state ≡ true →
    IsSave (form_of state) (kinds_of state) (is_sure state) (used_of state) now state.table from to refusal →
    IsSaveRun (keyed_of state) None (used_of state) now state.table refusal from to
always_saved state now refusal from to sure save = record {
  own = state_own state;
  idle = λ same. absurd (false≢true same);
  begun = λ other.
      subst (λ (s : Bool). IsSave (form_of state) (kinds_of state) s (used_of state) now state.table from to refusal) sure save;
}

-- ---- what follows of a save

module _ (keyed : Keyed) (kept : Option (List ℕ)) (used now : Option ℕ) (table : List ℕ) (refusal : Option CopyFault) (from to : Device)
    (run : IsSaveRun keyed kept used now table refusal from to) where
  by_same : (P : Device → Type 0) → P from → (SaveRuns (laid_form keyed) (laid_kinds keyed.layout) used table from to → P to) → P to
  by_same P here there = at (same_as_kept kept table) refl
    where
      at : (same : Bool) → same_as_kept kept table ≡ same → P to
      at true e = subst P (sym (run.idle e).device) here
      at false e = there (run.begun e).runs

  pub save_later : IsLater from to
  save_later = by_same (IsLater from) (later_refl from) (λ runs. runs.later)

  pub save_outside : KeepsOutside (laid_kinds keyed.layout) from to
  save_outside = by_same (KeepsOutside (laid_kinds keyed.layout) from) (outside_refl (laid_kinds keyed.layout) from) (λ runs. runs.outside)

  pub save_starts : LeavesStarts from to
  save_starts = by_same (LeavesStarts from) (record { starts = refl; start_faults = refl }) (λ runs. runs.starts)

  pub save_whole : IsDevice from → IsDevice to
  save_whole whole = by_same IsDevice whole (λ runs. runs.whole)

  same_stored : same_as_kept kept table ≡ true → StaysStored keyed kept (Some table) from to
  same_stored same =
      subst (λ k. StaysStored keyed kept k from to) (kept_is kept table same)
      (stored_refl keyed kept from to (ap (λ d. content d) (run.idle same).device))

  new_stored : from.geometry ≡ keyed.layout.geometry → IsStored keyed table now from to → StaysStored keyed kept (Some table) from to
  new_stored geometry stored before h after k held =
      each_shows keyed.layout table (passings (laid_form keyed) keyed.layout.geometry.page (laid_kinds keyed.layout) after) run.own
      (subst (λ g. EachPassesOrNothing table (passings (laid_form keyed) g.page (laid_kinds keyed.layout) after)) geometry (stored.saved.exit.kept after k).each)

  pub save_stored : from.geometry ≡ keyed.layout.geometry → refusal ≡ None → StaysStored keyed kept (Some table) from to
  save_stored geometry done = at (same_as_kept kept table) refl
    where
      at : (same : Bool) → same_as_kept kept table ≡ same → StaysStored keyed kept (Some table) from to
      at true e = same_stored e
      at false e = new_stored geometry (subst (λ r. IfNone r (IsStored keyed table now from to)) done (run.begun e).stored)

-- a save is refused by a write alone
pub write_fault : (keyed : Keyed) (kept : Option (List ℕ)) (used now : Option ℕ) (table : List ℕ) (fault : CopyFault) (from to : Device) →
    IsSaveRun keyed kept used now table (Some fault) from to → EndsByWriteFault fault
write_fault keyed kept used now table fault from to run = at (same_as_kept kept table) refl
  where
    by : (f : CopyFault) → SaveFails (laid_form keyed) (laid_kinds keyed.layout) used table from to f → f ≢ Unsure → EndsByWriteFault f
    by ReadFault fails sure = absurd fails
    by (WriteFault copy) fails sure = record { copy = copy; is = refl }
    by Unsure fails sure = absurd (sure refl)

    at : (same : Bool) → same_as_kept kept table ≡ same → EndsByWriteFault fault
    at true e = let none : Some fault ≡ None = (run.idle e).done in absurd (let f : Option CopyFault → Bool = λ o. is_some o in false≢true (sym (ap f none)))
    at false e = by fault (run.begun e).fails (begun_sure keyed used now table fault from to (run.begun e))
