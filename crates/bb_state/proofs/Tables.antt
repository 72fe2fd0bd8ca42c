-- The table of a state.
use Rattle.std.proofs.Common.{◌≡◌, ℕ, IsTrue, List, ap, length, subst, sym, ◌∙◌}
use Rattle.std.proofs.Props.{props}
use Rattle.bb_layout.specs.Facts.{HasFewNames-prop}
use Rattle.bb_layout.specs.Kept.{IsLaid}
use Rattle.bb_layout.specs.Layout.{Laid, fields_of}
use Rattle.bb_layout.specs.Outside.{ChangesVarsAlone}
use Rattle.bb_layout.specs.declared.layout.Layout.{Layout}
use Rattle.bb_layout.specs.declared.var.Var.{Var}
use Rattle.bb_state.proofs.Fitting.{fits_sized}
use Rattle.bb_state.proofs.Sets.{set_changes}
use Rattle.bb_state.specs.Named.{after_set}
use Rattle.bb_state.specs.Kinds.{is_table}
use Rattle.bb_state.specs.State.{keyed_of, laid_of}
use Rattle.bb_state.specs.declared.state.State.{State}

-- it has the layout's length
pub table_sized : (state : State) → length state.table ≡ (laid_of state).area_len
table_sized state = fits_sized (keyed_of state) state.table state.fits

-- where a variable was set the variables alone were written
pub set_outside : (state : State) (layout : Layout) (name text table : List ℕ) → fields_of layout ≡ laid_of state
    → table ≡ after_set layout.vars name text state.table → ChangesVarsAlone (laid_of state).vars state.table table
set_outside state layout name text table of after =
    let vars : layout.vars ≡ (laid_of state).vars = ap (λ (l : Laid). l.vars) of in
    let len : length state.table ≡ layout.area_len = table_sized state ∙ sym (ap (λ (l : Laid). l.area_len) of) in
    let changes = set_changes layout.area_len layout.vars name text state.table layout.facts.vars_are len in
    subst (ChangesVarsAlone (laid_of state).vars state.table) (sym after)
    (subst (λ (vs : List Var). ChangesVarsAlone vs state.table (after_set layout.vars name text state.table)) vars changes)

-- ---- a state is its table and its copies

laid_prop : (layout : Laid) → IsProp (IsLaid layout)
laid_prop layout = Prim.hlevel (props, HasFewNames-prop)

fits_prop : (state : State) → IsProp (IsTrue (is_table (keyed_of state) state.table))
fits_prop state = Prim.hlevel props

pub same_state : (state : State) (fits : IsTrue (is_table (keyed_of state) state.table)) (facts : IsLaid (laid_of state))
    → record state { fits = fits; facts = facts } ≡ state
same_state state fits facts =
    ap (λ (f : IsTrue (is_table (keyed_of state) state.table)). record state { fits = f; facts = facts }) (fits_prop state fits state.fits)
    ∙ ap (λ (f : IsLaid (laid_of state)). record state { facts = f }) (laid_prop (laid_of state) facts state.facts)
