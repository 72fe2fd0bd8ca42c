-- What a set changes in an area.
use Rattle.std.proofs.Common.{◌≡◌, ℕ, ◌≤◌, List, Option, Some, None, Result, Ok, Err, arith, get_or, length, refl, slice_get, subst, sym, ◌∙◌}
use Rattle.std.proofs.lemmas.Option.{get_or_from_slice_get, slice_get_within}
use Rattle.std.specs.Option.{option_map_or}
use Rattle.std.specs.Result.{result_map_both, result_unwrap_or}
use Rattle.bb_vars.proofs.Laws.{read_sized}
use Rattle.bb_vars.specs.Setting.{with_value}
use Rattle.bb_vars.specs.Table.{table_with}
use Rattle.bb_vars.specs.Value.{bytes_of}
use Rattle.bb_vars.specs.declared.value_error.ValueError.{ValueError}
use Rattle.bb_layout.specs.Facts.{AreVars}
use Rattle.bb_layout.specs.Outside.{ChangesVarsAlone}
use Rattle.bb_layout.specs.Ranges.{end_of}
use Rattle.bb_layout.specs.VarNames.{place_of_var}
use Rattle.bb_layout.specs.Variables.{IsWellFormed}
use Rattle.bb_layout.specs.declared.var.Var.{Var}
use Rattle.bb_layout.proofs.Outside.{changes_none, put_changes}
use Rattle.bb_state.specs.Named.{after_set, var_of}
use Rattle.bb_state.proofs.NamedVars.{var_of_none, var_of_past, var_of_some}

-- the area in which this variable is set, if there is one
abbrev set_in : List ℕ → List ℕ → Option Var → List ℕ
set_in text area found = option_map_or (λ (v : Var). result_unwrap_or (with_value v.kind v.at text area) area) found area

-- of one of an area's variables
set_at : (area_len : ℕ) (vars : List Var) (text area : List ℕ) (i : ℕ) (v : Var) → AreVars area_len vars → length area ≡ area_len → slice_get vars i ≡ Some v
    → ChangesVarsAlone vars area (set_in text area (Some v))
set_at area_len vars text area i v are sized there = by (bytes_of v.kind text) refl
  where
    by : (r : Result (List ℕ) ValueError) → bytes_of v.kind text ≡ r
        → ChangesVarsAlone vars area (result_unwrap_or (result_map_both (λ bytes. table_with area v.at bytes) (λ cause. cause) r) area)
    by (Err cause) read = changes_none vars area
    by (Ok bytes) read =
        let is : get_or vars i v ≡ v = get_or_from_slice_get vars i v v there in
        let within = slice_get_within vars i v there in
        let formed : IsWellFormed v = subst IsWellFormed is (are.each i v within) in
        let room : end_of v ≤ area_len = subst (λ (w : Var). end_of w ≤ area_len) is (are.inside i v within) in
        put_changes vars i v area bytes there (read_sized v.kind text bytes read ∙ sym formed.size) (omega arith)

pub set_changes : (area_len : ℕ) (vars : List Var) (name text area : List ℕ) → AreVars area_len vars → length area ≡ area_len → ChangesVarsAlone vars area (after_set vars name text area)
set_changes area_len vars name text area are sized = by (place_of_var vars name) refl
  where
    found : (o : Option Var) → var_of vars name ≡ o → ChangesVarsAlone vars area (set_in text area o) → ChangesVarsAlone vars area (after_set vars name text area)
    found o is changes = subst (λ (o : Option Var). ChangesVarsAlone vars area (set_in text area o)) (sym is) changes

    at : (i : ℕ) (o : Option Var) → place_of_var vars name ≡ Some i → slice_get vars i ≡ o → ChangesVarsAlone vars area (after_set vars name text area)
    at i None place there = found None (var_of_past name vars i place there) (changes_none vars area)
    at i (Some v) place there = found (Some v) (var_of_some name vars i v place there) (set_at area_len vars text area i v are sized there)

    by : (p : Option ℕ) → place_of_var vars name ≡ p → ChangesVarsAlone vars area (after_set vars name text area)
    by None place = found None (var_of_none name vars place) (changes_none vars area)
    by (Some i) place = at i (slice_get vars i) place refl
