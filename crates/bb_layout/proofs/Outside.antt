-- What changes in an area where variables alone are written.
use Rattle.std.proofs.Common.{◌≡◌, ℕ, suc, ◌+◌, ◌<◌, ◌≤◌, ◌⊎◌, List, [], ◌∷◌, All, Some, arith, length, refl, replicate, slice_get, subst, sym, ap, ◌∙◌}
use Rattle.std.proofs.lemmas.List.{get_or-replicate, length-replicate}
use Rattle.std.proofs.lemmas.Option.{get_or_from_slice_get, slice_get_within}
use Rattle.std.specs.List.{fold}
use Rattle.bb_vars.proofs.TableRanges.{get_or-table_with, length-table_with}
use Rattle.bb_vars.specs.Table.{table_with}
use Rattle.bb_layout.specs.Defaults.{defaults_of}
use Rattle.bb_layout.specs.Facts.{AreVars}
use Rattle.bb_layout.specs.Outside.{ChangesVarsAlone, HoldsVarsAlone, IsOutside}
use Rattle.bb_layout.specs.Ranges.{end_of}
use Rattle.bb_layout.specs.Variables.{IsWellFormed}
use Rattle.bb_layout.specs.declared.var.Var.{Var}

-- ---- one change after another

pub changes_none : (vars : List Var) (area : List ℕ) → ChangesVarsAlone vars area area
changes_none vars area = record { same_length = refl; bytes = λ k outside. refl }

pub changes_joined : (vars : List Var) (before mid after : List ℕ) → ChangesVarsAlone vars before mid → ChangesVarsAlone vars mid after → ChangesVarsAlone vars before after
changes_joined vars before mid after first next = record {
  same_length = next.same_length ∙ first.same_length;
  bytes = λ k outside. next.bytes k outside ∙ first.bytes k outside;
}

-- what holds nothing outside the variables still does
pub still_holds : (vars : List Var) (before after : List ℕ) → HoldsVarsAlone vars before → ChangesVarsAlone vars before after → HoldsVarsAlone vars after
still_holds vars before after holds changes = λ k inside outside.
    changes.bytes k outside ∙ holds k (let same = changes.same_length in omega arith) outside

-- ---- a variable is written

outside_at : (vars : List Var) (i : ℕ) (v : Var) (k : ℕ) → slice_get vars i ≡ Some v → IsOutside vars k → (k < v.at) ⊎ (end_of v ≤ k)
outside_at vars i v k there outside =
    subst (λ (w : Var). (k < w.at) ⊎ (end_of w ≤ k)) (get_or_from_slice_get vars i v v there) (outside i v (slice_get_within vars i v there))

pub put_changes : (vars : List Var) (i : ℕ) (v : Var) (area bytes : List ℕ) → slice_get vars i ≡ Some v → length bytes ≡ v.size → end_of v ≤ length area
    → ChangesVarsAlone vars area (table_with area v.at bytes)
put_changes vars i v area bytes there sized inside =
    let end : v.at + length bytes ≡ end_of v = ap (λ n. v.at + n) sized in
    let room : v.at + length bytes ≤ length area = omega arith in
    record {
      same_length = length-table_with area v.at bytes room;
      bytes = λ k outside.
          get_or-table_with area v.at bytes room k (subst (λ n. (k < v.at) ⊎ (n ≤ k)) (sym end) (outside_at vars i v k there outside));
    }

-- ---- all of them get their defaults

abbrev filled : List ℕ → List Var → List ℕ
filled area vars = fold (λ area v. table_with area v.at v.default) area vars

rest_of : (P : Var → Type 0) (v : Var) (vs : List Var) → All P (v ∷ vs) → All P vs
rest_of P v vs all k d below = all (suc k) d (omega arith)

wider : (v : Var) (vs : List Var) (before after : List ℕ) → ChangesVarsAlone vs before after → ChangesVarsAlone (v ∷ vs) before after
wider v vs before after changes = record {
  same_length = changes.same_length;
  bytes = λ k outside. changes.bytes k (rest_of (λ w. (k < w.at) ⊎ (end_of w ≤ k)) v vs outside);
}

filled_changes : (len : ℕ) (vars : List Var) (area : List ℕ) → length area ≡ len → All IsWellFormed vars → All (λ v. end_of v ≤ len) vars → ChangesVarsAlone vars area (filled area vars)
filled_changes len [] area sized each inside = changes_none [] area
filled_changes len (v ∷ vs) area sized each inside =
    let formed : IsWellFormed v = each 0 v (omega arith) in
    let room : end_of v ≤ len = inside 0 v (omega arith) in
    let size : length v.default ≡ v.size = formed.default ∙ sym formed.size in
    let put = put_changes (v ∷ vs) 0 v area v.default refl size (omega arith) in
    let next = table_with area v.at v.default in
    changes_joined (v ∷ vs) area next (filled next vs) put
    (wider v vs next (filled next vs)
    (filled_changes len vs next (put.same_length ∙ sized) (rest_of IsWellFormed v vs each) (rest_of (λ w. end_of w ≤ len) v vs inside)))

defaults_change : (area_len : ℕ) (vars : List Var) → AreVars area_len vars → ChangesVarsAlone vars (replicate area_len 0) (defaults_of area_len vars)
defaults_change area_len vars are = filled_changes area_len vars (replicate area_len 0) (length-replicate area_len 0) are.each are.inside

pub defaults_length : (area_len : ℕ) (vars : List Var) → AreVars area_len vars → length (defaults_of area_len vars) ≡ area_len
defaults_length area_len vars are = (defaults_change area_len vars are).same_length ∙ length-replicate area_len 0

pub defaults_hold : (area_len : ℕ) (vars : List Var) → AreVars area_len vars → HoldsVarsAlone vars (defaults_of area_len vars)
defaults_hold area_len vars are =
    still_holds vars (replicate area_len 0) (defaults_of area_len vars)
    (λ k inside outside. get_or-replicate area_len k 0 0 (subst (λ n. k < n) (length-replicate {A = ℕ} area_len 0) inside))
    (defaults_change area_len vars are)
