-- Areas filled with defaults.
use Rattle.std.proofs.Common.{◌≡◌, ℕ, ◌+◌, ◌≤◌, List, All, take, length, replicate, Some, slice_get, ap, subst, ◌∙◌}
use Rattle.std.proofs.lemmas.List.Sums.{fold_more}
use Rattle.std.proofs.lemmas.Option.{get_or_from_slice_get, slice_get_within}
use Rattle.bb_vars.specs.Table.{table_with}
use Rattle.bb_layout.specs.Defaults.{defaults_of}
use Rattle.bb_layout.specs.declared.var.Var.{Var}

-- one variable more
pub defaults_more : (len : ℕ) (vars : List Var) (i : ℕ) (v : Var) → slice_get vars i ≡ Some v → defaults_of len (take (i + 1) vars) ≡ table_with (defaults_of len (take i vars)) v.at v.default
defaults_more len vars i v h =
    let put : List ℕ → Var → List ℕ = λ area w. table_with area w.at w.default in
    fold_more put (replicate len 0) vars i v (slice_get_within vars i v h) ∙ ap (put (defaults_of len (take i vars))) (get_or_from_slice_get vars i v v h)

-- the default of each variable has room
pub room_at : (len : ℕ) (vars : List Var) (i : ℕ) (v : Var) → All (λ w. w.at + length w.default ≤ len) vars → slice_get vars i ≡ Some v → v.at + length v.default ≤ len
room_at len vars i v all h =
    subst (λ (w : Var). w.at + length w.default ≤ len) (get_or_from_slice_get vars i v v h) (all i v (slice_get_within vars i v h))
