-- Variables in an area.
use Rattle.std.specs.Prelude.{◌≡◌, ℕ, ◌≤◌}
use Rattle.bb_vars.specs.Kind.{HasFewNames, size_of}
use Rattle.bb_layout.specs.Ranges.{end_of}
use Rattle.bb_layout.specs.declared.var.Var.{Var}

-- the variable's range ends in an area of that length, and has as many bytes as its kind
pub record VarHasRoom (area_len : ℕ) (v : Var) : Type 0 where
  pub inside : end_of v ≤ area_len
  pub sized : v.size ≡ size_of v.kind
  pub few_names : HasFewNames v.kind
