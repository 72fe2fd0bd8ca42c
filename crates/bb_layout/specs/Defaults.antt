-- The area that stands for an empty device.
use Rattle.std.specs.Prelude.{ℕ, List, fold, replicate}
use Rattle.bb_vars.specs.Table.{table_with}
use Rattle.bb_layout.specs.declared.var.Var.{Var}

-- zero bytes, and over them each variable's default in its range
abbrev pub defaults_of : ℕ → List Var → List ℕ
defaults_of area_len vars = fold (λ area v. table_with area v.at v.default) (replicate area_len 0) vars
