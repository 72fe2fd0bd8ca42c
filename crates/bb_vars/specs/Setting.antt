-- What becomes of a table in which a variable gets a value.
use Rattle.std.specs.Prelude.{ℕ, List, Result}
use Rattle.std.specs.Result.{result_map_both}
use Rattle.bb_vars.specs.declared.kind.Kind.{Kind}
use Rattle.bb_vars.specs.declared.value_error.ValueError.{ValueError}
use Rattle.bb_vars.specs.Table.{table_with}
use Rattle.bb_vars.specs.Value.{bytes_of}

-- the table with the value of a kind that a text stands for, from a place on; or the cause for
-- which it stands for none
abbrev pub with_value : Kind → ℕ → List ℕ → List ℕ → Result (List ℕ) ValueError
with_value kind at text table =
    result_map_both (λ bytes. table_with table at bytes) (λ cause. cause) (bytes_of kind text)
