-- The variable of a name, and its line.
use Rattle.std.proofs.Common.{◌≡◌, ℕ, List, Some, None, [], ◌++◌, codes, ap, ◌∙◌, slice_get}
use Rattle.std.specs.Option.{option_and_then}
use Rattle.std.specs.Str.{bytes_eq}
use Rattle.bb_layout.specs.VarNames.{place_of_var}
use Rattle.bb_layout.specs.declared.var.Var.{Var}
use Rattle.bb_state.specs.Lines.{value_line, printed_value}
use Rattle.bb_state.specs.Named.{var_of}
use Rattle.bb_state.proofs.Lists.{find_place}

pub var_of_none : (name : List ℕ) (vars : List Var) → place_of_var vars name ≡ None → var_of vars name ≡ None
var_of_none name vars h = find_place (λ (v : Var). bytes_eq name v.name) vars ∙ ap (option_and_then (slice_get vars)) h

pub var_of_some : (name : List ℕ) (vars : List Var) (i : ℕ) (v : Var) → place_of_var vars name ≡ Some i → slice_get vars i ≡ Some v → var_of vars name ≡ Some v
var_of_some name vars i v h at = find_place (λ (w : Var). bytes_eq name w.name) vars ∙ ap (option_and_then (slice_get vars)) h ∙ at

pub var_of_past : (name : List ℕ) (vars : List Var) (i : ℕ) → place_of_var vars name ≡ Some i → slice_get vars i ≡ None → var_of vars name ≡ None
var_of_past name vars i h at = find_place (λ (w : Var). bytes_eq name w.name) vars ∙ ap (option_and_then (slice_get vars)) h ∙ at

pub line_of_none : (area name : List ℕ) (vars : List Var) → place_of_var vars name ≡ None → value_line area (var_of vars name) ≡ []
line_of_none area name vars h = ap (value_line area) (var_of_none name vars h)

pub line_of_some : (area name : List ℕ) (vars : List Var) (i : ℕ) (v : Var) → place_of_var vars name ≡ Some i → slice_get vars i ≡ Some v
    → value_line area (var_of vars name) ≡ printed_value area v ++ codes "\n"
line_of_some area name vars i v h at = ap (value_line area) (var_of_some name vars i v h at)
