-- Variables as they are met on the way down, where nothing below a variable is looked at.
use Rattle.std.specs.Prelude.{ℕ, Bool, List, [], ◌∷◌, ◌++◌, Result, Ok, map, if◌then◌else◌}
use Rattle.bb_tree.specs.Node.{Forest, empty, node, Branch}
use Rattle.bb_layout.specs.Results.{result_and_then, all_ok}
use Rattle.bb_layout.specs.Variables.{has_type, variable_of}
use Rattle.bb_layout.specs.declared.layout_error.LayoutError.{LayoutError}
use Rattle.bb_layout.specs.declared.var.Var.{Var}

-- the nodes that are variables, each with the full names that lead to it, where `above` leads to
-- the forest
abbrev pub typed_in : List (List ℕ) → Forest (List ℕ) → List (List (List ℕ) × Branch (List ℕ))
typed_in above empty = []
typed_in above (node n ps ks rest) =
    let b : Branch (List ℕ) = record { name = n; props = ps; nodes = ks } in
    let path = above ++ n ∷ [] in
    (if has_type b then (path, b) ∷ [] else typed_in path ks) ++ typed_in above rest

abbrev pub variables_in : List (List ℕ) → Forest (List ℕ) → Result (List Var) LayoutError
variables_in above forest = all_ok (map (λ v. variable_of v.0 v.1) (typed_in above forest))

abbrev pub variables_below : List (List ℕ) → Branch (List ℕ) → Result (List Var) LayoutError
variables_below above b = variables_in above b.nodes

-- variables in front of others
abbrev pub onto : List Var → Result (List Var) LayoutError → Result (List Var) LayoutError
onto vars rest = result_and_then (λ more. Ok (vars ++ more)) rest

-- a name more, after a `.` unless it is the first
abbrev pub dotted_more : Bool → List ℕ → List ℕ → List ℕ
dotted_more is_first names name = if is_first then names ++ name else names ++ 46 ∷ name
