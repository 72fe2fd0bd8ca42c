-- The layout of the node to which an alias leads, or else of the first that is wanted.
use Rattle.std.proofs.Common.{◌≡◌, ℕ, List, Option, Some, None, Result, ap, ◌∙◌}
use Rattle.std.specs.Prelude.{codes, find, ok_or, option_map, unwrap_or}
use Rattle.std.specs.Option.{option_or}
use Rattle.bb_flash.specs.declared.geometry.Geometry.{Geometry}
use Rattle.bb_tree.specs.Node.{Branch, preorder}
use Rattle.bb_layout.specs.Fields.{base_name}
use Rattle.bb_layout.specs.Layout.{Laid, layout_at, layout_from}
use Rattle.bb_layout.specs.StateNode.{node_by_alias, is_wanted}
use Rattle.bb_layout.specs.Steps.{result_then}
use Rattle.bb_layout.specs.declared.layout_error.LayoutError.{LayoutError}
use Rattle.bb_layout.specs.declared.layout_error.LayoutError.TheVariants.{NoState}

-- it counts where no alias does
pub first_counts : (tree : Branch (List ℕ)) (name : Option (List ℕ)) (geometry : Geometry) (b : Branch (List ℕ)) → node_by_alias tree (unwrap_or name (codes "state")) ≡ None → find (is_wanted name) (preorder tree) ≡ Some b → layout_from tree name geometry ≡ layout_at tree (base_name b.name) b geometry
first_counts tree name geometry b none some =
    let called : Option (List ℕ × Branch (List ℕ)) = option_map (λ s. (base_name s.name, s)) (find (is_wanted name) (preorder tree)) in
    let read : Option (List ℕ × Branch (List ℕ)) → Result Laid LayoutError = λ found. result_then (ok_or found NoState) (λ s. layout_at tree s.0 s.1 geometry) in
    ap (λ (o : Option (Branch (List ℕ))). read (option_or (option_map (λ s. (unwrap_or name (codes "state"), s)) o) called)) none
    ∙ ap (λ (o : Option (Branch (List ℕ))). read (option_map (λ s. (base_name s.name, s)) o)) some

-- the node that is aliased comes first
pub alias_counts : (tree : Branch (List ℕ)) (name : Option (List ℕ)) (geometry : Geometry) (b : Branch (List ℕ)) →
    node_by_alias tree (unwrap_or name (codes "state")) ≡ Some b →
    layout_from tree name geometry ≡ layout_at tree (unwrap_or name (codes "state")) b geometry
alias_counts tree name geometry b some =
    let called : Option (List ℕ × Branch (List ℕ)) = option_map (λ s. (base_name s.name, s)) (find (is_wanted name) (preorder tree)) in
    let read : Option (List ℕ × Branch (List ℕ)) → Result Laid LayoutError = λ found. result_then (ok_or found NoState) (λ s. layout_at tree s.0 s.1 geometry) in
    ap (λ (o : Option (Branch (List ℕ))). read (option_or (option_map (λ s. (unwrap_or name (codes "state"), s)) o) called)) some
