-- The tree of a record has the same shape whatever stands for a value.
use Rattle.std.proofs.Common.{◌≡◌, ℕ, zero, suc, List, [], ◌∷◌, ◌++◌, codes, map, fold, refl, sym, ap, ◌∙◌}
use Rattle.std.proofs.lemmas.List.{map-append}
use Rattle.std.specs.List.{common_prefix_len}
use Rattle.std.specs.Str.{bytes_eq}
use Rattle.bb_tree.specs.Node.{Branch, Forest, empty, node, grow, branches, forest, with_values, with_values_of}
use Rattle.bb_layout.specs.Record.{Grown, Recorded, cell, grown_by, node_for, nodes_with_prop, prop_with, put_prop, record_tree_by, with_last, with_var}
use Rattle.bb_layout.specs.declared.var.Var.{Var}

-- the last node, with a property put into it where the path goes on
abbrev pub put_on : {V : Type 0} → ℕ → List (List ℕ) → List ℕ × V → Branch V → Branch V
put_on shared path prop b = record {
  name = b.name;
  props = b.props;
  nodes = forest (nodes_with_prop shared path prop (branches b.nodes));
}

module _ {V W : Type 0} where
  -- a property with another value
  abbrev pub prop_as : (V → W) → List ℕ × V → List ℕ × W
  prop_as f p = (p.0, f p.1)

  node_for_as : (f : V → W) (name : List ℕ) (path : List (List ℕ)) (prop : List ℕ × V) →
      with_values f (node_for name path prop) ≡ node_for name path (prop_as f prop)
  node_for_as f name [] prop = refl
  node_for_as f name (next ∷ path) prop =
      ap (λ (b : Branch W). record { name = name; props = []; nodes = grow b empty })
      (node_for_as f next path prop)

  put_prop_as : (f : V → W) (prop : List ℕ × V) (b : Branch V) →
      with_values f (put_prop prop b) ≡ put_prop (prop_as f prop) (with_values f b)
  put_prop_as f prop b =
      ap
      (λ (ps : List (List ℕ × W)). record {
        name = b.name;
        props = ps;
        nodes = with_values_of f b.nodes;
      })
      (map-append (prop_as f) b.props (prop ∷ []))

  branches_as : (f : V → W) (nodes : Forest V) →
      branches (with_values_of f nodes) ≡ map (with_values f) (branches nodes)
  branches_as f empty = refl
  branches_as f (node name props nodes rest) =
      ap (λ bs. with_values f (record { name = name; props = props; nodes = nodes }) ∷ bs)
      (branches_as f rest)

  forest_as : (f : V → W) (bs : List (Branch V)) →
      with_values_of f (forest bs) ≡ forest (map (with_values f) bs)
  forest_as f [] = refl
  forest_as f (b ∷ bs) = ap (λ rest. grow (with_values f b) rest) (forest_as f bs)

  with_last_as : (f : V → W) (g : Branch V → Branch V) (h : Branch W → Branch W) →
      ((b : Branch V) → with_values f (g b) ≡ h (with_values f b)) → (bs : List (Branch V)) →
      map (with_values f) (with_last g bs) ≡ with_last h (map (with_values f) bs)
  with_last_as f g h same [] = refl
  with_last_as f g h same (b ∷ []) = ap (λ c. c ∷ []) (same b)
  with_last_as f g h same (b ∷ c ∷ bs) =
      ap (λ rest. with_values f b ∷ rest) (with_last_as f g h same (c ∷ bs))

  nodes_as : (f : V → W) (shared : ℕ) (path : List (List ℕ)) (prop : List ℕ × V)
      (nodes : List (Branch V)) →
      map (with_values f) (nodes_with_prop shared path prop nodes)
      ≡ nodes_with_prop shared path (prop_as f prop) (map (with_values f) nodes)
  nodes_as f shared [] prop nodes = refl
  nodes_as f zero (name ∷ path) prop nodes =
      map-append (with_values f) nodes (node_for name path prop ∷ [])
      ∙ ap (λ b. map (with_values f) nodes ++ b ∷ []) (node_for_as f name path prop)
  nodes_as f (suc shared) (name ∷ []) prop nodes =
      with_last_as f (put_prop prop) (put_prop (prop_as f prop)) (put_prop_as f prop) nodes
  nodes_as f (suc shared) (name ∷ next ∷ path) prop nodes =
      let on : List (List ℕ) = next ∷ path in
      with_last_as f (put_on shared on prop) (put_on shared on (prop_as f prop))
      (λ b. ap
      (λ (ns : Forest W). record {
        name = b.name;
        props = map (prop_as f) b.props;
        nodes = ns;
      })
      (forest_as f (nodes_with_prop shared on prop (branches b.nodes))
      ∙ ap forest
      (nodes_as f shared on prop (branches b.nodes)
      ∙ ap (nodes_with_prop shared on (prop_as f prop)) (sym (branches_as f b.nodes)))))
      nodes

  abbrev grown_as : (V → W) → Grown V → Grown W
  grown_as f grown = record { path = grown.path; nodes = map (with_values f) grown.nodes }

  with_var_as : (f : V → W) (g : Var → V) (h : Var → W) → ((v : Var) → f (g v) ≡ h v) →
      (grown : Grown V) (v : Var) →
      grown_as f (with_var g grown v) ≡ with_var h (grown_as f grown) v
  with_var_as f g h same grown v =
      let shared : ℕ = common_prefix_len bytes_eq grown.path v.path in
      ap (λ (nodes : List (Branch W)). record { path = v.path; nodes = nodes })
      (nodes_as f shared v.path (prop_with g v) grown.nodes
      ∙ ap
      (λ (x : W). nodes_with_prop shared v.path (codes "value", x)
      (map (with_values f) grown.nodes))
      (same v))

  vars_as : (f : V → W) (g : Var → V) (h : Var → W) → ((v : Var) → f (g v) ≡ h v) →
      (vars : List Var) (grown : Grown V) →
      grown_as f (fold (with_var g) grown vars) ≡ fold (with_var h) (grown_as f grown) vars
  vars_as f g h same [] grown = refl
  vars_as f g h same (v ∷ vs) grown =
      vars_as f g h same vs (with_var g grown v)
      ∙ ap (λ x. fold (with_var h) x vs) (with_var_as f g h same grown v)

  nodes_of_vars : (f : V → W) (g : Var → V) (h : Var → W) → ((v : Var) → f (g v) ≡ h v) →
      (vars : List Var) →
      with_values_of f (forest (grown_by g vars).nodes) ≡ forest (grown_by h vars).nodes
  nodes_of_vars f g h same vars =
      forest_as f (grown_by g vars).nodes
      ∙ ap (λ (grown : Grown W). forest grown.nodes)
      (vars_as f g h same vars (record { path = []; nodes = [] }))

  -- a record's tree with other values is that of what became of each
  pub tree_as : (f : V → W) (fixed : List ℕ → V) (fixed_as : List ℕ → W) (value : Var → V)
      (value_as : Var → W) → ((bytes : List ℕ) → f (fixed bytes) ≡ fixed_as bytes) →
      ((v : Var) → f (value v) ≡ value_as v) → (recorded : Recorded) →
      with_values f (record_tree_by fixed value recorded)
      ≡ record_tree_by fixed_as value_as recorded
  tree_as f fixed fixed_as value value_as same_bytes same_values recorded =
      let zeros : List ℕ = 0 ∷ 0 ∷ 0 ∷ 0 ∷ [] in
      let compatible : List ℕ = codes "barebox,state" ++ 0 ∷ [] in
      let magic : List ℕ = cell recorded.magic in
      let nodes : Forest W = with_values_of f (forest (grown_by value recorded.vars).nodes) in
      let made : W → W → W → Forest W → Branch W = λ x y z ns. record {
        name = [];
        props = (codes "bb,crc32", x) ∷ [];
        nodes =
            node recorded.node ((codes "compatible", y) ∷ (codes "magic", z) ∷ []) ns empty;
      } in
      ap (λ x. made x (f (fixed compatible)) (f (fixed magic)) nodes) (same_bytes zeros)
      ∙ ap (λ y. made (fixed_as zeros) y (f (fixed magic)) nodes) (same_bytes compatible)
      ∙ ap (λ z. made (fixed_as zeros) (fixed_as compatible) z nodes) (same_bytes magic)
      ∙ ap (λ ns. made (fixed_as zeros) (fixed_as compatible) (fixed_as magic) ns)
      (nodes_of_vars f value value_as same_values recorded.vars)
