-- The values in a record's tree are those of its variables, each put in somewhere.
use Rattle.std.proofs.Common.{◌≡◌, ◌≢◌, ℕ, zero, suc, ◌≤◌, List, [], ◌∷◌, ◌++◌, codes, map, fold, length, refl, sym, ap, ◌∙◌, subst, append_assoc, append-nil, arith}
use Rattle.std.proofs.lemmas.List.{map-append}
use Rattle.std.proofs.lemmas.List.Sums.{common_prefix_len-le}
use Rattle.std.specs.List.{AllByRecursion, common_prefix_len}
use Rattle.std.specs.Str.{bytes_eq}
use Rattle.bb_tree.specs.Node.{Branch, Forest, empty, node, grow, branches, forest}
use Rattle.bb_layout.specs.Record.{Grown, Recorded, grown_by, node_for, nodes_with_prop, prop_with, put_prop, with_last, with_var}
use Rattle.bb_layout.specs.declared.var.Var.{Var}
use Rattle.bb_dtbrec.specs.declared.piece.Piece.{Piece}
use Rattle.bb_dtbrec.specs.declared.piece.Piece.TheVariants.{Value}
use Rattle.bb_dtbrec.specs.declared.piece.Place.{Place}
use Rattle.bb_dtbrec.specs.Layouts.{field_for, place_in_area, template_of}
use Rattle.bb_dtbrec.specs.Trees.{tree_values, values_among}
use Rattle.bb_dtbrec.proofs.Insertions.{AreInserted, IsInserted, before_others, behind, same_lists}
use Rattle.bb_dtbrec.proofs.TreeShapes.{put_on}
use Rattle.bb_dtbrec.proofs.TreeValues.{values-append}

-- a path leads to it
abbrev pub IsLed : Var → Type 0
IsLed v = v.path ≢ []

-- ---- how deep the last nodes go

-- there is a last node, and so many more below it, each the last of the one above
abbrev pub HasDepth : {V : Type 0} → ℕ → List (Branch V) → Type 0
HasDepth {V} zero nodes = Unit {0}
HasDepth {V} (suc n) nodes =
    (front : List (Branch V)) × (last : Branch V) × (nodes ≡ front ++ last ∷ [])
    × HasDepth n (branches last.nodes)

module _ {V : Type 0} where
  pub branches_forest : (bs : List (Branch V)) → branches (forest bs) ≡ bs
  branches_forest [] = refl
  branches_forest (b ∷ bs) = ap (λ rest. b ∷ rest) (branches_forest bs)

  forest_branches : (nodes : Forest V) → forest (branches nodes) ≡ nodes
  forest_branches empty = refl
  forest_branches (node name props nodes rest) =
      ap (λ r. node name props nodes r) (forest_branches rest)

  pub with_last_of : (f : Branch V → Branch V) (front : List (Branch V)) (last : Branch V) →
      with_last f (front ++ last ∷ []) ≡ front ++ f last ∷ []
  with_last_of f [] last = refl
  with_last_of f (b ∷ []) last = refl
  with_last_of f (b ∷ c ∷ front) last = ap (λ rest. b ∷ rest) (with_last_of f (c ∷ front) last)

  with_last_at : (f : Branch V → Branch V) (nodes front : List (Branch V)) (last : Branch V) →
      nodes ≡ front ++ last ∷ [] → with_last f nodes ≡ front ++ f last ∷ []
  with_last_at f nodes front last e = ap (with_last f) e ∙ with_last_of f front last

  less_deep : (n m : ℕ) (nodes : List (Branch V)) → m ≤ n → HasDepth n nodes → HasDepth m nodes
  less_deep n zero nodes le h = tt
  less_deep zero (suc m) nodes le h = absurd (omega arith)
  less_deep (suc n) (suc m) nodes le h =
      (h.0, h.1, h.2, less_deep n m (branches h.1.nodes) (omega arith) h.3)

  new_depth : (name : List ℕ) (path : List (List ℕ)) (prop : List ℕ × V) →
      HasDepth (length path) (branches (node_for name path prop).nodes)
  new_depth name [] prop = tt
  new_depth name (next ∷ path) prop =
      ([], node_for next path prop, refl, new_depth next path prop)

  -- after a property was put where a path leads, they go as deep as the path
  depth_after : (shared : ℕ) (path : List (List ℕ)) (prop : List ℕ × V)
      (nodes : List (Branch V)) → HasDepth shared nodes →
      HasDepth (length path) (nodes_with_prop shared path prop nodes)
  depth_after shared [] prop nodes h = tt
  depth_after zero (name ∷ path) prop nodes h =
      (nodes, node_for name path prop, refl, new_depth name path prop)
  depth_after (suc shared) (name ∷ []) prop nodes h =
      (h.0, put_prop prop h.1, with_last_at (put_prop prop) nodes h.0 h.1 h.2, tt)
  depth_after (suc shared) (name ∷ next ∷ path) prop nodes h =
      let on : List (List ℕ) = next ∷ path in
      let below : List (Branch V) = branches h.1.nodes in (
        h.0,
        put_on shared on prop h.1,
        with_last_at (put_on shared on prop) nodes h.0 h.1 h.2,
        subst (HasDepth (length on)) (sym (branches_forest (nodes_with_prop shared on prop below)))
            (depth_after shared on prop below h.3),
      )

-- ---- what properties hold

module _ {A : Type 0} where
  -- what is gathered from properties, a node's before those of the nodes in it
  abbrev pub gathered : (List (List ℕ × Piece) → List A) → Forest Piece → List A
  gathered own empty = []
  gathered own (node name props nodes rest) =
      own props ++ (gathered own nodes ++ gathered own rest)

  -- of the property of a variable this item is gathered, after those of the properties before it
  pub record Gathers (own : List (List ℕ × Piece) → List A) (item : Place → A) : Type 0 where
    pub none : own [] ≡ []
    pub more : (props : List (List ℕ × Piece)) (place : Place) →
        own (props ++ (codes "value", Value place) ∷ []) ≡ own props ++ item place ∷ []

  -- from nodes
  abbrev pub items_of : (List (List ℕ × Piece) → List A) → List (Branch Piece) → List A
  items_of own nodes = gathered own (forest nodes)

  items_beside : (own : List (List ℕ × Piece) → List A) (nodes others : List (Branch Piece)) →
      items_of own (nodes ++ others) ≡ items_of own nodes ++ items_of own others
  items_beside own [] others = refl
  items_beside own (b ∷ nodes) others =
      let here : List A = own b.props in
      let below : List A = gathered own b.nodes in
      ap (λ l. here ++ (below ++ l)) (items_beside own nodes others)
      ∙ ap (λ l. here ++ l) (sym (append_assoc below (items_of own nodes) (items_of own others)))
      ∙ sym (append_assoc here (below ++ items_of own nodes) (items_of own others))

  new_item : (own : List (List ℕ × Piece) → List A) (item : Place → A) → Gathers own item →
      (name : List ℕ) (path : List (List ℕ)) (place : Place) →
      items_of own (node_for name path (codes "value", Value place) ∷ []) ≡ item place ∷ []
  new_item own item g name [] place =
      ap (λ l. l ++ []) (g.more [] place ∙ ap (λ l. l ++ item place ∷ []) g.none)
  new_item own item g name (next ∷ path) place =
      let below : List A = items_of own (node_for next path (codes "value", Value place) ∷ []) in
      ap (λ l. l ++ (below ++ [])) g.none
      ∙ append-nil below
      ∙ new_item own item g next path place

  -- an item that comes into the last node
  put_last : (own : List (List ℕ × Piece) → List A) (x : A)
      (front nodes after : List (Branch Piece)) (last next : Branch Piece) →
      nodes ≡ front ++ last ∷ [] → after ≡ front ++ next ∷ [] →
      IsInserted x (items_of own (last ∷ [])) (items_of own (next ∷ [])) →
      IsInserted x (items_of own nodes) (items_of own after)
  put_last own x front nodes after last next e k h =
      same_lists x (items_of own nodes) (items_of own front ++ items_of own (last ∷ []))
      (items_of own after) (items_of own front ++ items_of own (next ∷ []))
      (ap (items_of own) e ∙ items_beside own front (last ∷ []))
      (ap (items_of own) k ∙ items_beside own front (next ∷ []))
      (behind (items_of own front) x (items_of own (last ∷ [])) (items_of own (next ∷ [])) h)

  put_here : (own : List (List ℕ × Piece) → List A) (item : Place → A) → Gathers own item →
      (place : Place) (b : Branch Piece) →
      IsInserted (item place) (items_of own (b ∷ []))
      (items_of own (put_prop (codes "value", Value place) b ∷ []))
  put_here own item g place b =
      let here : List A = own b.props in
      let below : List A = gathered own b.nodes ++ [] in
      record {
        front = here;
        back = below;
        from = refl;
        to =
            ap (λ l. l ++ below) (g.more b.props place)
            ∙ append_assoc here (item place ∷ []) below;
      }

  put_below : (own : List (List ℕ × Piece) → List A) (x : A) (b : Branch Piece)
      (nodes : List (Branch Piece)) →
      IsInserted x (items_of own (branches b.nodes)) (items_of own nodes) →
      IsInserted x (items_of own (b ∷ []))
      (items_of own (record { name = b.name; props = b.props; nodes = forest nodes } ∷ []))
  put_below own x b nodes h =
      behind (own b.props) x (gathered own b.nodes ++ []) (items_of own nodes ++ [])
      (before_others [] x (gathered own b.nodes) (items_of own nodes)
      (same_lists x (gathered own b.nodes) (items_of own (branches b.nodes)) (items_of own nodes)
      (items_of own nodes) (ap (gathered own) (sym (forest_branches b.nodes))) refl h))

  item_put : (own : List (List ℕ × Piece) → List A) (item : Place → A) → Gathers own item →
      (shared : ℕ) (name : List ℕ) (path : List (List ℕ)) (place : Place)
      (nodes : List (Branch Piece)) → HasDepth shared nodes →
      IsInserted (item place) (items_of own nodes)
      (items_of own (nodes_with_prop shared (name ∷ path) (codes "value", Value place) nodes))
  item_put own item g zero name path place nodes h =
      let prop : List ℕ × Piece = (codes "value", Value place) in
      record {
        front = items_of own nodes;
        back = [];
        from = sym (append-nil (items_of own nodes));
        to =
            items_beside own nodes (node_for name path prop ∷ [])
            ∙ ap (λ l. items_of own nodes ++ l) (new_item own item g name path place);
      }
  item_put own item g (suc shared) name [] place nodes h =
      let prop : List ℕ × Piece = (codes "value", Value place) in
      put_last own (item place) h.0 nodes (with_last (put_prop prop) nodes) h.1
      (put_prop prop h.1) h.2 (with_last_at (put_prop prop) nodes h.0 h.1 h.2)
      (put_here own item g place h.1)
  item_put own item g (suc shared) name (next ∷ path) place nodes h =
      let prop : List ℕ × Piece = (codes "value", Value place) in
      let on : List (List ℕ) = next ∷ path in
      let below : List (Branch Piece) = branches h.1.nodes in
      put_last own (item place) h.0 nodes (with_last (put_on shared on prop) nodes) h.1
      (put_on shared on prop h.1) h.2
      (with_last_at (put_on shared on prop) nodes h.0 h.1 h.2)
      (put_below own (item place) h.1 (nodes_with_prop shared on prop below)
      (item_put own item g shared next path place below h.3))

  -- ---- variables one after another

  led_put : (own : List (List ℕ × Piece) → List A) (item : Place → A) → Gathers own item →
      (shared : ℕ) (path : List (List ℕ)) (place : Place) (nodes : List (Branch Piece)) →
      path ≢ [] → HasDepth shared nodes →
      IsInserted (item place) (items_of own nodes)
      (items_of own (nodes_with_prop shared path (codes "value", Value place) nodes))
  led_put own item g shared [] place nodes led h = absurd (led refl)
  led_put own item g shared (name ∷ path) place nodes led h =
      item_put own item g shared name path place nodes h

  vars_put : (own : List (List ℕ × Piece) → List A) (item : Place → A) → Gathers own item →
      (vars : List Var) (grown : Grown Piece) → AllByRecursion IsLed vars →
      HasDepth (length grown.path) grown.nodes →
      AreInserted (items_of own grown.nodes) (map (λ v. item (place_in_area v)) vars)
      (items_of own (fold (with_var field_for) grown vars).nodes)
  vars_put own item g [] grown led h = refl
  vars_put own item g (v ∷ vs) grown led h =
      let shared : ℕ = common_prefix_len bytes_eq grown.path v.path in
      let enough : HasDepth shared grown.nodes =
      less_deep (length grown.path) shared grown.nodes
      (common_prefix_len-le bytes_eq grown.path v.path).0 h in (
        items_of own (with_var field_for grown v).nodes,
        led_put own item g shared v.path (place_in_area v) grown.nodes led.0 enough,
        vars_put own item g vs (with_var field_for grown v) led.1
            (depth_after shared v.path (prop_with field_for v) grown.nodes enough),
      )

  -- what is gathered from the nodes of variables is an item of each, wherever it stands
  pub items_of_vars : (own : List (List ℕ × Piece) → List A) (item : Place → A) →
      Gathers own item → (vars : List Var) → AllByRecursion IsLed vars →
      AreInserted [] (map (λ v. item (place_in_area v)) vars)
      (items_of own (grown_by field_for vars).nodes)
  items_of_vars own item g vars led =
      vars_put own item g vars (record { path = []; nodes = [] }) led tt

-- ---- the values of the whole tree

abbrev own_values : List (List ℕ × Piece) → List Piece
own_values props = values_among (map (λ p. p.1) props)

gathers_values : Gathers own_values (λ place. Value place)
gathers_values = record {
  none = refl;
  more = λ props place.
      ap values_among
      (map-append (λ (p : List ℕ × Piece). p.1) props ((codes "value", Value place) ∷ []))
      ∙ values-append (map (λ (p : List ℕ × Piece). p.1) props) (Value place ∷ []);
}

values_gathered : (nodes : Forest Piece) → gathered own_values nodes ≡ tree_values nodes
values_gathered empty = refl
values_gathered (node name props nodes rest) =
    ap (λ l. own_values props ++ (l ++ gathered own_values rest)) (values_gathered nodes)
    ∙ ap (λ l. own_values props ++ (tree_values nodes ++ l)) (values_gathered rest)

pub values_of_template : (recorded : Recorded) → AllByRecursion IsLed recorded.vars →
    AreInserted [] (map field_for recorded.vars)
    (tree_values (grow (template_of recorded) empty))
values_of_template recorded led =
    let nodes : Forest Piece = forest (grown_by field_for recorded.vars).nodes in
    let values : List Piece = tree_values nodes in
    subst (λ (l : List Piece). AreInserted [] (map field_for recorded.vars) l)
    (values_gathered nodes ∙ sym (append-nil (values ++ []) ∙ append-nil values))
    (items_of_vars own_values (λ place. Value place) gathers_values recorded.vars led)
