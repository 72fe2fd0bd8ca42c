-- A slot written out as a node.
use Rattle.std.proofs.Common.{◌≡◌, ◌∷◌, [], List, ℕ, map, refl, sym, ap, ◌∙◌}
use Rattle.bb_tree.specs.declared.slot.Slot.{Slot}
use Rattle.bb_tree.specs.Node.{node, Branch, forest, with_values, with_values_of}
use Rattle.bb_tree.specs.Spine.{nodes_under}
use Rattle.bb_tree.specs.Slots.{IsSound, spine, props_at, table_at}
use Rattle.bb_tree.specs.Draft.{Labels}
use Rattle.bb_tree.specs.SlotValues.{slot_value, values_in, finished_node}
use Rattle.bb_tree.proofs.Preorder.{as_node, nodes_under_children}

with_values_forest : {V W : Type 0} (f : V → W) (bs : List (Branch V))
    → with_values_of f (forest bs) ≡ forest (map (with_values f) bs)
with_values_forest f [] = refl
with_values_forest f (b ∷ bs) =
    ap (λ g. node b.name (map (λ p. (p.0, f p.1)) b.props) (with_values_of f b.nodes) g)
    (with_values_forest f bs)

map-map : {A B C : Type 0} (f : A → B) (g : B → C) (l : List A)
    → map g (map f l) ≡ map (λ x. g (f x)) l
map-map f g [] = refl
map-map f g (x ∷ l) = ap (λ m. g (f x) ∷ m) (map-map f g l)

-- the finished node of a child
abbrev pub child_finished : Labels → List Slot → List ℕ × ℕ → Branch (List ℕ)
child_finished labels slots e = finished_node labels slots e.0 e.1

pub finished_children : (labels : Labels) (slots : List Slot) (name : List ℕ) (k : ℕ)
    → IsSound slots → finished_node labels slots name k ≡ record {
      name = name;
      props = values_in labels slots (props_at slots k);
      nodes =
          forest (map (child_finished labels slots) (table_at slots k));
    }
finished_children labels slots name k sound =
    let f = slot_value labels slots in
    let N = nodes_under (props_at slots) 1 (spine slots) in
    ap (λ g. record {
      name = name;
      props = values_in labels slots (props_at slots k);
      nodes = with_values_of f g;
    }) (nodes_under_children (props_at slots) (spine slots)
    sound.rising k)
    ∙ ap (λ g. record { name = name; props = values_in labels slots (props_at slots k); nodes = g })
    (ap (λ l. with_values_of f (forest (map (as_node (props_at slots) N) l))) (sym (sound.tables k))
    ∙ with_values_forest f (map (as_node (props_at slots) N) (table_at slots k))
    ∙ ap forest (map-map (as_node (props_at slots) N) (with_values f) (table_at slots k)))
