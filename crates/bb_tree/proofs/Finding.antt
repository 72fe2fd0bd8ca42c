-- What is found in a tree of slots.
use Rattle.std.proofs.Common.{◌≡◌, ℕ, ◌+◌, ◌<◌, List, [], ◌∷◌, length, Option, Some, None, false, refl, sym, ◌∙◌, ap, arith, inl, inr, ◌⊎◌}
use Rattle.std.specs.Str.{bytes_eq}
use Rattle.std.specs.Option.{option_map, option_map_or, option_and_then, is_some}
use Rattle.std.proofs.lemmas.Option.{option_and_then_some}
use Rattle.bb_tree.specs.Merge.{merged, merging, reached}
use Rattle.bb_tree.proofs.Changing.{length_spine}
use Rattle.bb_tree.specs.declared.part.Part.{Part}
use Rattle.bb_tree.specs.declared.slot.Slot.{Slot}
use Rattle.bb_tree.specs.Node.{Branch}
use Rattle.bb_tree.specs.Paths.{path_names, node_at, found}
use Rattle.bb_tree.specs.Spine.{slot_led_to}
use Rattle.bb_tree.specs.Slots.{spine, props_at, slots_tree, Changes}
use Rattle.bb_tree.proofs.Spine.{walk_nil, walk_in, walk_past, walk_cases, props-child_of, Slots}

-- the node that names lead to has the properties of the slot that they lead to
pub props-node_at : (slots : List Slot) (names : List (List ℕ)) → option_map (λ b. b.props) (node_at names (slots_tree slots)) ≡ option_map (props_at slots) (slot_led_to 1 (spine slots) 0 names)
props-node_at slots [] = ap (option_map (props_at slots)) (sym (walk_nil 1 (spine slots) 0))
props-node_at slots (n ∷ ns) = props-child_of (props_at slots) 1 (spine slots) 0 n ns

is_some-option_map : {A B : Type 0} (f : A → B) (o : Option A) → is_some (option_map f o) ≡ is_some o
is_some-option_map f None = refl
is_some-option_map f (Some x) = refl

pub is_some-node_at : (slots : List Slot) (names : List (List ℕ)) → is_some (node_at names (slots_tree slots)) ≡ is_some (slot_led_to 1 (spine slots) 0 names)
is_some-node_at slots names =
    let show : Branch (List Part) → List (List ℕ × List Part) = λ b. b.props in
    sym (is_some-option_map show (node_at names (slots_tree slots))) ∙ ap is_some (props-node_at slots names)
    ∙ is_some-option_map (props_at slots) (slot_led_to 1 (spine slots) 0 names)

-- a node stands at a path where the path leads to a slot
pub is_some-found : (slots : List Slot) (path : List ℕ) → is_some (found path (slots_tree slots)) ≡ is_some (option_and_then (slot_led_to 1 (spine slots) 0) (path_names path))
is_some-found slots path = go (path_names path)
  where
    go : (o : Option (List (List ℕ))) → is_some (option_and_then (λ ns. node_at ns (slots_tree slots)) o) ≡ is_some (option_and_then (slot_led_to 1 (spine slots) 0) o)
    go None = refl
    go (Some ns) = is_some-node_at slots ns

-- a walk leads to a slot of the list, or stays
pub walk_within : (i : ℕ) (rest : Slots) (k : ℕ) (ns : List (List ℕ)) (c : ℕ) → k < i → slot_led_to i rest k ns ≡ Some c → c < i + length rest
walk_within i rest k [] c h w = let e : k ≡ c = cc (walk_nil i rest k) in omega arith
walk_within i [] k (n ∷ ns) c h w = cc
walk_within i (s ∷ rest) k (n ∷ ns) c h w =
    elim (walk_cases s k n) [
      | inl p ↦ omega (arith, walk_within (i + 1) rest i ns c (omega arith) (sym (walk_in i s rest k n ns p.0 p.1) ∙ w))
      | inr q ↦
          let past : (s.0 ≡ k → ⊥) ⊎ (bytes_eq n s.1 ≡ false) = elim q [ inl p ↦ inr p.1 | inr p ↦ inl p ] in
          omega (arith, walk_within (i + 1) rest k (n ∷ ns) c (omega arith) (sym (walk_past i s rest k n ns past) ∙ w))
    ]

-- the slot at a path is one of the list
pub path_within : (slots : List Slot) (path : List ℕ) (k : ℕ) → 0 < length slots → option_and_then (slot_led_to 1 (spine slots) 0) (path_names path) ≡ Some k → k < length slots
path_within slots path k h w =
    option_and_then_some (slot_led_to 1 (spine slots) 0) (path_names path) k w (λ names _ v. omega (arith, walk_within 1 (spine slots) 0 names k (omega arith) v, length_spine slots h))

-- a body merged into the slot at a path is merged at the path
pub merged_walk : (old new : List Slot) (path : List ℕ) (body : Branch (List Part)) (k : ℕ) → option_and_then (slot_led_to 1 (spine old) 0) (path_names path) ≡ Some k → Changes k (merging body) old new → slots_tree new ≡ merged (slots_tree old) path body
merged_walk old new path body k w h =
    option_and_then_some (slot_led_to 1 (spine old) 0) (path_names path) k w (λ names e v. h.tree names v ∙ ap (λ (o : Option (List (List ℕ))). option_map_or (λ ns. reached ns (merging body) (slots_tree old)) o (slots_tree old)) (sym e))
