-- The nodes of a tree of slots in preorder.
use Rattle.std.proofs.Common.{◌≡◌, ℕ, ◌+◌, ◌<◌, ◌≤◌, List, [], ◌∷◌, ◌++◌, map, length, refl, sym, ◌∙◌, ap, arith, inl, inr, slice_get, Some, Option, zero, suc}
use Rattle.std.specs.List.{flat_map}
use Rattle.std.proofs.lemmas.Bool.{cases_eq}
use Rattle.std.proofs.lemmas.List.{map-append}
use Rattle.bb_tree.specs.Node.{Forest, node, Branch, forest, preorder_of}
use Rattle.bb_tree.specs.Spine.{nodes_under, child_table, IsRising}
use Rattle.bb_tree.proofs.Spine.{Slots, under_in, under_past, children_in, children_past}

module _ {V : Type 0} where
  -- a child as a node, where N gives the nodes under a slot
  abbrev pub as_node : (ℕ → List (List ℕ × V)) → (ℕ → Forest V) → List ℕ × ℕ → Branch V
  as_node P N e = record { name = e.0; props = P e.1; nodes = N e.1 }

  -- the nodes under a slot are its children, each with the nodes under it
  under_children : (P : ℕ → List (List ℕ × V)) (N : ℕ → Forest V) (i : ℕ) (rest : Slots)
      → IsRising i rest → ((j : ℕ) → i ≤ j → nodes_under P i rest j ≡ N j) → (k : ℕ)
      → nodes_under P i rest k ≡ forest (map (as_node P N) (child_table i rest k))
  under_children P N i [] r h k = refl
  under_children P N i (s ∷ rest) r h k =
      let later : (j : ℕ) → i ≤ j → nodes_under P (i + 1) rest j ≡ N j =
      λ j l. sym (under_past P i s rest j (λ q. omega (arith, r.0))) ∙ h j l in
      let ih = under_children P N (i + 1) rest r.1 (λ j l. later j (omega arith)) k in
      elim (cases_eq s.0 k) [
        | inl e ↦
            under_in P i s rest k e
            ∙ ap (λ f. node s.1 (P i) f (nodes_under P (i + 1) rest k)) (later i (omega arith))
            ∙ ap (node s.1 (P i) (N i)) ih
            ∙ sym (ap (λ l. forest (map (as_node P N) l)) (children_in i s rest k e))
        | inr e ↦ under_past P i s rest k e ∙ ih
            ∙ sym (ap (λ l. forest (map (as_node P N) l)) (children_past i s rest k e))
      ]

  pub nodes_under_children : (P : ℕ → List (List ℕ × V)) (slots : Slots) → IsRising 1 slots
      → (k : ℕ)
      → nodes_under P 1 slots k
      ≡ forest (map (as_node P (nodes_under P 1 slots)) (child_table 1 slots k))
  nodes_under_children P slots r k =
      under_children P (nodes_under P 1 slots) 1 slots r (λ j l. refl) k

  -- the properties of a slot and of all slots under it, in preorder
  abbrev pub props_from : (ℕ → List (List ℕ × V)) → Slots → ℕ → List (List (List ℕ × V))
  props_from P slots k = P k ∷ map (λ b. b.props) (preorder_of (nodes_under P 1 slots k))

  props_of_children : (P : ℕ → List (List ℕ × V)) (slots : Slots) (es : List (List ℕ × ℕ))
      → map (λ (b : Branch V). b.props) (preorder_of (forest (map (as_node P (nodes_under P 1
      slots)) es))) ≡ flat_map (λ e. props_from P slots e.1) es
  props_of_children P slots [] = refl
  props_of_children P slots (e ∷ es) =
      let props : Branch V → List (List ℕ × V) = λ b. b.props in
      ap (λ l. P e.1
      ∷ l) (map-append props (preorder_of (nodes_under P 1 slots e.1))
      (preorder_of (forest (map (as_node P (nodes_under P 1 slots)) es)))
      ∙ ap (λ l. map props (preorder_of (nodes_under P 1 slots e.1)) ++ l)
      (props_of_children P slots es))

  pub props_from_children : (P : ℕ → List (List ℕ × V)) (slots : Slots) → IsRising 1 slots → (k : ℕ)
      → props_from P slots k ≡ P k ∷ flat_map (λ e. props_from P slots e.1) (child_table 1 slots k)
  props_from_children P slots r k =
      ap (λ l. P k
      ∷ l) (ap (λ f. map (λ (b : Branch V). b.props) (preorder_of f))
      (nodes_under_children P slots r k) ∙ props_of_children P slots (child_table 1 slots k))

-- a child stands after its slot, within the list
pub child_behind : (i : ℕ) (rest : Slots) (k j : ℕ) (e : List ℕ × ℕ) → IsRising i rest
    → slice_get (child_table i rest k) j ≡ Some e → (k < e.1) × (e.1 < i + length rest)
child_behind i [] k j e r h = cc
child_behind i (s ∷ rest) k j e r h =
    elim (cases_eq s.0 k) [
      | inl p ↦ here j (sym (ap (λ l. slice_get l j) (children_in i s rest k p)) ∙ h) p
          (λ j' h'. child_behind (i + 1) rest k j' e r.1 h')
      | inr p ↦
          let v = child_behind (i + 1) rest k j e r.1
          (sym (ap (λ l. slice_get l j) (children_past i s rest k p)) ∙ h) in
          (v.0, omega (arith, v.1))
    ]
  where
    here : (j : ℕ) → slice_get ((s.1, i) ∷ child_table (i + 1) rest k) j ≡ Some e → s.0 ≡ k
        → ((j' : ℕ) → slice_get (child_table (i + 1) rest k) j' ≡ Some e
        → (k < e.1) × (e.1 < (i + 1) + length rest)) → (k < e.1) × (e.1 < i + length (s ∷ rest))
    here zero h p ih = let q : i ≡ e.1 = ap (λ (x : List ℕ × ℕ). x.1) (some_inner h) in
        (omega (arith, r.0), omega arith)
      where
        some_inner : ◌≡◌ {A = Option (List ℕ × ℕ)} (Some (s.1, i)) (Some e)
            → ◌≡◌ {A = List ℕ × ℕ} (s.1, i) e
        some_inner q = cc
    here (suc j) h p ih = let v = ih j h in (v.0, omega (arith, v.1))
