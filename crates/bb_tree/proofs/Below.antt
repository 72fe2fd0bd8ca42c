-- What stands under a slot, child by child.
use Rattle.std.proofs.Common.{◌≡◌, ℕ, ◌+◌, ◌<◌, List, [], ◌∷◌, ◌++◌, take, length, Some, None, zero, suc, sym, ◌∙◌, ap, arith, append_assoc, append-nil, slice_get}
use Rattle.std.specs.List.{flat_map}
use Rattle.bb_tree.specs.declared.slot.Slot.{Slot}
use Rattle.bb_tree.specs.Slots.{IsSound, spine, props_at, props_below, table_at}
use Rattle.bb_tree.proofs.Preorder.{props_from_children, child_behind}
use Rattle.bb_tree.proofs.Changing.{length_spine}

pub props_below_children : (slots : List Slot) → IsSound slots → (k : ℕ) → props_below slots k ≡ props_at slots k ∷ flat_map (λ e. props_below slots e.1) (table_at slots k)
props_below_children slots sound k =
    props_from_children (props_at slots) (spine slots) sound.rising k
    ∙ ap (λ l. props_at slots k ∷ flat_map (λ e. props_below slots e.1) l) (sym (sound.tables k))

-- the child at a place stands after its slot, within the list
pub child_within : (slots : List Slot) (k i : ℕ) (e : List ℕ × ℕ) → IsSound slots → k < length slots → slice_get (table_at slots k) i ≡ Some e → (k < e.1) × (e.1 < length slots)
child_within slots k i e sound h g =
    let b = child_behind 1 (spine slots) k i e sound.rising (ap (λ l. slice_get l i) (sym (sound.tables k)) ∙ g) in
    (b.0, omega (arith, b.1, length_spine slots (omega arith)))

pub take_next : {X : Type 0} (xs : List X) (i : ℕ) (x : X) → slice_get xs i ≡ Some x → take (i + 1) xs ≡ take i xs ++ x ∷ []
take_next [] i x h = cc
take_next (y ∷ xs) zero x h = let e : y ≡ x = cc in ap (λ z. z ∷ []) e
take_next (y ∷ xs) (suc i) x h =
    let e : suc i + 1 ≡ suc (i + 1) = omega arith in
    ap (λ n. take n (y ∷ xs)) e ∙ ap (λ l. y ∷ l) (take_next xs i x h)

pub flat_map_push : {X A : Type 0} (f : X → List A) (xs : List X) (x : X) → flat_map f (xs ++ x ∷ []) ≡ flat_map f xs ++ f x
flat_map_push f [] x = append-nil (f x)
flat_map_push f (y ∷ xs) x = ap (λ l. f y ++ l) (flat_map_push f xs x) ∙ sym (append_assoc (f y) (flat_map f xs) (f x))

pub no_child : {X : Type 0} (xs : List X) (i : ℕ) → i < length xs → slice_get xs i ≡ None → ⊥
no_child [] i h g = omega arith
no_child (y ∷ xs) zero h g = cc
no_child (y ∷ xs) (suc i) h g = no_child xs i (omega arith) g
