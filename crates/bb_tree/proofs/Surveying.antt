-- One turn of a loop that surveys references.
use Rattle.std.proofs.Common.{◌≡◌, ◌+◌, ◌++◌, ◌∷◌, [], ℕ, List, Bool, map, take, drop, Option, Some, None, Result, Err, zero, suc, refl, sym, ap, ◌∙◌, subst, append_assoc, append-nil, slice_get}
use Rattle.std.specs.List.{find, filter_map, flat_map, cons_option}
use Rattle.std.specs.Option.{option_map, option_to_list}
use Rattle.bb_tree.specs.declared.part.Part.{Part}
use Rattle.bb_tree.specs.declared.slot.Slot.{Slot}
use Rattle.bb_tree.specs.declared.tree_error.TreeError.{TreeError}
use Rattle.bb_tree.specs.declared.tree_error.TreeError.TheVariants.{NoSuchLabel}
use Rattle.bb_tree.specs.Resolve.{Reference, reference_in}
use Rattle.bb_tree.specs.Draft.{Labels}
use Rattle.bb_tree.specs.SlotValues.{Surveys, is_dangling, cell_slot, references_of_part}
use Rattle.bb_tree.proofs.Nodes.{find-append, first_some}
use Rattle.bb_tree.proofs.Below.{take_next, flat_map_push}

pub cons_append : {Y : Type 0} (o : Option Y) (ys zs : List Y)
    → cons_option o (ys ++ zs) ≡ cons_option o ys ++ zs
cons_append None ys zs = refl
cons_append (Some y) ys zs = refl

pub filter_map-append : {X Y : Type 0} (f : X → Option Y) (xs ys : List X)
    → filter_map f (xs ++ ys) ≡ filter_map f xs ++ filter_map f ys
filter_map-append f [] ys = refl
filter_map-append f (x ∷ xs) ys = ap (cons_option (f x)) (filter_map-append f xs ys)
    ∙ cons_append (f x) (filter_map f xs) (filter_map f ys)

cons_to_list : {Y : Type 0} (o : Option Y) (ys : List Y) → cons_option o ys ≡ option_to_list o ++ ys
cons_to_list None ys = refl
cons_to_list (Some y) ys = refl

pub references_of_parts : (parts : List Part)
    → filter_map reference_in parts ≡ flat_map references_of_part parts
references_of_parts [] = refl
references_of_parts (x ∷ parts) = ap (cons_option (reference_in x)) (references_of_parts parts)
    ∙ cons_to_list (reference_in x) (flat_map references_of_part parts)

pub flat_map-map : {X Y A : Type 0} (f : X → Y) (g : Y → List A) (xs : List X)
    → flat_map g (map f xs) ≡ flat_map (λ x. g (f x)) xs
flat_map-map f g [] = refl
flat_map-map f g (x ∷ xs) = ap (λ l. g (f x) ++ l) (flat_map-map f g xs)

-- the references so far are all found, and their slots are added
pub record Surveyed (labels : Labels) (slots : List Slot) (rs : List Reference)
    (old new : List ℕ) : Type 0 where
  pub none : find (is_dangling labels slots) rs ≡ None
  pub added : new ≡ old ++ filter_map (cell_slot labels slots) rs

pub Surveyed-nothing : (labels : Labels) (slots : List Slot) (old : List ℕ)
    → Surveyed labels slots [] old old
Surveyed-nothing labels slots old = record { none = refl; added = sym (append-nil old) }

pub Surveyed-more : {X : Type 0} (labels : Labels) (slots : List Slot) (R : X → List Reference)
    (xs : List X) (i : ℕ) (x : X) (old now new : List ℕ) → slice_get xs i ≡ Some x
    → Surveyed labels slots (flat_map R (take i xs)) old now
    → (find (is_dangling labels slots) (R x) ≡ None)
    × (new ≡ now ++ filter_map (cell_slot labels slots) (R x))
    → Surveyed labels slots (flat_map R (take (i + 1) xs)) old new
Surveyed-more labels slots R xs i x old now new g h n =
    let lost = is_dangling labels slots in
    let cell = cell_slot labels slots in
    let done = flat_map R (take i xs) in
    let next : flat_map R (take (i + 1) xs) ≡ done ++ R x = ap (flat_map R) (take_next xs i x g)
    ∙ flat_map_push R (take i xs) x in
    record {
      none = ap (find lost) next ∙ find-append lost done (R x)
          ∙ ap (λ o. first_some o (find lost (R x))) h.none ∙ n.0;
      added = n.1 ∙ ap (λ l. l ++ filter_map cell (R x)) h.added
          ∙ append_assoc old (filter_map cell done) (filter_map cell (R x))
          ∙ ap (λ l. old ++ l) (sym (filter_map-append cell done (R x))
          ∙ ap (filter_map cell) (sym next));
    }

split_at : {X A : Type 0} (R : X → List A) (xs : List X) (i : ℕ) (x : X) → slice_get xs i ≡ Some x
    → flat_map R xs ≡ flat_map R (take i xs) ++ (R x ++ flat_map R (drop (suc i) xs))
split_at R [] i x g = cc
split_at R (y ∷ xs) zero x g = let e : y ≡ x = cc in ap (λ z. R z ++ flat_map R xs) e
split_at R (y ∷ xs) (suc i) x g = ap (λ l. R y ++ l) (split_at R xs i x g)
    ∙ sym (append_assoc (R y) (flat_map R (take i xs)) (R x ++ flat_map R (drop (suc i) xs)))

-- where the first reference is lost among these, it is the first of all
pub Surveys-lost : {X : Type 0} (labels : Labels) (slots : List Slot) (R : X → List Reference)
    (xs : List X) (i : ℕ) (x : X) (old now new last : List ℕ) (r : Result (Unit {0}) TreeError)
    (e : TreeError) → r ≡ Err e → slice_get xs i ≡ Some x
    → Surveyed labels slots (flat_map R (take i xs)) old now
    → Surveys labels slots (R x) now new (Err e) → Surveys labels slots (flat_map R xs) old last r
Surveys-lost labels slots R xs i x old now new last r e q g h l =
    subst (λ (s : Result (Unit {0}) TreeError). Surveys labels slots (flat_map R xs) old last s)
    (sym q) (λ m. first (l m))
  where
    lost : Reference → Bool
    lost = is_dangling labels slots

    rest : List Reference
    rest = flat_map R (drop (suc i) xs)

    err : Reference → TreeError
    err ref = NoSuchLabel ref.at

    all : find lost (flat_map R xs) ≡ first_some (find lost (R x)) (find lost rest)
    all = ap (find lost) (split_at R xs i x g)
        ∙ find-append lost (flat_map R (take i xs)) (R x ++ rest)
        ∙ ap (λ o. first_some o (find lost (R x ++ rest))) h.none ∙ find-append lost (R x) rest

    some : (o p : Option Reference) → option_map err o ≡ Some e
        → option_map err (first_some o p) ≡ Some e
    some None p v = cc
    some (Some ref) p v = v

    first : option_map err (find lost (R x)) ≡ Some e
        → option_map err (find lost (flat_map R xs)) ≡ Some e
    first v = ap (option_map err) all ∙ some (find lost (R x)) (find lost rest) v
