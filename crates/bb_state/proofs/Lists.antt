-- Lists as they are gone through, and what is found in them.
use Rattle.std.proofs.Common.{◌≡◌, ℕ, suc, ◌+◌, Bool, true, false, List, [], ◌∷◌, ◌++◌, Option, Some, None, arith, refl, sym, ap, ◌∙◌, inl, inr, length, take, drop, slice_get, ltb, add-one}
use Rattle.std.proofs.Math.Seq.{take-suc, drop-cons}
use Rattle.std.proofs.lemmas.Bool.{cases_lt}
use Rattle.std.proofs.lemmas.Bool.Decides.{nat_tests}
use Rattle.std.proofs.lemmas.List.{flat_map_more}
use Rattle.std.proofs.lemmas.List.Folds.{find_at}
use Rattle.std.proofs.lemmas.Option.{get_or_from_slice_get, slice_get_within, slice_get_past}
use Rattle.std.specs.List.{cons_option, filter_map, find, flat_map, position, position_or_len}
use Rattle.std.specs.Option.{option_and_then, option_or}

-- one item more
pub take_next : {X : Type 0} (xs : List X) (i : ℕ) (x : X) → slice_get xs i ≡ Some x → take (i + 1) xs ≡ take i xs ++ x ∷ []
take_next xs i x h =
    rw (add-one i) (take-suc xs i x (slice_get_within xs i x h) ∙ ap (λ y. take i xs ++ y ∷ []) (get_or_from_slice_get xs i x x h))

-- and what it adds to what the items before it make
pub flat_map_next : {X A : Type 0} (f : X → List A) (front : List A) (xs : List X) (i : ℕ) (x : X) → slice_get xs i ≡ Some x
    → (front ++ flat_map f (take i xs)) ++ f x ≡ front ++ flat_map f (take (i + 1) xs)
flat_map_next f front xs i x h =
    flat_map_more f front (take i xs) x ∙ ap (λ ys. front ++ flat_map f ys) (sym (take_next xs i x h))

-- the items from one on
pub drop_next : {X : Type 0} (xs : List X) (i : ℕ) (x : X) → slice_get xs i ≡ Some x → drop i xs ≡ x ∷ drop (i + 1) xs
drop_next xs i x h =
    rw (add-one i) (drop-cons xs i x (slice_get_within xs i x h) ∙ ap (λ y. y ∷ drop (suc i) xs) (get_or_from_slice_get xs i x x h))

first_cons : {X : Type 0} (o : Option X) (xs : List X) → slice_get (cons_option o xs) 0 ≡ option_or o (slice_get xs 0)
first_cons None xs = refl
first_cons (Some x) xs = refl

-- the first that is given for an item is what the next item gives, or else the first after it
pub first_next : {X Y : Type 0} (f : X → Option Y) (xs : List X) (i : ℕ) (x : X) → slice_get xs i ≡ Some x
    → slice_get (filter_map f (drop i xs)) 0 ≡ option_or (f x) (slice_get (filter_map f (drop (i + 1) xs)) 0)
first_next f xs i x h =
    ap (λ ys. slice_get (filter_map f ys) 0) (drop_next xs i x h) ∙ first_cons (f x) (filter_map f (drop (i + 1) xs))

-- the item that is found is the one at its position
pub find_place : {X : Type 0} (p : X → Bool) (xs : List X) → find p xs ≡ option_and_then (slice_get xs) (position p xs)
find_place p xs =
    elim (cases_lt (position_or_len p xs) (length xs)) [
      | inl lt ↦
          let inside : ltb (position_or_len p xs) (length xs) ≡ true = grind (arith, nat_tests) in
          rw inside (find_at p xs)
      | inr ge ↦
          let past : ltb (position_or_len p xs) (length xs) ≡ false = grind (arith, nat_tests) in
          rw past (find_at p xs ∙ slice_get_past xs (position_or_len p xs) ge)
    ]
