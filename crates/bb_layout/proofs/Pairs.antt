-- Pairs of items of a list, one before the other.
use Rattle.std.proofs.Common.{◌≡◌, ℕ, zero, suc, ◌<◌, Bool, true, false, ◌||◌, List, [], ◌∷◌, length, get_or, map, arith, refl, sym, ap, ◌∙◌}
use Rattle.std.proofs.lemmas.Bool.{false≢true}
use Rattle.std.specs.List.{list_any}
use Rattle.bb_layout.specs.Ranges.{some_pair}

or_left : (a b : Bool) → a ≡ true → (a || b) ≡ true
or_left true b h = refl
or_left false b h = absurd (false≢true h)

or_right : (a b : Bool) → b ≡ true → (a || b) ≡ true
or_right true b h = refl
or_right false b h = h

or_none : (a b : Bool) → a ≡ false → b ≡ false → (a || b) ≡ false
or_none false b h k = k
or_none true b h k = h

pub or_parts : (a b : Bool) → (a || b) ≡ false → (a ≡ false) × (b ≡ false)
or_parts false b h = (refl, h)
or_parts true b h = absurd (false≢true (sym h))

module _ {X : Type 0} where
  pub any_at : (p : X → Bool) (xs : List X) (k : ℕ) (d : X) → k < length xs → p (get_or xs k d) ≡ true → list_any p xs ≡ true
  any_at p [] k d h t = absurd (omega arith)
  any_at p (x ∷ xs) zero d h t = or_left (p x) (list_any p xs) t
  any_at p (x ∷ xs) (suc k) d h t = or_right (p x) (list_any p xs) (any_at p xs k d (omega arith) t)

  pub any_none : (p : X → Bool) (xs : List X) → ((k : ℕ) (d : X) → k < length xs → p (get_or xs k d) ≡ false) → list_any p xs ≡ false
  any_none p [] h = refl
  any_none p (x ∷ xs) h = or_none (p x) (list_any p xs) (h zero x (omega arith)) (any_none p xs (λ k d l. h (suc k) d (omega arith)))

  pub any_not : (p : X → Bool) (xs : List X) (k : ℕ) (d : X) → list_any p xs ≡ false → k < length xs → p (get_or xs k d) ≡ false
  any_not p [] k d h l = absurd (omega arith)
  any_not p (x ∷ xs) zero d h l = (or_parts (p x) (list_any p xs) h).0
  any_not p (x ∷ xs) (suc k) d h l = any_not p xs k d (or_parts (p x) (list_any p xs) h).1 (omega arith)

  -- two items that are so related
  pub pair_at : (r : X → X → Bool) (xs : List X) (i j : ℕ) (d : X) → i < j → j < length xs → r (get_or xs i d) (get_or xs j d) ≡ true → some_pair r xs ≡ true
  pair_at r [] i j d h l t = absurd (omega arith)
  pair_at r (x ∷ xs) zero zero d h l t = absurd (omega arith)
  pair_at r (x ∷ xs) zero (suc j) d h l t = or_left (list_any (r x) xs) (some_pair r xs) (any_at (r x) xs j d (omega arith) t)
  pair_at r (x ∷ xs) (suc i) zero d h l t = absurd (omega arith)
  pair_at r (x ∷ xs) (suc i) (suc j) d h l t = or_right (list_any (r x) xs) (some_pair r xs) (pair_at r xs i j d (omega arith) (omega arith) t)

  pub pair_none : (r : X → X → Bool) (xs : List X) → ((i j : ℕ) (d : X) → i < j → j < length xs → r (get_or xs i d) (get_or xs j d) ≡ false) → some_pair r xs ≡ false
  pair_none r [] h = refl
  pair_none r (x ∷ xs) h = or_none (list_any (r x) xs) (some_pair r xs)
      (any_none (r x) xs (λ k d l. h zero (suc k) d (omega arith) (omega arith)))
      (pair_none r xs (λ i j d l m. h (suc i) (suc j) d (omega arith) (omega arith)))

  pub pair_not : (r : X → X → Bool) (xs : List X) (i j : ℕ) (d : X) → some_pair r xs ≡ false → i < j → j < length xs → r (get_or xs i d) (get_or xs j d) ≡ false
  pair_not r [] i j d h l m = absurd (omega arith)
  pair_not r (x ∷ xs) zero zero d h l m = absurd (omega arith)
  pair_not r (x ∷ xs) zero (suc j) d h l m = any_not (r x) xs j d (or_parts (list_any (r x) xs) (some_pair r xs) h).0 (omega arith)
  pair_not r (x ∷ xs) (suc i) zero d h l m = absurd (omega arith)
  pair_not r (x ∷ xs) (suc i) (suc j) d h l m = pair_not r xs i j d (or_parts (list_any (r x) xs) (some_pair r xs) h).1 (omega arith) (omega arith)

module _ {X Y : Type 0} where
  any-map : (p : Y → Bool) (f : X → Y) (xs : List X) → list_any p (map f xs) ≡ list_any (λ x. p (f x)) xs
  any-map p f [] = refl
  any-map p f (x ∷ xs) = ap (λ b. p (f x) || b) (any-map p f xs)

  pub pair-map : (r : Y → Y → Bool) (f : X → Y) (xs : List X) → some_pair r (map f xs) ≡ some_pair (λ a b. r (f a) (f b)) xs
  pair-map r f [] = refl
  pair-map r f (x ∷ xs) = ap (λ b. b || some_pair r (map f xs)) (any-map (r (f x)) f xs) ∙ ap (λ b. list_any (λ y. r (f x) (f y)) xs || b) (pair-map r f xs)
