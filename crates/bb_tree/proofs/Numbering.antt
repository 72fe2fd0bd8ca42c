-- The phandles of a tree after one node gets one, and the least number that is free.
use Rattle.std.proofs.Common.{◌≡◌, ◌≢◌, ◌+◌, ◌<◌, ◌≤◌, ◌++◌, ◌∷◌, [], ℕ, zero, suc, List, Bool, true, false, not, ◌||◌, ◌==◌, cond, eqb, length, Option, Some, None, unwrap_or, refl, sym, ap, ◌∙◌, arith, inl, inr}
use Rattle.std.specs.List.{list_any, find, filter_map, cons_option, range_with_len}
use Rattle.std.specs.Option.{option_and_then}
use Rattle.std.specs.Str.{bytes_eq}
use Rattle.std.proofs.lemmas.Bool.{cases_Bool, cases_eq, eq-eqb, ne_eqb}
use Rattle.bb_tree.specs.Node.{Forest, empty, node, Branch, preorder, preorder_of}
use Rattle.bb_tree.specs.Paths.{child_of, node_at}
use Rattle.bb_tree.specs.Merge.{in_child, reached}
use Rattle.bb_tree.proofs.Merging.{in_here, in_there}

abbrev is_in : ℕ → List ℕ → Bool
is_in m taken = list_any (λ x. m == x) taken

is_in-append : (m : ℕ) (xs ys : List ℕ) → is_in m (xs ++ ys) ≡ (is_in m xs || is_in m ys)
is_in-append m [] ys = refl
is_in-append m (x ∷ xs) ys = elim (cases_Bool (eqb m x)) [ inl e ↦ rw e | inr e ↦ rw e (is_in-append m xs ys) ]

swap_or : (a b c : Bool) → (a || (b || c)) ≡ (b || (a || c))
swap_or true true c = refl
swap_or true false c = refl
swap_or false b c = refl

assoc_or : (a b c : Bool) → ((a || b) || c) ≡ (a || (b || c))
assoc_or true b c = refl
assoc_or false b c = refl

is_in-cons : (m : ℕ) (o : Option ℕ) (xs : List ℕ) → is_in m (cons_option o xs) ≡ (is_in m (cons_option o []) || is_in m xs)
is_in-cons m None xs = refl
is_in-cons m (Some n) xs = elim (cases_Bool (eqb m n)) [ inl e ↦ rw e | inr e ↦ rw e ]

filter_map-append' : {X : Type 0} (f : X → Option ℕ) (xs ys : List X) → filter_map f (xs ++ ys) ≡ filter_map f xs ++ filter_map f ys
filter_map-append' f [] ys = refl
filter_map-append' f (x ∷ xs) ys = ap (cons_option (f x)) (filter_map-append' f xs ys) ∙ go (f x) (filter_map f xs) (filter_map f ys)
  where
    go : (o : Option ℕ) (a b : List ℕ) → cons_option o (a ++ b) ≡ cons_option o a ++ b
    go None a b = refl
    go (Some n) a b = refl

module _ {V : Type 0} (q : List (List ℕ × V) → Option ℕ) where
  abbrev pub number : Branch V → Option ℕ
  number b = q b.props

  abbrev pub numbers : Branch V → List ℕ
  numbers b = filter_map number (preorder b)

  abbrev numbers_of : Forest V → List ℕ
  numbers_of f = filter_map number (preorder_of f)

  -- the number n is there besides those that were
  abbrev Adds : ℕ → ℕ → List ℕ → List ℕ → Type 0
  Adds m n old new = is_in m new ≡ (eqb m n || is_in m old)

  child_none : (x y : List ℕ) (ps : List (List ℕ × V)) (ks rest : Forest V) (c : Branch V) → bytes_eq x y ≡ false → child_of x (node y ps ks rest) ≡ Some c → child_of x rest ≡ Some c
  child_none x y ps ks rest c b e = let e' = rw b at e in e'

  child_same : (x y : List ℕ) (ps : List (List ℕ × V)) (ks rest : Forest V) (c : Branch V) → bytes_eq x y ≡ true → child_of x (node y ps ks rest) ≡ Some c → record { name = y; props = ps; nodes = ks } ≡ c
  child_same x y ps ks rest c b e = let e' = rw b at e in cc

  numbers_in_child : (m n : ℕ) (x : List ℕ) (G : Branch V → Branch V) (f : Forest V) (c : Branch V) → child_of x f ≡ Some c → Adds m n (numbers c) (numbers (G c)) → Adds m n (numbers_of f) (numbers_of (in_child x G f))
  numbers_in_child m n x G empty c e h = cc
  numbers_in_child m n x G (node y ps ks rest) c e h =
      let b : Branch V = record { name = y; props = ps; nodes = ks } in
      elim (cases_Bool (bytes_eq x y)) [
        | inl t ↦
            let same : b ≡ c = child_same x y ps ks rest c t e in
            ap (λ f. is_in m (numbers_of f)) (in_here x y G ps ks rest t)
            ∙ ap (is_in m) (filter_map-append' number (preorder (G b)) (preorder_of rest)) ∙ is_in-append m (numbers (G b)) (numbers_of rest)
            ∙ ap (λ z. is_in m (numbers (G z)) || is_in m (numbers_of rest)) same
            ∙ ap (λ z. z || is_in m (numbers_of rest)) h ∙ assoc_or (eqb m n) (is_in m (numbers c)) (is_in m (numbers_of rest))
            ∙ ap (λ z. eqb m n || z) (ap (λ z. is_in m (numbers z) || is_in m (numbers_of rest)) (sym same) ∙ sym (is_in-append m (numbers b) (numbers_of rest)) ∙ ap (is_in m) (sym (filter_map-append' number (preorder b) (preorder_of rest))))
        | inr t ↦
            let ih = numbers_in_child m n x G rest c (child_none x y ps ks rest c t e) h in
            ap (λ f. is_in m (numbers_of f)) (in_there x y G ps ks rest t)
            ∙ ap (is_in m) (filter_map-append' number (preorder b) (preorder_of (in_child x G rest))) ∙ is_in-append m (numbers b) (numbers_of (in_child x G rest))
            ∙ ap (λ z. is_in m (numbers b) || z) ih ∙ swap_or (is_in m (numbers b)) (eqb m n) (is_in m (numbers_of rest))
            ∙ ap (λ z. eqb m n || z) (sym (is_in-append m (numbers b) (numbers_of rest)) ∙ ap (is_in m) (sym (filter_map-append' number (preorder b) (preorder_of rest))))
      ]

  and_then_child : (o : Option (Branch V)) (ns : List (List ℕ)) (b : Branch V) → option_and_then (node_at ns) o ≡ Some b → (c : Branch V) × (o ≡ Some c) × (node_at ns c ≡ Some b)
  and_then_child None ns b e = cc
  and_then_child (Some c) ns b e = (c, refl, e)

  -- where a node without a number gets one, that number is there besides those that were
  pub numbers_reached : (m n : ℕ) (F : Branch V → Branch V) (ns : List (List ℕ)) (t b : Branch V) → node_at ns t ≡ Some b → number b ≡ None → number (F b) ≡ Some n → ((x : Branch V) → (F x).nodes ≡ x.nodes) → Adds m n (numbers t) (numbers (reached ns F t))
  numbers_reached m n F [] t b e none some keeps =
      let same : t ≡ b = cc in
      ap (λ z. is_in m (cons_option (number (F z)) (numbers_of (F z).nodes))) same
      ∙ ap (λ o. is_in m (cons_option o (numbers_of (F b).nodes))) some ∙ ap (λ f. is_in m (n ∷ numbers_of f)) (keeps b)
      ∙ ap (λ o. eqb m n || is_in m (cons_option o (numbers_of b.nodes))) (sym none) ∙ ap (λ z. eqb m n || is_in m (numbers z)) (sym same)
  numbers_reached m n F (x ∷ ns) t b e none some keeps =
      let v = and_then_child (child_of x t.nodes) ns b e in
      let inner = numbers_reached m n F ns v.0 b v.2 none some keeps in
      is_in-cons m (number t) (numbers_of (in_child x (reached ns F) t.nodes))
      ∙ ap (λ z. is_in m (cons_option (number t) []) || z) (numbers_in_child m n x (reached ns F) t.nodes v.0 v.1 inner)
      ∙ swap_or (is_in m (cons_option (number t) [])) (eqb m n) (is_in m (numbers_of t.nodes))
      ∙ ap (λ z. eqb m n || z) (sym (is_in-cons m (number t) (numbers_of t.nodes)))

-- a number that isn't in a list, all before it being there, is at most one more than its length
abbrev without : ℕ → List ℕ → List ℕ
without n [] = []
without n (x ∷ xs) = cond (eqb n x) xs (x ∷ without n xs)

length_without : (n : ℕ) (xs : List ℕ) → is_in n xs ≡ true → length (without n xs) + 1 ≡ length xs
length_without n [] h = cc
length_without n (x ∷ xs) h =
    elim (cases_Bool (eqb n x)) [
      | inl e ↦ rw e (omega arith)
      | inr e ↦ let h' = rw e at h in let ih = length_without n xs h' in rw e (omega arith)
    ]

is_in_without : (m n : ℕ) (xs : List ℕ) → m ≢ n → is_in m xs ≡ true → is_in m (without n xs) ≡ true
is_in_without m n [] d h = cc
is_in_without m n (x ∷ xs) d h =
    elim (cases_eq n x) [
      | inl e ↦
          let f = eq-eqb n x e in
          let g = ne_eqb m x (λ r. d (r ∙ sym e)) in
          let h' = rw g at h in rw f h'
      | inr e ↦
          let f = ne_eqb n x e in
          elim (cases_Bool (eqb m x)) [
            | inl g ↦ rw (f, g)
            | inr g ↦ let h' = rw g at h in rw (f, g) (is_in_without m n xs d h')
          ]
    ]

pub few_taken : (n : ℕ) (xs : List ℕ) → ((m : ℕ) → 1 ≤ m → m < n → is_in m xs ≡ true) → n ≤ length xs + 1
few_taken zero xs h = omega arith
few_taken (suc zero) xs h = omega arith
few_taken (suc (suc n)) xs h =
    let last = h (suc n) (omega arith) (omega arith) in
    let ih = few_taken (suc n) (without (suc n) xs) (λ m a b. is_in_without m (suc n) xs (λ q. omega arith) (h m a (omega arith))) in
    omega (arith, length_without (suc n) xs last)

find_from : (xs : List ℕ) (i len n : ℕ) → i ≤ n → n < i + len → ((m : ℕ) → i ≤ m → m < n → is_in m xs ≡ true) → is_in n xs ≡ false → find (λ m. not (is_in m xs)) (range_with_len i len) ≡ Some n
find_from xs i zero n a b h f = absurd (omega arith)
find_from xs i (suc len) n a b h f =
    elim (cases_eq i n) [
      | inl e ↦ let g : is_in i xs ≡ false = ap (λ j. is_in j xs) e ∙ f in rw g (ap Some e)
      | inr e ↦ let g = h i (omega arith) (omega arith) in rw g (find_from xs (i + 1) len n (omega arith) (omega arith) (λ m c d. h m (omega arith) d) f)
    ]

pub least_is : (xs : List ℕ) (n : ℕ) → 1 ≤ n → ((m : ℕ) → 1 ≤ m → m < n → is_in m xs ≡ true) → is_in n xs ≡ false → unwrap_or (find (λ m. not (is_in m xs)) (range_with_len 1 (length xs + 1))) 0 ≡ n
least_is xs n a h f =
    let few = few_taken n xs h in
    ap (λ o. unwrap_or o 0) (find_from xs 1 (length xs + 1) n a (omega arith) h f)
