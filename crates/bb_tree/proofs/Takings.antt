-- Distinct numbers, and the least that is free.
use Rattle.std.proofs.Common.{◌≡◌, ◌≢◌, ◌+◌, ◌++◌, ◌∷◌, [], ℕ, zero, suc, List, Bool, true, false, not, ◌&&◌, ◌||◌, eqb, Option, Some, None, refl, sym, ap, ◌∙◌, inl, inr}
use Rattle.std.proofs.Common.{take, drop, map, slice_get, append-nil, Ok, Err}
use Rattle.std.specs.List.{filter_map, cons_option}
use Rattle.std.specs.Option.{option_to_list}
use Rattle.bb_tree.specs.declared.tree_error.TreeError.{TreeError}
use Rattle.bb_tree.specs.declared.tree_error.TreeError.TheVariants.{NoMemory, DuplicatePhandle}
use Rattle.bb_tree.proofs.Surveying.{filter_map-append, cons_append}
use Rattle.bb_tree.proofs.Below.{take_next}
use Rattle.std.proofs.lemmas.Bool.{cases_Bool, cases_eq, eq-eqb, ne_eqb}
use Rattle.bb_tree.specs.Taking.{is_taken, TakesPhandle}
use Rattle.bb_tree.specs.Resolve.{is_distinct}

pub has-append : (xs ys : List ℕ) (n : ℕ) → is_taken (xs ++ ys) n ≡ (is_taken xs n || is_taken ys n)
has-append [] ys n = refl
has-append (x ∷ xs) ys n = elim (cases_Bool (eqb n x)) [ inl e ↦ rw e | inr e ↦ rw e (has-append xs ys n) ]

-- a number more that isn't there keeps a list distinct
pub is_distinct-push : (xs : List ℕ) (n : ℕ) → is_distinct xs ≡ true → is_taken xs n ≡ false → is_distinct (xs ++ n ∷ []) ≡ true
is_distinct-push [] n d h = refl
is_distinct-push (x ∷ xs) n d h =
    elim (cases_Bool (is_taken xs x)) [
      | inl e ↦ let d' = rw e at d in cc
      | inr e ↦
          let d' = rw e at d in
          elim (cases_eq n x) [
            | inl q ↦ let f = eq-eqb n x q in let h' = rw f at h in cc
            | inr q ↦
                let f = ne_eqb n x q in
                let h' = rw f at h in
                let g = ne_eqb x n (λ r. q (sym r)) in
                let none : is_taken (xs ++ n ∷ []) x ≡ false = has-append xs (n ∷ []) x ∙ (rw (e, g)) in
                rw none (is_distinct-push xs n d' h')
          ]
    ]

-- a number that comes again does not
pub is_distinct_again : (xs ys : List ℕ) (n : ℕ) → is_taken xs n ≡ true → is_distinct (xs ++ n ∷ ys) ≡ false
is_distinct_again [] ys n h = cc
is_distinct_again (x ∷ xs) ys n h =
    elim (cases_eq n x) [
      | inl q ↦
          let f = eq-eqb x n (sym q) in
          let again : is_taken (xs ++ n ∷ ys) x ≡ true = has-append xs (n ∷ ys) x ∙ (rw f (or_true (is_taken xs x))) in
          rw again
      | inr q ↦
          let f = ne_eqb n x q in
          let h' = rw f at h in
          and_false (not (is_taken (xs ++ n ∷ ys) x)) (is_distinct (xs ++ n ∷ ys)) (is_distinct_again xs ys n h')
    ]
  where
    or_true : (b : Bool) → (b || true) ≡ true
    or_true true = refl
    or_true false = refl

    and_false : (a b : Bool) → b ≡ false → (a && b) ≡ false
    and_false true b e = e
    and_false false b e = refl

pub Takes-done : (o : Option ℕ) (old new : List ℕ) (u : Unit {0}) → is_distinct old ≡ true → TakesPhandle o old new (Ok u) → (is_distinct new ≡ true) × (new ≡ old ++ option_to_list o)
Takes-done None old new u d t = (ap is_distinct t ∙ d, t ∙ sym (append-nil old))
Takes-done (Some n) old new u d t = (ap is_distinct t.1 ∙ is_distinct-push old n d t.0, t.1)

cons_split : {X : Type 0} (f : X → Option ℕ) (xs : List X) (i : ℕ) (x : X) → slice_get xs i ≡ Some x → filter_map f xs ≡ filter_map f (take i xs) ++ cons_option (f x) (filter_map f (drop (suc i) xs))
cons_split f [] i x g = cc
cons_split f (y ∷ xs) zero x g = let e : y ≡ x = cc in ap (λ z. cons_option (f z) (filter_map f xs)) e
cons_split f (y ∷ xs) (suc i) x g = ap (cons_option (f y)) (cons_split f xs i x g) ∙ cons_append (f y) (filter_map f (take i xs)) (cons_option (f x) (filter_map f (drop (suc i) xs)))

pub Takes-next : {X : Type 0} (f : X → Option ℕ) (xs : List X) (i : ℕ) (x : X) (old new : List ℕ) (u : Unit {0}) → slice_get xs i ≡ Some x → is_distinct old ≡ true → old ≡ filter_map f (take i xs) → TakesPhandle (f x) old new (Ok u) → (is_distinct new ≡ true) × (new ≡ filter_map f (take (i + 1) xs))
Takes-next f xs i x old new u g d k t =
    let n = Takes-done (f x) old new u d t in
    (n.0, n.1 ∙ ap (λ l. l ++ option_to_list (f x)) k ∙ ap (λ l. filter_map f (take i xs) ++ l) (last (f x)) ∙ sym (filter_map-append f (take i xs) (x ∷ [])) ∙ ap (filter_map f) (sym (take_next xs i x g)))
  where
    last : (o : Option ℕ) → option_to_list o ≡ cons_option o []
    last None = refl
    last (Some n) = refl

pub Takes-twice : {X : Type 0} (f : X → Option ℕ) (xs : List X) (i : ℕ) (x : X) (old new : List ℕ) (e : TreeError) → slice_get xs i ≡ Some x → old ≡ filter_map f (take i xs) → TakesPhandle (f x) old new (Err e) → e ≢ NoMemory → (e ≡ DuplicatePhandle) × (is_distinct (filter_map f xs) ≡ false)
Takes-twice f xs i x old new e g k t m = go (f x) refl t
  where
    go : (o : Option ℕ) → f x ≡ o → TakesPhandle o old new (Err e) → (e ≡ DuplicatePhandle) × (is_distinct (filter_map f xs) ≡ false)
    go None q t = absurd (t m)
    go (Some n) q t =
        let v = t m in (
          v.0,
          ap is_distinct (cons_split f xs i x g ∙ ap (λ l. l ++ cons_option (f x) (filter_map f (drop (suc i) xs))) (sym k) ∙ ap (λ o. old ++ cons_option o (filter_map f (drop (suc i) xs))) q)
              ∙ is_distinct_again old (filter_map f (drop (suc i) xs)) n v.1,
        )

pub filter_map-map : {X Y Z : Type 0} (f : X → Y) (g : Y → Option Z) (xs : List X) → filter_map g (map f xs) ≡ filter_map (λ x. g (f x)) xs
filter_map-map f g [] = refl
filter_map-map f g (x ∷ xs) = ap (cons_option (g (f x))) (filter_map-map f g xs)
