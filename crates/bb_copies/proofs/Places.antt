-- Elements of lists by their places, and lists that go together place by place.
use Rattle.std.proofs.Common.{◌≡◌, ℕ, zero, suc, ◌<◌, List, [], ◌∷◌, ◌++◌, length, take, map, Some, is_some, slice_get, true, refl, subst, arith}
use Rattle.std.proofs.lemmas.Option.{none-some, same_Some}
use Rattle.std.specs.List.{AllByRecursion, AllZip}

-- ---- an element at its place

pub get_append : {X : Type 0} (xs ys : List X) (i : ℕ) → i < length xs →
    slice_get (xs ++ ys) i ≡ slice_get xs i
get_append [] ys i inside = absurd (omega arith)
get_append (x ∷ xs) ys zero inside = refl
get_append (x ∷ xs) ys (suc i) inside = get_append xs ys i (omega arith)

pub get_seam : {X : Type 0} (xs : List X) (y : X) (ys : List X) →
    slice_get (xs ++ y ∷ ys) (length xs) ≡ Some y
get_seam [] y ys = refl
get_seam (x ∷ xs) y ys = get_seam xs y ys

pub get_take : {X : Type 0} (n : ℕ) (xs : List X) (i : ℕ) → i < n →
    slice_get (take n xs) i ≡ slice_get xs i
get_take zero xs i low = absurd (omega arith)
get_take (suc n) [] i low = refl
get_take (suc n) (x ∷ xs) zero low = refl
get_take (suc n) (x ∷ xs) (suc i) low = get_take n xs i (omega arith)

pub get_some : {X : Type 0} (xs : List X) (i : ℕ) → i < length xs → is_some (slice_get xs i) ≡ true
get_some [] i inside = absurd (omega arith)
get_some (x ∷ xs) zero inside = refl
get_some (x ∷ xs) (suc i) inside = get_some xs i (omega arith)

-- ---- two lists that go together

pub zip_weaker : {A B : Type 0} (R S : A → B → Type 0) → ((x : A) (y : B) → R x y → S x y) →
    (xs : List A) (ys : List B) → AllZip R xs ys → AllZip S xs ys
zip_weaker R S weaker [] [] each = tt
zip_weaker R S weaker [] (y ∷ ys) each = absurd each
zip_weaker R S weaker (x ∷ xs) [] each = absurd each
zip_weaker R S weaker (x ∷ xs) (y ∷ ys) each =
    (weaker x y each.0, zip_weaker R S weaker xs ys each.1)

-- from what holds at each place
pub zip_each : {A B : Type 0} (R : A → B → Type 0) (xs : List A) (ys : List B) →
    length ys ≡ length xs →
    ((i : ℕ) (x : A) (y : B) → slice_get xs i ≡ Some x → slice_get ys i ≡ Some y → R x y) →
    AllZip R xs ys
zip_each R [] [] same each = tt
zip_each R [] (y ∷ ys) same each = absurd (omega arith)
zip_each R (x ∷ xs) [] same each = absurd (omega arith)
zip_each R (x ∷ xs) (y ∷ ys) same each =
    (each zero x y refl refl, zip_each R xs ys (omega arith) (λ i. each (suc i)))

pub zip_at : {A B : Type 0} (R : A → B → Type 0) (xs : List A) (ys : List B) → AllZip R xs ys →
    (i : ℕ) (x : A) (y : B) → slice_get xs i ≡ Some x → slice_get ys i ≡ Some y → R x y
zip_at R [] ys each i x y here there = absurd (none-some x here)
zip_at R (z ∷ xs) [] each i x y here there = absurd each
zip_at R (z ∷ xs) (w ∷ ys) each zero x y here there =
    subst (λ x. R x y) (same_Some z x here) (subst (λ y. R z y) (same_Some w y there) each.0)
zip_at R (z ∷ xs) (w ∷ ys) each (suc i) x y here there = zip_at R xs ys each.1 i x y here there

-- what two functions make of one list
pub zip_maps : {K A B : Type 0} (R : A → B → Type 0) (f : K → A) (g : K → B) (ks : List K) →
    ((i : ℕ) (k : K) → slice_get ks i ≡ Some k → R (f k) (g k)) → AllZip R (map f ks) (map g ks)
zip_maps R f g [] each = tt
zip_maps R f g (k ∷ ks) each = (each zero k refl, zip_maps R f g ks (λ i. each (suc i)))

-- to each a partner
pub zip_chosen : {A B : Type 0} (R : A → B → Type 0) (xs : List A) →
    AllByRecursion (λ x. (y : B) × R x y) xs → (ys : List B) × AllZip R xs ys
zip_chosen R [] each = ([], tt)
zip_chosen R (x ∷ xs) each =
    let rest = zip_chosen R xs each.1 in
    (each.0.0 ∷ rest.0, (each.0.1, rest.1))

pub each_weaker : {X : Type 0} (P Q : X → Type 0) → ((x : X) → P x → Q x) → (xs : List X) →
    AllByRecursion P xs → AllByRecursion Q xs
each_weaker P Q weaker [] each = tt
each_weaker P Q weaker (x ∷ xs) each = (weaker x each.0, each_weaker P Q weaker xs each.1)
