-- Numbers of a table that are set one after the other, each in its own place.
use Rattle.std.proofs.Common.{◌≡◌, ℕ, zero, suc, ◌+◌, ◌-◌, ◌<◌, ◌≤◌, ◌⊎◌, List, [], ◌∷◌, ◌++◌, All, AllPairs, arith, drop, fold, get_or, inl, inr, length, length-append, map, refl, subst, sym, take, ap, ◌∙◌}
use Rattle.std.proofs.lemmas.Bool.{cases_lt}
use Rattle.std.proofs.lemmas.List.{drop-append-le, length-drop, length-take-le, take-append-drop, take-append-le}
use Rattle.std.proofs.lemmas.List.Sums.{fold_more}
use Rattle.std.specs.Int.{w32, from_le_bytes, to_le_bytes}
use Rattle.std.specs.List.{slice_range}
use Rattle.bb_vars.proofs.TableRanges.{get_or-table_with, length-table_with, slice_range-table_with}
use Rattle.bb_vars.specs.Table.{table_with}
use Rattle.bb_chooser.specs.After.{as_word}
use Rattle.bb_chooser.specs.Binding.{IsInside, ShareNothing}
use Rattle.bb_chooser.specs.Choosing.{number_at, with_number}
use Rattle.bb_chooser.specs.Others.{IsOutside}
use Rattle.bb_chooser.specs.declared.bound_target.BoundTarget.{BoundTarget}

-- ---- facts of each target, by recursion

abbrev pub EachOf : (BoundTarget → Type 0) → List BoundTarget → Type 0
EachOf P [] = Unit {0}
EachOf P (t ∷ ts) = P t × EachOf P ts

pub each_of : (P : BoundTarget → Type 0) (ts : List BoundTarget) → All P ts → EachOf P ts
each_of P [] h = tt
each_of P (t ∷ ts) h = (h 0 t (omega arith), each_of P ts (λ i d l. h (suc i) d (omega arith)))

pub each_map : (P Q : BoundTarget → Type 0) (ts : List BoundTarget) → ((t : BoundTarget) → P t → Q t) → EachOf P ts → EachOf Q ts
each_map P Q [] f h = tt
each_map P Q (t ∷ ts) f h = (f t h.0, each_map P Q ts f h.1)

pub each_both : (P Q R : BoundTarget → Type 0) (ts : List BoundTarget) → ((t : BoundTarget) → P t → Q t → R t) → EachOf P ts → EachOf Q ts → EachOf R ts
each_both P Q R [] f h g = tt
each_both P Q R (t ∷ ts) f h g = (f t h.0 g.0, each_both P Q R ts f h.1 g.1)

pub each_refl : {X : Type 0} (f : BoundTarget → X) (ts : List BoundTarget) → EachOf (λ t. f t ≡ f t) ts
each_refl f [] = tt
each_refl f (t ∷ ts) = (refl, each_refl f ts)

abbrev pub PairsOf : (BoundTarget → BoundTarget → Type 0) → List BoundTarget → Type 0
PairsOf R [] = Unit {0}
PairsOf R (t ∷ ts) = EachOf (R t) ts × PairsOf R ts

pub pairs_of : (R : BoundTarget → BoundTarget → Type 0) (ts : List BoundTarget) → AllPairs R ts → PairsOf R ts
pairs_of R [] h = tt
pairs_of R (t ∷ ts) h = (each_of (R t) ts (λ j d l. h 0 (suc j) d (omega arith) (omega arith)), pairs_of R ts (λ i j d b l. h (suc i) (suc j) d (omega arith) (omega arith)))

pub map_each : {X : Type 0} (f g : BoundTarget → X) (ts : List BoundTarget) → EachOf (λ t. f t ≡ g t) ts → map f ts ≡ map g ts
map_each f g [] h = refl
map_each f g (t ∷ ts) h = λ j. h.0 j ∷ map_each f g ts h.1 j

-- ---- one number

pub flip : (p q : ℕ) → ShareNothing p q → ShareNothing q p
flip p q h = λ k a b c d. h k c d a b

apart_range : (p q : ℕ) → ShareNothing p q → (p + 4 ≤ q) ⊎ (q + 4 ≤ p)
apart_range p q h =
    elim (cases_lt q (p + 4)) [
      | inr above ↦ inl above
      | inl low ↦ elim (cases_lt p (q + 4)) [
        | inr below ↦ inr below
        | inl near ↦ elim (cases_lt p q) [
          | inl before ↦ absurd (h q (omega arith) low (omega arith) (omega arith))
          | inr behind ↦ absurd (h p (omega arith) (omega arith) behind near)
        ]
      ]
    ]

-- ---- ranges beside one that is set

drop_past : (xs ys : List ℕ) (p : ℕ) → length xs ≤ p → drop p (xs ++ ys) ≡ drop (p - length xs) ys
drop_past [] ys p h = let e : p ≡ p - 0 = omega arith in ap (λ n. drop n ys) e
drop_past (x ∷ xs) ys zero h = absurd (omega arith)
drop_past (x ∷ xs) ys (suc p) h =
    let e : p - length xs ≡ suc p - length (x ∷ xs) = omega arith in
    drop_past xs ys p (omega arith) ∙ ap (λ n. drop n ys) e

drop_behind : (table : List ℕ) (at : ℕ) (bytes : List ℕ) (p : ℕ) → at + length bytes ≤ length table → at + length bytes ≤ p → drop p (table_with table at bytes) ≡ drop p table
drop_behind table at bytes p inside behind =
    let e = at + length bytes in
    let before = take at table ++ bytes in
    let front_len : length before ≡ e = length-append (take at table) bytes ∙ ap (λ n. n + length bytes) (length-take-le at table (omega arith)) in
    let table_len : length (take e table) ≡ e = length-take-le e table inside in
    drop_past before (drop e table) p (omega (arith, front_len, behind)) ∙ ap (λ n. drop (p - n) (drop e table)) (front_len ∙ sym table_len)
    ∙ sym (drop_past (take e table) (drop e table) p (omega (arith, table_len, behind))) ∙ ap (drop p) (take-append-drop e table)

range_front : (xs ys : List ℕ) (p : ℕ) → p + 4 ≤ length xs → take 4 (drop p (xs ++ ys)) ≡ take 4 (drop p xs)
range_front xs ys p inside =
    ap (take 4) (drop-append-le p xs ys (omega arith)) ∙ take-append-le 4 (drop p xs) ys (omega (arith, length-drop p xs))

four : (p : ℕ) (xs : List ℕ) → slice_range xs p (p + 4) ≡ take 4 (drop p xs)
four p xs = let e : p + 4 - p ≡ 4 = omega arith in ap (λ n. take n (drop p xs)) e

range_apart : (table : List ℕ) (at : ℕ) (bytes : List ℕ) (p : ℕ) → at + length bytes ≤ length table → (p + 4 ≤ at) ⊎ (at + length bytes ≤ p)
    → slice_range (table_with table at bytes) p (p + 4) ≡ slice_range table p (p + 4)
range_apart table at bytes p inside (inl before) =
    let front = take at table in
    let len : length front ≡ at = length-take-le at table (omega arith) in
    four p (table_with table at bytes)
    ∙ range_front (front ++ bytes) (drop (at + length bytes) table) p (omega (arith, length-append front bytes, len, before))
    ∙ range_front front bytes p (omega (arith, len, before))
    ∙ sym (range_front front (drop at table) p (omega (arith, len, before)))
    ∙ ap (λ l. take 4 (drop p l)) (take-append-drop at table) ∙ sym (four p table)
range_apart table at bytes p inside (inr behind) = four p (table_with table at bytes) ∙ ap (take 4) (drop_behind table at bytes p inside behind) ∙ sym (four p table)

pub number_same : (table : List ℕ) (at n : ℕ) → at + 4 ≤ length table → number_at (with_number table at n) at ≡ as_word n
number_same table at n inside = ap (from_le_bytes w32) (slice_range-table_with table at (to_le_bytes w32 n) inside)

pub number_other : (table : List ℕ) (at n p : ℕ) → at + 4 ≤ length table → ShareNothing p at → number_at (with_number table at n) p ≡ number_at table p
number_other table at n p inside apart =
    elim (apart_range p at apart) [
      | inl before ↦ ap (from_le_bytes w32) (range_apart table at (to_le_bytes w32 n) p inside (inl before))
      | inr behind ↦ ap (from_le_bytes w32) (range_apart table at (to_le_bytes w32 n) p inside (inr behind))
    ]

pub number_length : (table : List ℕ) (at n : ℕ) → at + 4 ≤ length table → length (with_number table at n) ≡ length table
number_length table at n inside = length-table_with table at (to_le_bytes w32 n) inside

pub number_outside : (table : List ℕ) (at n k : ℕ) → at + 4 ≤ length table → IsOutside at k → get_or (with_number table at n) k 0 ≡ get_or table k 0
number_outside table at n k inside outside = get_or-table_with table at (to_le_bytes w32 n) inside k outside

-- ---- a number of each target

module _ (place value : BoundTarget → ℕ) where
  abbrev pub written : List ℕ → List BoundTarget → List ℕ
  written table ts = fold (λ all t. with_number all (place t) (value t)) table ts

  pub written_more : (table : List ℕ) (ts : List BoundTarget) (i : ℕ) (t : BoundTarget) → i < length ts → t ≡ get_or ts i t
      → written table (take (i + 1) ts) ≡ with_number (written table (take i ts)) (place t) (value t)
  written_more table ts i t inside is =
      let put : List ℕ → BoundTarget → List ℕ = λ all u. with_number all (place u) (value u) in
      fold_more put table ts i t inside ∙ ap (put (written table (take i ts))) (sym is)

  pub written_length : (len : ℕ) (ts : List BoundTarget) (table : List ℕ) → length table ≡ len → EachOf (λ t. place t + 4 ≤ len) ts → length (written table ts) ≡ len
  written_length len [] table sized inside = sized
  written_length len (t ∷ ts) table sized inside =
      written_length len ts (with_number table (place t) (value t)) (number_length table (place t) (value t) (omega (arith, sized, inside.0)) ∙ sized) inside.1

  pub written_other : (len : ℕ) (ts : List BoundTarget) (table : List ℕ) (p : ℕ) → length table ≡ len → EachOf (λ t. place t + 4 ≤ len) ts
      → EachOf (λ t. ShareNothing p (place t)) ts → number_at (written table ts) p ≡ number_at table p
  written_other len [] table p sized inside apart = refl
  written_other len (t ∷ ts) table p sized inside apart =
      written_other len ts (with_number table (place t) (value t)) p (number_length table (place t) (value t) (omega (arith, sized, inside.0)) ∙ sized) inside.1 apart.1
      ∙ number_other table (place t) (value t) p (omega (arith, sized, inside.0)) apart.0

  pub written_same : (len : ℕ) (ts : List BoundTarget) (table : List ℕ) → length table ≡ len → EachOf (λ t. place t + 4 ≤ len) ts
      → PairsOf (λ t u. ShareNothing (place t) (place u)) ts → EachOf (λ t. number_at (written table ts) (place t) ≡ as_word (value t)) ts
  written_same len [] table sized inside apart = tt
  written_same len (t ∷ ts) table sized inside apart =
      let next = with_number table (place t) (value t) in
      let here : place t + 4 ≤ length table = omega (arith, sized, inside.0) in
      let same_length : length next ≡ len = number_length table (place t) (value t) here ∙ sized in
      (written_other len ts next (place t) same_length inside.1 apart.0 ∙ number_same table (place t) (value t) here, written_same len ts next same_length inside.1 apart.1)

  pub written_outside : (len : ℕ) (ts : List BoundTarget) (table : List ℕ) (k : ℕ) → length table ≡ len → EachOf (λ t. place t + 4 ≤ len) ts
      → EachOf (λ t. IsOutside (place t) k) ts → get_or (written table ts) k 0 ≡ get_or table k 0
  written_outside len [] table k sized inside outside = refl
  written_outside len (t ∷ ts) table k sized inside outside =
      written_outside len ts (with_number table (place t) (value t)) k (number_length table (place t) (value t) (omega (arith, sized, inside.0)) ∙ sized) inside.1 outside.1
      ∙ number_outside table (place t) (value t) k (omega (arith, sized, inside.0)) outside.0

-- a target of a list has room
pub inside_at : (len : ℕ) (ts : List BoundTarget) (i : ℕ) (t : BoundTarget) → All (IsInside len) ts → i < length ts → t ≡ get_or ts i t → IsInside len t
inside_at len ts i t all inside is = subst (IsInside len) (sym is) (all i t inside)
