-- Where the first variable of a name is, as variables are added.
use Rattle.std.proofs.Common.{◌≡◌, ℕ, ◌+◌, ◌<◌, ◌≤◌, Bool, true, false, not, cond, eqb, ltb, List, [], ◌∷◌, ◌++◌, Option, Some, None, Result, Ok, Err, length, get_or, arith, refl, sym, ap, ◌∙◌, inl, inr, length-append, Bor}
use Rattle.std.proofs.lemmas.Bool.{cases_Bool, cases_lt, false≢true, eqb-true, eq-eqb, ne_eqb}
use Rattle.std.proofs.lemmas.Bool.Decides.{nat_tests}
use Rattle.std.proofs.lemmas.List.Folds.{position_or_len_push}
use Rattle.std.proofs.lemmas.List.Quantifiers.{position-Some}
use Rattle.std.proofs.lemmas.List.Sums.{prefix_len-le-length, fails_before_first, passes_at_first}
use Rattle.std.proofs.lemmas.Option.{slice_get-get_or}
use Rattle.std.proofs.lemmas.Slice.Eq.{bytes_eq-Decides}
use Rattle.std.specs.List.{position, position_or_len}
use Rattle.std.specs.Map.{lookup}
use Rattle.std.specs.Option.{option_or, option_map_or, option_copied, is_some}
use Rattle.std.specs.Result.{OnOk, is_err}
use Rattle.std.specs.Str.{bytes_eq}
use Rattle.bb_layout.specs.Ranges.{some_pair, has_same_name}
use Rattle.bb_layout.specs.VarNames.{place_of_var, with_place, AreFirstPlaces, is_first_of_name}
use Rattle.bb_layout.specs.declared.var.Var.{Var}
use Rattle.bb_layout.proofs.Pairs.{pair_at, pair_none}

same_name : (n : List ℕ) → bytes_eq n n ≡ true
same_name n = (bytes_eq-Decides n n).1 refl

-- ---- one more

placed : (b : Bool) (q all r more : ℕ) → q ≤ all → more ≡ all + 1 → r ≡ cond (eqb q all) (all + cond b 0 1) q
    → cond (ltb r more) (Some r) None ≡ option_or (cond (ltb q all) (Some q) None) (cond b (Some all) None)
placed true q all r more le m e =
    elim (cases_lt q all) [
      | inl lt ↦
          let there : r ≡ q = e ∙ ap (λ t. cond t (all + 0) q) (ne_eqb q all (λ (x : q ≡ all). omega arith)) in
          let inside : ltb r more ≡ true = grind (arith, nat_tests) in
          let before : ltb q all ≡ true = grind (arith, nat_tests) in
          rw (inside, before) (ap Some there)
      | inr ge ↦
          let at : q ≡ all = omega arith in
          let there : r ≡ all = e ∙ ap (λ t. cond t (all + 0) q) (eq-eqb q all at) ∙ omega arith in
          let inside : ltb r more ≡ true = grind (arith, nat_tests) in
          let past : ltb q all ≡ false = grind (arith, nat_tests) in
          rw (inside, past) (ap Some there)
    ]
placed false q all r more le m e =
    elim (cases_lt q all) [
      | inl lt ↦
          let there : r ≡ q = e ∙ ap (λ t. cond t (all + 1) q) (ne_eqb q all (λ (x : q ≡ all). omega arith)) in
          let inside : ltb r more ≡ true = grind (arith, nat_tests) in
          let before : ltb q all ≡ true = grind (arith, nat_tests) in
          rw (inside, before) (ap Some there)
      | inr ge ↦
          let at : q ≡ all = omega arith in
          let there : r ≡ all + 1 = e ∙ ap (λ t. cond t (all + 1) q) (eq-eqb q all at) in
          let outside : ltb r more ≡ false = grind (arith, nat_tests) in
          let past : ltb q all ≡ false = grind (arith, nat_tests) in
          rw (outside, past) refl
    ]

position_push : {X : Type 0} (p : X → Bool) (xs : List X) (y : X) → position p (xs ++ y ∷ []) ≡ option_or (position p xs) (cond (p y) (Some (length xs)) None)
position_push p xs y =
    placed (p y) (position_or_len p xs) (length xs) (position_or_len p (xs ++ y ∷ [])) (length (xs ++ y ∷ []))
    (prefix_len-le-length (λ x. not (p x)) xs) (length-append xs (y ∷ [])) (position_or_len_push p xs y)

lookup_push : (n m : List ℕ) (k : ℕ) (es : List (List ℕ × ℕ)) → lookup (bytes_eq n) (es ++ (m, k) ∷ []) ≡ option_or (lookup (bytes_eq n) es) (cond (bytes_eq n m) (Some k) None)
lookup_push n m k [] = refl
lookup_push n m k (e ∷ es) =
    elim (cases_Bool (bytes_eq n e.0)) [
      | inl h ↦ rw h refl
      | inr h ↦ rw h (lookup_push n m k es)
    ]

kept : (o : Option ℕ) (q : Option ℕ) → is_some o ≡ true → o ≡ option_or o q
kept None q h = absurd (false≢true h)
kept (Some x) q h = refl

same_or_none : (o : Option ℕ) → o ≡ option_or o None
same_or_none None = refl
same_or_none (Some x) = refl

lookup_noted : (es : List (List ℕ × ℕ)) (m : List ℕ) (k : ℕ) (n : List ℕ) → lookup (bytes_eq n) (with_place es m k) ≡ option_or (lookup (bytes_eq n) es) (cond (bytes_eq n m) (Some k) None)
lookup_noted es m k n =
    elim (cases_Bool (is_some (lookup (bytes_eq m) es))) [
      | inl h ↦ rw h (there (bytes_eq n m) refl h)
      | inr h ↦ rw h (lookup_push n m k es)
    ]
  where
    there : (b : Bool) → bytes_eq n m ≡ b → is_some (lookup (bytes_eq m) es) ≡ true → lookup (bytes_eq n) es ≡ option_or (lookup (bytes_eq n) es) (cond b (Some k) None)
    there true e h = kept (lookup (bytes_eq n) es) (Some k) (ap (λ x. is_some (lookup (bytes_eq x) es)) ((bytes_eq-Decides n m).0 e) ∙ h)
    there false e h = same_or_none (lookup (bytes_eq n) es)

-- a variable more, with its name noted
pub places_push : (vars : List Var) (places : List (List ℕ × ℕ)) (v : Var) → AreFirstPlaces vars places → AreFirstPlaces (vars ++ v ∷ []) (with_place places v.name (length vars))
places_push vars places v are n =
    lookup_noted places v.name (length vars) n ∙ ap (λ o. option_or o (cond (bytes_eq n v.name) (Some (length vars)) None)) (are n)
    ∙ sym (position_push (λ w. bytes_eq n w.name) vars v)

-- ---- names that stand twice

first_by : (vars : List Var) (i : ℕ) (d : Var) → i < length vars → is_first_of_name vars i ≡ option_map_or (λ k. eqb k i) (place_of_var vars (get_or vars i d).name) false
first_by vars i d inside = ap (λ (o : Option Var). option_map_or (λ v. option_map_or (λ k. eqb k i) (place_of_var vars v.name) false) o true) (slice_get-get_or vars i d inside)

place_is : (o : Option ℕ) (i : ℕ) → option_map_or (λ k. eqb k i) o false ≡ true → o ≡ Some i
place_is None i h = absurd (false≢true h)
place_is (Some k) i h = ap Some (eqb-true k i h)

pub names_differ : (vars : List Var) → ((i : ℕ) → i < length vars → is_first_of_name vars i ≡ true) → some_pair has_same_name vars ≡ false
names_differ vars first = pair_none has_same_name vars (λ i j d l m.
    let at = place_is (place_of_var vars (get_or vars j d).name) j (sym (first_by vars j d m) ∙ first j m) in
    (position-Some (λ w. bytes_eq (get_or vars j d).name w.name) vars j d at).2 i l)

not_first : (q i all : ℕ) → q ≤ i → i < all → option_map_or (λ k. eqb k i) (cond (ltb q all) (Some q) None) false ≡ false → q < i
not_first q i all le inside h =
    let before : ltb q all ≡ true = grind (arith, nat_tests) in
    let differs : eqb q i ≡ false = ap (λ b. option_map_or (λ k. eqb k i) (cond b (Some q) None) false) (sym before) ∙ h in
    grind (arith, nat_tests)

at_most : {X : Type 0} (p : X → Bool) (xs : List X) (i : ℕ) (d : X) → p (get_or xs i d) ≡ true → position_or_len p xs ≤ i
at_most p xs i d t =
    elim (cases_lt i (position_or_len p xs)) [
      | inl lt ↦ absurd (false≢true (sym (fails_before_first p xs i d lt) ∙ t))
      | inr ge ↦ ge
    ]

pub name_twice : (vars : List Var) (i : ℕ) → i < length vars → is_first_of_name vars i ≡ false → some_pair has_same_name vars ≡ true
name_twice [] i inside h = absurd (omega arith)
name_twice (v ∷ vs) i inside h =
    let all : List Var = v ∷ vs in
    let name = (get_or all i v).name in
    let p : Var → Bool = λ w. bytes_eq name w.name in
    let q = position_or_len p all in
    let le = at_most p all i v (same_name name) in
    let before = not_first q i (length all) le inside (sym (first_by all i v inside) ∙ h) in
    pair_at has_same_name all q i v before inside (passes_at_first p all v (omega arith))

-- ---- what the code finds

pub not_there : {X : Type 0} (o : Option (Bor X)) → is_some o ≡ false → option_copied o ≡ None
not_there None h = refl
not_there (Some x) h = absurd (false≢true (sym h))

pub there : {X : Type 0} (o : Option (Bor X)) → is_some o ≡ true → is_some (option_copied o) ≡ true
there None h = absurd (false≢true h)
there (Some x) h = refl

pub noted-new : (es : List (List ℕ × ℕ)) (m : List ℕ) (k : ℕ) → lookup (bytes_eq m) es ≡ None → with_place es m k ≡ es ++ (m, k) ∷ []
noted-new es m k h = rw h refl

pub noted-old : (es : List (List ℕ × ℕ)) (m : List ℕ) (k : ℕ) → is_some (lookup (bytes_eq m) es) ≡ true → with_place es m k ≡ es
noted-old es m k h = rw h refl

pub from_ok : {A E : Type 0} (P : Type 0) (r : Result A E) → is_err r ≡ false → OnOk r P → P
from_ok P (Ok x) h k = k
from_ok P (Err e) h k = absurd (false≢true (sym h))
