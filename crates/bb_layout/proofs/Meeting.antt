-- Spans in rising order: two of all share a place exactly where one begins before the one in front
-- of it ends.
use Rattle.std.proofs.Common.{◌≡◌, ℕ, zero, suc, ◌+◌, ◌<◌, ◌≤◌, Bool, true, false, ◌&&◌, cond, leb, ltb, List, [], ◌∷◌, length, get_or, map, arith, sym, ap, ◌∙◌, inl, inr, All, count_by, max, min}
use Rattle.std.proofs.lemmas.Bool.{cases_Bool, false≢true}
use Rattle.std.proofs.lemmas.Bool.Decides.{nat_tests}
use Rattle.std.proofs.lemmas.List.Sums.{sum_by-cons}
use Rattle.std.proofs.lemmas.List.Sorted.{All-permutation, length_permutation, sum_by-IsPermutation}
use Rattle.std.specs.List.Sorted.{IsPermutation, IsNonDecreasingBy}
use Rattle.bb_layout.specs.Ranges.{some_pair, shares_byte}
use Rattle.bb_layout.specs.Spans.{span_of, begins_early, has_meeting_spans}
use Rattle.bb_layout.specs.Variables.{IsWellFormed}
use Rattle.bb_layout.specs.declared.var.Var.{Var}
use Rattle.bb_layout.proofs.Pairs.{or_parts, pair_at, pair_none, pair-map}

abbrev pub Span : Type 0
Span = ℕ × ℕ

-- some place is in both
abbrev pub meets : Span → Span → Bool
meets p q = ltb (max p.0 q.0) (min p.1 q.1)

abbrev covers : ℕ → Span → Bool
covers b p = leb p.0 b && ltb b p.1

-- each span has a place
abbrev pub AreFilled : List Span → Type 0
AreFilled = All (λ p. p.0 < p.1)

-- ---- how many items pass

module _ {X : Type 0} (p : X → Bool) where
  counted : (x : X) (xs : List X) (b : Bool) → p x ≡ b → count_by p (x ∷ xs) ≡ cond b 1 0 + count_by p xs
  counted x xs b e = sum_by-cons (λ y. cond (p y) 1 0) x xs ∙ ap (λ t. cond t 1 0 + count_by p xs) e

  one_at : (xs : List X) (k : ℕ) (d : X) → k < length xs → p (get_or xs k d) ≡ true → 1 ≤ count_by p xs
  one_at [] k d l t = absurd (omega arith)
  one_at (x ∷ xs) zero d l t = let e = counted x xs true t in omega arith
  one_at (x ∷ xs) (suc k) d l t =
      let rest = one_at xs k d (omega arith) t in
      elim (cases_Bool (p x)) [
        | inl h ↦ let e = counted x xs true h in omega arith
        | inr h ↦ let e = counted x xs false h in omega arith
      ]

  two_at : (xs : List X) (i j : ℕ) (d : X) → i < j → j < length xs → p (get_or xs i d) ≡ true → p (get_or xs j d) ≡ true → 2 ≤ count_by p xs
  two_at [] i j d l m t u = absurd (omega arith)
  two_at (x ∷ xs) zero zero d l m t u = absurd (omega arith)
  two_at (x ∷ xs) zero (suc j) d l m t u =
      let rest = one_at xs j d (omega arith) u in
      let e = counted x xs true t in omega arith
  two_at (x ∷ xs) (suc i) zero d l m t u = absurd (omega arith)
  two_at (x ∷ xs) (suc i) (suc j) d l m t u =
      let rest = two_at xs i j d (omega arith) (omega arith) t u in
      elim (cases_Bool (p x)) [
        | inl h ↦ let e = counted x xs true h in omega arith
        | inr h ↦ let e = counted x xs false h in omega arith
      ]

  record One (xs : List X) : Type 0 where
    at : ℕ
    inside : at < length xs
    passes : (d : X) → p (get_or xs at d) ≡ true

  record Two (xs : List X) : Type 0 where
    first : ℕ
    second : ℕ
    order : first < second
    inside : second < length xs
    passes : (d : X) → (p (get_or xs first d) ≡ true) × (p (get_or xs second d) ≡ true)

  one_from : (xs : List X) → 1 ≤ count_by p xs → One xs
  one_from [] h = absurd (omega arith)
  one_from (x ∷ xs) h =
      elim (cases_Bool (p x)) [
        | inl t ↦ record { at = 0; inside = omega arith; passes = λ d. t }
        | inr t ↦
            let e = counted x xs false t in
            let rest = one_from xs (omega arith) in
            record { at = suc rest.at; inside = omega (arith, rest.inside); passes = rest.passes }
      ]

  two_from : (xs : List X) → 2 ≤ count_by p xs → Two xs
  two_from [] h = absurd (omega arith)
  two_from (x ∷ xs) h =
      elim (cases_Bool (p x)) [
        | inl t ↦
            let e = counted x xs true t in
            let rest = one_from xs (omega arith) in
            record { first = 0; second = suc rest.at; order = omega arith; inside = omega (arith, rest.inside); passes = λ d. (t, rest.passes d) }
        | inr t ↦
            let e = counted x xs false t in
            let rest = two_from xs (omega arith) in
            record { first = suc rest.first; second = suc rest.second; order = omega (arith, rest.order); inside = omega (arith, rest.inside); passes = rest.passes }
      ]

-- ---- spans one after the other

not_below : (a b : ℕ) → ltb a b ≡ false → b ≤ a
not_below a b h = grind (arith, nat_tests)

below : (a b : ℕ) → ltb a b ≡ true → a < b
below a b h = grind (arith, nat_tests)

filled_tail : (p : Span) (ps : List Span) → AreFilled (p ∷ ps) → AreFilled ps
filled_tail p ps h k d l = h (suc k) d (omega arith)

behind : (end : ℕ) (qs : List Span) → AreFilled qs → begins_early end qs ≡ false → (k : ℕ) (d : Span) → k < length qs → end ≤ (get_or qs k d).0
behind end [] filled h k d l = absurd (omega arith)
behind end (q ∷ qs) filled h zero d l = not_below q.0 end (or_parts (ltb q.0 end) (begins_early q.1 qs) h).0
behind end (q ∷ qs) filled h (suc k) d l =
    let parts = or_parts (ltb q.0 end) (begins_early q.1 qs) h in
    let first = not_below q.0 end parts.0 in
    let own : q.0 < q.1 = filled zero d (omega arith) in
    let rest = behind q.1 qs (filled_tail q qs filled) parts.1 k d (omega arith) in
    omega arith

apart : (p : Span) (qs : List Span) → AreFilled (p ∷ qs) → begins_early p.1 qs ≡ false → (i j : ℕ) (d : Span) → i < j → j < length (p ∷ qs)
    → (get_or (p ∷ qs) i d).1 ≤ (get_or (p ∷ qs) j d).0
apart p qs filled h zero zero d l m = absurd (omega arith)
apart p qs filled h zero (suc j) d l m = behind p.1 qs (filled_tail p qs filled) h j d (omega arith)
apart p [] filled h (suc i) j d l m = absurd (omega arith)
apart p (q ∷ qs) filled h (suc i) zero d l m = absurd (omega arith)
apart p (q ∷ qs) filled h (suc i) (suc j) d l m =
    apart q qs (filled_tail p (q ∷ qs) filled) (or_parts (ltb q.0 p.1) (begins_early q.1 qs) h).1 i j d (omega arith) (omega arith)

record Early (ps : List Span) : Type 0 where
  at : ℕ
  inside : at + 1 < length ps
  early : (d : Span) → (get_or ps (at + 1) d).0 < (get_or ps at d).1

early_next : (p : Span) (ps : List Span) → Early ps → Early (p ∷ ps)
early_next p ps e = record {
  at = suc e.at;
  inside = omega (arith, e.inside);
  early = λ d. let next : suc e.at + 1 ≡ suc (e.at + 1) = omega arith in rw next (e.early d);
}

early_from : (p : Span) (qs : List Span) → begins_early p.1 qs ≡ true → Early (p ∷ qs)
early_from p [] h = absurd (false≢true h)
early_from p (q ∷ qs) h =
    elim (cases_Bool (ltb q.0 p.1)) [
      | inl t ↦ record { at = 0; inside = omega arith; early = λ d. below q.0 p.1 t }
      | inr t ↦ early_next p (q ∷ qs) (early_from q qs (rw t at h))
    ]

-- ---- a place in two spans

covered : (b : ℕ) (p : Span) → p.0 ≤ b → b < p.1 → covers b p ≡ true
covered b p l m = grind (arith, nat_tests)

inside_of : (b : ℕ) (p : Span) → covers b p ≡ true → (p.0 ≤ b) × (b < p.1)
inside_of b p h = (grind (arith, nat_tests), grind (arith, nat_tests))

meet_at : (b : ℕ) (p q : Span) → covers b p ≡ true → covers b q ≡ true → meets p q ≡ true
meet_at b p q h k =
    let x = inside_of b p h in
    let y = inside_of b q k in
    let l : max p.0 q.0 < min p.1 q.1 = omega arith in
    grind (arith, nat_tests)

place_of_meeting : (p q : Span) → meets p q ≡ true → (covers (max p.0 q.0) p ≡ true) × (covers (max p.0 q.0) q ≡ true)
place_of_meeting p q h =
    let l : max p.0 q.0 < min p.1 q.1 = below (max p.0 q.0) (min p.1 q.1) h in
    (covered (max p.0 q.0) p (omega arith) (omega arith), covered (max p.0 q.0) q (omega arith) (omega arith))

found_early : (ps qs : List Span) → IsPermutation ps qs → AreFilled qs → IsNonDecreasingBy (λ p. p.0) qs → Early qs → some_pair meets ps ≡ true
found_early ps qs moved filled rising e =
    let d : Span = (0, 0) in
    let b : ℕ = (get_or qs (e.at + 1) d).0 in
    let front : e.at < length qs = omega (arith, e.inside) in
    let first = covered b (get_or qs e.at d) (rising e.at (e.at + 1) d (omega arith) e.inside) (e.early d) in
    let second = covered b (get_or qs (e.at + 1) d) (omega arith) (filled (e.at + 1) d e.inside) in
    let many = two_at (covers b) qs e.at (e.at + 1) d (omega arith) e.inside first second in
    let same : count_by (covers b) qs ≡ count_by (covers b) ps = sum_by-IsPermutation (λ p. cond (covers b p) 1 0) ps qs moved in
    let two = two_from (covers b) ps (omega arith) in
    pair_at meets ps two.first two.second d two.order two.inside
    (meet_at b (get_or ps two.first d) (get_or ps two.second d) (two.passes d).0 (two.passes d).1)

none_meet : (ps : List Span) (p : Span) (qs : List Span) → IsPermutation ps (p ∷ qs) → AreFilled (p ∷ qs) → begins_early p.1 qs ≡ false → some_pair meets ps ≡ false
none_meet ps p qs moved filled h =
    pair_none meets ps (λ i j d l m.
    elim (cases_Bool (meets (get_or ps i d) (get_or ps j d))) [
      | inl t ↦
          let b : ℕ = max (get_or ps i d).0 (get_or ps j d).0 in
          let at = place_of_meeting (get_or ps i d) (get_or ps j d) t in
          let many = two_at (covers b) ps i j d l m at.0 at.1 in
          let same : count_by (covers b) (p ∷ qs) ≡ count_by (covers b) ps = sum_by-IsPermutation (λ x. cond (covers b x) 1 0) ps (p ∷ qs) moved in
          let two = two_from (covers b) (p ∷ qs) (omega arith) in
          let x = inside_of b (get_or (p ∷ qs) two.first d) (two.passes d).0 in
          let y = inside_of b (get_or (p ∷ qs) two.second d) (two.passes d).1 in
          let gap = apart p qs filled h two.first two.second d two.order two.inside in
          absurd (omega arith)
      | inr f ↦ f
    ])

none_of_none : (ps : List Span) → IsPermutation ps [] → some_pair meets ps ≡ false
none_of_none ps moved = pair_none meets ps (λ i j d l m. absurd (omega (arith, length_permutation ps [] moved)))

pub meeting : (ps qs : List Span) → IsPermutation ps qs → AreFilled ps → IsNonDecreasingBy (λ p. p.0) qs → has_meeting_spans qs ≡ some_pair meets ps
meeting ps [] moved filled rising = sym (none_of_none ps moved)
meeting ps (p ∷ qs) moved filled rising =
    let full = All-permutation (λ (s : Span). s.0 < s.1) ps (p ∷ qs) moved filled in
    elim (cases_Bool (begins_early p.1 qs)) [
      | inl t ↦ t ∙ sym (found_early ps (p ∷ qs) moved full rising (early_from p qs t))
      | inr f ↦ f ∙ sym (none_meet ps p qs moved full f)
    ]

-- ---- the spans of variables

pub spans_filled : (vars : List Var) → All IsWellFormed vars → AreFilled (map span_of vars)
spans_filled [] all k d l = absurd (omega arith)
spans_filled (v ∷ vs) all zero d l = let own = all zero v (omega arith) in omega (arith, own.some)
spans_filled (v ∷ vs) all (suc k) d l = spans_filled vs (λ j e m. all (suc j) e (omega arith)) k d (omega arith)

pub overlap : (vars : List Var) (qs : List Span) → IsPermutation (map span_of vars) qs → All IsWellFormed vars → IsNonDecreasingBy (λ p. p.0) qs
    → has_meeting_spans qs ≡ some_pair shares_byte vars
overlap vars qs moved all rising = meeting (map span_of vars) qs moved (spans_filled vars all) rising ∙ pair-map meets span_of vars
