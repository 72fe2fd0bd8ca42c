-- The best target of those that were looked at.
use Rattle.std.proofs.Common.{◌≡◌, ℕ, ◌+◌, ◌<◌, ◌≤◌, ◌⊎◌, ◌&&◌, false, true, List, Option, Some, None, length, arith, refl, sym, ap, subst, ◌∙◌, inl, inr, get_or, map}
use Rattle.std.proofs.lemmas.Bool.{and_from, and_parts, cases_lt, false≢true, ltb-true, lt-ltb}
use Rattle.std.proofs.lemmas.Option.{slice_get-map, slice_get_past, slice_get_read}
use Rattle.std.specs.Option.{IfSome, IfNone, IsNone, option_map}
use Rattle.std.specs.Prelude.{nat_lt, unwrap_or}
use Rattle.bb_chooser.specs.Choosing.{IsBestIn, QualifiesIn, count_of}
use Rattle.bb_chooser.specs.declared.bound_target.BoundTarget.{BoundTarget}
use Rattle.bb_chooser.specs.declared.count.Count.{Count}

abbrev pub BestSoFar : List Count → ℕ → Option ℕ → ℕ → Type 0
BestSoFar cs i None highest = (highest ≡ 0) × ((u : ℕ) → u < i → QualifiesIn cs u → ⊥)
BestSoFar cs i (Some t) highest =
    (t < i) × QualifiesIn cs t × (highest ≡ (count_of cs t).priority)
    × ((u : ℕ) → u < i → QualifiesIn cs u → ((count_of cs u).priority ≤ highest) × ((count_of cs u).priority ≡ highest → t ≤ u))

pub best_none : (cs : List Count) → BestSoFar cs 0 None 0
best_none cs = (refl, λ u l q. omega arith)

-- a target before this one, or this one
before_or_here : (u i : ℕ) → u < i + 1 → (u < i) ⊎ (u ≡ i)
before_or_here u i l =
    elim (cases_lt u i) [
      | inl h ↦ inl h
      | inr h ↦ inr (omega arith)
    ]

pub best_taken : (cs : List Count) (i : ℕ) (o : Option ℕ) (highest : ℕ) → BestSoFar cs i o highest → 0 < (count_of cs i).attempts → highest < (count_of cs i).priority
    → BestSoFar cs (i + 1) (Some i) (count_of cs i).priority
best_taken cs i o highest h a p =
    (omega arith, record { priority = omega arith; attempts = a }, refl, λ u l q. at u q (before_or_here u i l))
  where
    lower : (o : Option ℕ) → BestSoFar cs i o highest → (u : ℕ) → u < i → QualifiesIn cs u → (count_of cs u).priority ≤ highest
    lower None h u l q = absurd (h.1 u l q)
    lower (Some t) h u l q = (h.3 u l q).0

    at : (u : ℕ) → QualifiesIn cs u → (u < i) ⊎ (u ≡ i) → ((count_of cs u).priority ≤ (count_of cs i).priority) × ((count_of cs u).priority ≡ (count_of cs i).priority → i ≤ u)
    at u q (inl l) = let low = lower o h u l q in (omega arith, λ e. omega arith)
    at u q (inr e) = let same : (count_of cs u).priority ≡ (count_of cs i).priority = ap (λ k. (count_of cs k).priority) e in (omega arith, λ _. omega arith)

pub best_passed : (cs : List Count) (i : ℕ) (o : Option ℕ) (highest : ℕ) → BestSoFar cs i o highest → ((0 < (count_of cs i).attempts) × (highest < (count_of cs i).priority) → ⊥)
    → BestSoFar cs (i + 1) o highest
best_passed cs i None highest h worse = (h.0, λ u l q. at u q (before_or_here u i l))
  where
    at : (u : ℕ) → QualifiesIn cs u → (u < i) ⊎ (u ≡ i) → ⊥
    at u q (inl l) = h.1 u l q
    at u q (inr e) =
        let here = subst (QualifiesIn cs) e q in
        worse (here.attempts, (let p = here.priority in let z = h.0 in omega arith))
best_passed cs i (Some t) highest h worse = (omega (arith, h.0), h.1, h.2, λ u l q. at u q (before_or_here u i l))
  where
    at : (u : ℕ) → QualifiesIn cs u → (u < i) ⊎ (u ≡ i) → ((count_of cs u).priority ≤ highest) × ((count_of cs u).priority ≡ highest → t ≤ u)
    at u q (inl l) = h.3 u l q
    at u q (inr e) =
        let here = subst (QualifiesIn cs) e q in
        let before = h.0 in
        let same : (count_of cs u).priority ≡ (count_of cs i).priority = ap (λ k. (count_of cs k).priority) e in
        elim (cases_lt highest (count_of cs i).priority) [
          | inl above ↦ absurd (worse (here.attempts, above))
          | inr below ↦ (omega arith, λ _. omega arith)
        ]

-- a target that isn't there doesn't qualify
pub qualifies_within : (cs : List Count) (u : ℕ) → QualifiesIn cs u → u < length cs
qualifies_within cs u q =
    elim (cases_lt u (length cs)) [
      | inl l ↦ l
      | inr past ↦
          let zero : Count = record { priority = 0; attempts = 0 } in
          let none : count_of cs u ≡ zero = ap (λ (o : Option Count). unwrap_or o zero) (slice_get_past cs u past) in
          let no_priority : (count_of cs u).priority ≡ 0 = ap (λ (n : Count). n.priority) none in
          let some = q.priority in
          absurd (omega arith)
    ]

pub best_found : (cs : List Count) (i t highest : ℕ) → length cs ≤ i → BestSoFar cs i (Some t) highest → IsBestIn cs t
best_found cs i t highest end h = record {
  qualifies = h.1;
  highest = λ u q. let within = qualifies_within cs u q in let low = (h.3 u (omega arith) q).0 in let is = h.2 in omega arith;
  earliest = λ u q e. let within = qualifies_within cs u q in (h.3 u (omega arith) q).1 (e ∙ sym h.2);
}

pub best_answer : (cs : List Count) (i : ℕ) (o : Option ℕ) (highest : ℕ) → length cs ≤ i → BestSoFar cs i o highest → IfSome o (IsBestIn cs)
best_answer cs i None highest end h = tt
best_answer cs i (Some t) highest end h = best_found cs i t highest end h

pub none_answer : (cs : List Count) (i : ℕ) (o : Option ℕ) (highest : ℕ) → length cs ≤ i → BestSoFar cs i o highest → IfNone o ((u : ℕ) → QualifiesIn cs u → ⊥)
none_answer cs i None highest end h = λ u q. let within = qualifies_within cs u q in h.1 u (omega arith) q
none_answer cs i (Some t) highest end h = tt

-- what is left to a target of a list
pub count_at : (f : BoundTarget → Count) (targets : List BoundTarget) (i : ℕ) (t : BoundTarget) → i < length targets → t ≡ get_or targets i t → count_of (map f targets) i ≡ f t
count_at f targets i t inside is =
    ap (λ (o : Option Count). unwrap_or o (record { priority = 0; attempts = 0 }))
    (slice_get-map f targets i ∙ ap (option_map f) (slice_get_read targets (length targets) i t refl inside is))

pub is_better : (n : Count) (highest : ℕ) → (nat_lt 0 n.attempts && nat_lt highest n.priority) ≡ true → (0 < n.attempts) × (highest < n.priority)
is_better n highest h = let parts = and_parts (nat_lt 0 n.attempts) (nat_lt highest n.priority) h in (ltb-true 0 n.attempts parts.0, ltb-true highest n.priority parts.1)

pub is_worse : (n : Count) (highest : ℕ) → (nat_lt 0 n.attempts && nat_lt highest n.priority) ≡ false → (0 < n.attempts) × (highest < n.priority) → ⊥
is_worse n highest h (some, above) = false≢true (sym h ∙ and_from (nat_lt 0 n.attempts) (nat_lt highest n.priority) (lt-ltb 0 n.attempts some) (lt-ltb highest n.priority above))

-- none exactly where none qualifies
pub none_exactly : (cs : List Count) (o : Option ℕ) → IfSome o (IsBestIn cs) → IfNone o ((u : ℕ) → QualifiesIn cs u → ⊥)
    → (IsNone o → (u : ℕ) → QualifiesIn cs u → ⊥) × (((u : ℕ) → QualifiesIn cs u → ⊥) → IsNone o)
none_exactly cs None best none = (λ _. none, λ _. refl)
none_exactly cs (Some t) best none = (λ e. absurd (false≢true (sym e)), λ n. absurd (n t best.qualifies))
