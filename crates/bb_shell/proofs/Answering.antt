-- The rounds of a boot are those that their answers make.
use Rattle.std.proofs.Common.{◌≡◌, ℕ, zero, suc, ◌+◌, ◌<◌, ◌≤◌, ◌||◌, Bool, true, false, not, List, [], ◌∷◌, Option, Some, None, ap, arith, cond, inl, inr, length, map, refl, subst, sym, ◌∙◌}
use Rattle.std.proofs.lemmas.Bool.{and_from, and_parts, cases_lt, false_from_ne_true, false≢true, le-leb, leb-true, lt-ltb, ltb-true, or_left, or_right}
use Rattle.std.proofs.lemmas.Option.{none-some, same_Some}
use Rattle.std.specs.List.{list_all, range_with_len}
use Rattle.std.specs.Option.{option_map_or}
use Rattle.std.specs.Prelude.{MatchBool, find, nat_le, nat_lt}
use Rattle.bb_chooser.specs.Binding.{Binding}
use Rattle.bb_chooser.specs.Choosing.{IsBest, Qualifies, attempts_of, priority_of}
use Rattle.bb_flash.specs.declared.plan.Plan.{Plan}
use Rattle.bb_shell.proofs.Attempts.{best_there}
use Rattle.bb_shell.specs.Boot.{AreRounds, IsOutcome, IsRound, NoneQualifies, Round, is_retried, plan_at}
use Rattle.bb_shell.specs.Rounds.{answer_of, best_of, followed_by, is_highest, is_started, outcome_by, qualifies, round_by, rounds_by, targets_of}
use Rattle.bb_shell.specs.Running.{refusal_of}
use Rattle.bb_shell.specs.declared.outcome.Outcome.{Outcome}
use Rattle.bb_shell.specs.declared.outcome.Outcome.TheVariants.{Refused, Unplanned, Failed, Started}

-- ---- numbers in a row

all_numbers : (p : ℕ → Bool) (a n : ℕ) → ((k : ℕ) → a ≤ k → k < a + n → p k ≡ true) → list_all p (range_with_len a n) ≡ true
all_numbers p a zero h = refl
all_numbers p a (suc n) h =
    and_from (p a) (list_all p (range_with_len (a + 1) n)) (h a (omega arith) (omega arith))
    (all_numbers p (a + 1) n (λ k l u. h k (omega arith) (omega arith)))

each_number : (p : ℕ → Bool) (a n : ℕ) → list_all p (range_with_len a n) ≡ true → (k : ℕ) → a ≤ k → k < a + n → p k ≡ true
each_number p a zero h k l u = absurd (omega arith)
each_number p a (suc n) h k l u =
    let parts = and_parts (p a) (list_all p (range_with_len (a + 1) n)) h in
    elim (cases_lt a k) [
      | inl below ↦ each_number p (a + 1) n parts.1 k (omega arith) (omega arith)
      | inr most ↦ let here : a ≡ k = omega arith in subst (λ j. p j ≡ true) here parts.0
    ]

find_first : (p : ℕ → Bool) (a n t : ℕ) → a ≤ t → t < a + n → p t ≡ true → ((k : ℕ) → a ≤ k → k < t → p k ≡ false) →
    find p (range_with_len a n) ≡ Some t
find_first p a zero t l u here_holds before = absurd (omega arith)
find_first p a (suc n) t l u here_holds before =
    elim (cases_lt a t) [
      | inl below ↦ ap (λ c. cond c (Some a) (find p (range_with_len (a + 1) n))) (before a (omega arith) below)
          ∙ find_first p (a + 1) n t (omega arith) (omega arith) here_holds (λ k m b. before k (omega arith) b)
      | inr most ↦ let here : t ≡ a = omega arith in
          ap (λ c. cond c (Some a) (find p (range_with_len (a + 1) n))) (subst (λ j. p j ≡ true) here here_holds) ∙ ap Some (sym here)
    ]

find_none : (p : ℕ → Bool) (a n : ℕ) → ((k : ℕ) → p k ≡ false) → find p (range_with_len a n) ≡ None
find_none p a zero never = refl
find_none p a (suc n) never = ap (λ c. cond c (Some a) (find p (range_with_len (a + 1) n))) (never a) ∙ find_none p (a + 1) n never

-- ---- the best target

qualifies_is : (b : Binding) (table : List ℕ) (k : ℕ) → qualifies b table k ≡ true → Qualifies b table k
qualifies_is b table k h =
    let parts = and_parts (nat_lt 0 (priority_of b table k)) (nat_lt 0 (attempts_of b table k)) h in
    record { priority = ltb-true 0 (priority_of b table k) parts.0; attempts = ltb-true 0 (attempts_of b table k) parts.1 }

qualifies_from : (b : Binding) (table : List ℕ) (k : ℕ) → Qualifies b table k → qualifies b table k ≡ true
qualifies_from b table k q =
    and_from (nat_lt 0 (priority_of b table k)) (nat_lt 0 (attempts_of b table k))
    (lt-ltb 0 (priority_of b table k) q.priority) (lt-ltb 0 (attempts_of b table k) q.attempts)

-- it doesn't beat the target
is_not_better : Binding → List ℕ → ℕ → ℕ → Bool
is_not_better b table target other =
    not (qualifies b table other) || nat_le (priority_of b table other) (priority_of b table target)

not_better : (b : Binding) (table : List ℕ) (target other : ℕ) → IsBest b table target → is_not_better b table target other ≡ true
unfolding is_not_better
not_better b table target other best = by (qualifies b table other) refl
  where
    by : (q : Bool) → qualifies b table other ≡ q → (not (qualifies b table other) || nat_le (priority_of b table other) (priority_of b table target)) ≡ true
    by true e =
        or_right (not (qualifies b table other)) (nat_le (priority_of b table other) (priority_of b table target))
        (le-leb (priority_of b table other) (priority_of b table target) (best.highest other (qualifies_is b table other e)))
    by false e =
        or_left (not (qualifies b table other)) (nat_le (priority_of b table other) (priority_of b table target)) (ap not e)

best_highest : (b : Binding) (table : List ℕ) (target : ℕ) → IsBest b table target → is_highest b table target ≡ true
unfolding is_not_better
best_highest b table target best =
    and_from (qualifies b table target) (list_all (is_not_better b table target) (targets_of b)) (qualifies_from b table target best.qualifies)
    (all_numbers (is_not_better b table target) 0 (length b.targets) (λ k l u. not_better b table target k best))

earlier_lower : (b : Binding) (table : List ℕ) (target k : ℕ) → IsBest b table target → target < length b.targets → k < target → is_highest b table k ≡ true → ⊥
unfolding is_not_better
earlier_lower b table target k best inside before h =
    let parts = and_parts (qualifies b table k) (list_all (is_not_better b table k) (targets_of b)) h in
    let q = qualifies_is b table k parts.0 in
    let here : is_not_better b table k target ≡ true = each_number (is_not_better b table k) 0 (length b.targets) parts.1 target (omega arith) (omega (arith, inside)) in
    let beaten : nat_le (priority_of b table target) (priority_of b table k) ≡ true =
    ap (λ x. not x || nat_le (priority_of b table target) (priority_of b table k)) (sym (qualifies_from b table target best.qualifies)) ∙ here in
    let low = leb-true (priority_of b table target) (priority_of b table k) beaten in
    let high = best.highest k q in
    let same : priority_of b table k ≡ priority_of b table target = omega (arith, low, high) in
    let late = best.earliest k q same in
    omega (arith, late, before)

pub best_is : (b : Binding) (table : List ℕ) (target : ℕ) → IsBest b table target → best_of b table ≡ Some target
best_is b table target best =
    let inside = best_there b table target best in
    find_first (is_highest b table) 0 (length b.targets) target (omega arith) (omega (arith, inside)) (best_highest b table target best)
    (λ k l before. false_from_ne_true (is_highest b table k) (earlier_lower b table target k best inside before))

pub best_none : (b : Binding) (table : List ℕ) → NoneQualifies b table → best_of b table ≡ None
unfolding is_not_better
best_none b table none =
    find_none (is_highest b table) 0 (length b.targets)
    (λ k. false_from_ne_true (is_highest b table k)
    (λ h. none k (qualifies_is b table k (and_parts (qualifies b table k) (list_all (is_not_better b table k) (targets_of b)) h).0)))

-- what is found holds
found_holds : (p : ℕ → Bool) (xs : List ℕ) (x : ℕ) → find p xs ≡ Some x → p x ≡ true
found_holds p [] x found = absurd (none-some x found)
found_holds p (y ∷ ys) x found = by (p y) refl (found_holds p ys x)
  where
    by : (flag : Bool) → p y ≡ flag → (find p ys ≡ Some x → p x ≡ true) → p x ≡ true
    by true e rest = subst (λ z. p z ≡ true) (same_Some y x (ap (λ c. cond c (Some y) (find p ys)) (sym e) ∙ found)) e
    by false e rest = rest (ap (λ c. cond c (Some y) (find p ys)) (sym e) ∙ found)

pub found_qualifies : (b : Binding) (table : List ℕ) (target : ℕ) → best_of b table ≡ Some target → Qualifies b table target
unfolding is_not_better
found_qualifies b table target found =
    let highest : is_highest b table target ≡ true = found_holds (is_highest b table) (targets_of b) target found in
    qualifies_is b table target (and_parts (qualifies b table target) (list_all (is_not_better b table target) (targets_of b)) highest).0

-- ---- the rounds

outcome_is : (plan : Option Plan) (outcome : Outcome) → IsOutcome plan outcome → outcome_by plan (is_started outcome) (refusal_of outcome) ≡ outcome
outcome_is plan (Refused fault) h = refl
outcome_is None Unplanned h = refl
outcome_is (Some plan) Unplanned h = let f : true ≡ false = h in absurd (false≢true (sym f))
outcome_is None Failed h = let f : false ≡ true = h in absurd (false≢true f)
outcome_is (Some plan) Failed h = refl
outcome_is None Started h = let f : false ≡ true = h in absurd (false≢true f)
outcome_is (Some plan) Started h = refl

round_is : (b : Binding) (plans : List (Option Plan)) (table : List ℕ) (round : Round) → IsRound b plans table round →
    round_by b plans table (answer_of round) round.target ≡ round
round_is b plans table round is =
    λ i. record {
      target = round.target;
      table = (sym is.spent) i;
      outcome = outcome_is (plan_at plans round.target) round.outcome is.outcome i;
    }

pub rounds_are : (b : Binding) (plans : List (Option Plan)) (table : List ℕ) (rounds : List Round) → AreRounds b plans table rounds →
    rounds_by b plans table (map answer_of rounds) ≡ rounds
unfolding AreRounds rounds_by
rounds_are b plans table [] are = refl
rounds_are b plans table (round ∷ later) are =
    found (best_is b table round.target are.0.best)
    ∙ ap (λ (r : Round). followed_by b r (rounds_by b plans r.table (map answer_of later))) (round_is b plans table round are.0)
    ∙ follow (is_retried b round.outcome) refl (λ h. rounds_are b plans round.table later h) are.1
  where
    found : best_of b table ≡ Some round.target →
        rounds_by b plans table (map answer_of (round ∷ later))
        ≡ followed_by b (round_by b plans table (answer_of round) round.target)
        (rounds_by b plans (round_by b plans table (answer_of round) round.target).table (map answer_of later))
    found e =
        ap (λ o. option_map_or
        (λ (target : ℕ). followed_by b (round_by b plans table (answer_of round) target)
        (rounds_by b plans (round_by b plans table (answer_of round) target).table (map answer_of later))) o []) e

    follow : (t : Bool) → is_retried b round.outcome ≡ t → (AreRounds b plans round.table later → rounds_by b plans round.table (map answer_of later) ≡ later) →
        MatchBool (is_retried b round.outcome) (AreRounds b plans round.table later) (later ≡ []) →
        followed_by b round (rounds_by b plans round.table (map answer_of later)) ≡ round ∷ later
    follow true e again h =
        let more = again (subst (λ s. MatchBool s (AreRounds b plans round.table later) (later ≡ [])) e h) in
        ap (λ s. cond s (round ∷ rounds_by b plans round.table (map answer_of later)) (round ∷ [])) e ∙ ap (λ l. round ∷ l) more
    follow false e again h =
        let none : later ≡ [] = subst (λ s. MatchBool s (AreRounds b plans round.table later) (later ≡ [])) e h in
        ap (λ s. cond s (round ∷ rounds_by b plans round.table (map answer_of later)) (round ∷ [])) e ∙ ap (λ l. round ∷ l) (sym none)
