-- Rounds of which none was refused and no start failed: they are those of answers without a fault.
use Rattle.std.proofs.Common.{◌≡◌, ℕ, zero, suc, ◌+◌, ◌≤◌, ◌&&◌, Bool, true, false, List, [], ◌∷◌, length, Option, Some, None, is_some, cond, refl, sym, ap, subst, ◌∙◌, arith}
use Rattle.std.proofs.lemmas.Bool.{false≢true}
use Rattle.std.specs.Option.{option_and_then, option_map_or}
use Rattle.std.specs.Prelude.{⊤, MatchBool, replicate}
use Rattle.std.proofs.lemmas.List.Sums.{sum_by-cons}
use Rattle.bb_base.specs.Faults.{Rose}
use Rattle.bb_chooser.specs.Binding.{Binding}
use Rattle.bb_flash.specs.declared.plan.Plan.{Plan}
use Rattle.bb_shell.specs.Boot.{AreRounds, IsOutcome, IsRound, Round, has_failed, is_retried, plan_at}
use Rattle.bb_shell.specs.Counting.{target_started}
use Rattle.bb_shell.specs.Ends.{RaisedBy, failed_starts, is_failed_start}
use Rattle.bb_shell.specs.Rounds.{RoundAnswer, followed_by, is_started, outcome_by, round_by, rounds_by, sound_answer}
use Rattle.bb_shell.specs.Running.{is_refused_save}
use Rattle.bb_shell.specs.declared.outcome.Outcome.{Outcome}
use Rattle.bb_shell.specs.declared.outcome.Outcome.TheVariants as outcomes
use Rattle.bb_shell.proofs.Answering.{best_is, best_none}
use Rattle.bb_shell.proofs.Ends.{and_none}
use Rattle.bb_shell.proofs.LastRounds.{last_cons}
use Rattle.bb_shell.proofs.Made.{AllSaved}

-- ---- no start failed

abbrev pub NoneFailed : List Round → Type 0
NoneFailed [] = ⊤
NoneFailed (round ∷ later) = (is_failed_start round.outcome ≡ false) × NoneFailed later

failed_cons : (round : Round) (later : List Round) → failed_starts (round ∷ later) ≡ cond (is_failed_start round.outcome) 1 0 + failed_starts later
failed_cons round later = sum_by-cons (λ (r : Round). cond (is_failed_start r.outcome) 1 0) round later

none_counted : (rounds : List Round) → failed_starts rounds ≡ 0 → NoneFailed rounds
none_counted [] none = tt
none_counted (round ∷ later) none = (by (is_failed_start round.outcome) refl, none_counted later rest)
  where
    sum : cond (is_failed_start round.outcome) 1 0 + failed_starts later ≡ 0
    sum = sym (failed_cons round later) ∙ none

    rest : failed_starts later ≡ 0
    rest = let s = sum in omega (arith, s)

    by : (failed : Bool) → is_failed_start round.outcome ≡ failed → is_failed_start round.outcome ≡ false
    by true e =
        absurd (let s : 1 + failed_starts later ≡ 0 = subst (λ f. cond f 1 0 + failed_starts later ≡ 0) e sum in omega (arith, s))
    by false e = e

none_rose : (n before now : ℕ) → RaisedBy n before now → (Rose before now → ⊥) → n ≡ 0
none_rose zero before now rose none = refl
none_rose (suc n) before now rose none = absurd (none (omega arith))

pub none_failed : (rounds : List Round) (before now : ℕ) → RaisedBy (failed_starts rounds) before now → (Rose before now → ⊥) → NoneFailed rounds
none_failed rounds before now rose none = none_counted rounds (none_rose (failed_starts rounds) before now rose none)

-- ---- answers without a fault

good_outcome : (plan : Option Plan) (outcome : Outcome) → IsOutcome plan outcome → is_refused_save outcome ≡ false →
    is_failed_start outcome ≡ false → outcome_by plan true None ≡ outcome
good_outcome plan (outcomes.Refused fault) h saved started = absurd cc
good_outcome None outcomes.Unplanned h saved started = refl
good_outcome (Some plan) outcomes.Unplanned h saved started = absurd (let e : true ≡ false = h in cc)
good_outcome plan outcomes.Failed h saved started = absurd cc
good_outcome None outcomes.Started h saved started = absurd (let e : false ≡ true = h in cc)
good_outcome (Some plan) outcomes.Started h saved started = refl

good_round : (b : Binding) (plans : List (Option Plan)) (table : List ℕ) (round : Round) → IsRound b plans table round →
    is_refused_save round.outcome ≡ false → is_failed_start round.outcome ≡ false → round_by b plans table sound_answer round.target ≡ round
good_round b plans table round is saved started =
    λ i. record {
      target = round.target;
      table = (sym is.spent) i;
      outcome = good_outcome (plan_at plans round.target) round.outcome is.outcome saved started i;
    }

abbrev pub sounds : ℕ → List RoundAnswer
sounds n = replicate n sound_answer

pub good_rounds : (b : Binding) (plans : List (Option Plan)) (table : List ℕ) (rounds : List Round) (n : ℕ) → length rounds ≤ n →
    AreRounds b plans table rounds → AllSaved rounds → NoneFailed rounds → rounds_by b plans table (sounds n) ≡ rounds
unfolding AreRounds rounds_by
good_rounds b plans table [] zero few are saved started = refl
good_rounds b plans table [] (suc n) few are saved started =
    ap (λ o. option_map_or
    (λ (target : ℕ). followed_by b (round_by b plans table sound_answer target) (rounds_by b plans (round_by b plans table sound_answer target).table (sounds n))) o [])
    (best_none b table are)
good_rounds b plans table (round ∷ later) zero few are saved started = absurd (omega (arith, few))
good_rounds b plans table (round ∷ later) (suc n) few are saved started =
    ap (λ o. option_map_or
    (λ (target : ℕ). followed_by b (round_by b plans table sound_answer target) (rounds_by b plans (round_by b plans table sound_answer target).table (sounds n))) o [])
    (best_is b table round.target are.0.best)
    ∙ ap (λ (r : Round). followed_by b r (rounds_by b plans r.table (sounds n))) (good_round b plans table round are.0 saved.0 started.0)
    ∙ follow (λ more. good_rounds b plans round.table later n (omega (arith, few)) more saved.1 started.1) (is_retried b round.outcome) refl are.1
  where
    follow : (AreRounds b plans round.table later → rounds_by b plans round.table (sounds n) ≡ later) → (t : Bool) → is_retried b round.outcome ≡ t → MatchBool (is_retried b round.outcome) (AreRounds b plans round.table later) (later ≡ []) →
        followed_by b round (rounds_by b plans round.table (sounds n)) ≡ round ∷ later
    follow again true e h =
        let more = again (subst (λ s. MatchBool s (AreRounds b plans round.table later) (later ≡ [])) e h) in
        ap (λ s. cond s (round ∷ rounds_by b plans round.table (sounds n)) (round ∷ [])) e ∙ ap (λ l. round ∷ l) more
    follow again false e h =
        let none : later ≡ [] = subst (λ s. MatchBool s (AreRounds b plans round.table later) (later ≡ [])) e h in
        ap (λ s. cond s (round ∷ rounds_by b plans round.table (sounds n)) (round ∷ [])) e ∙ ap (λ l. round ∷ l) (sym none)

-- ---- where they start nothing no start fails

unplanned_fine : (plan : Option Plan) (outcome : Outcome) → plan ≡ None → IsOutcome plan outcome → is_failed_start outcome ≡ false
unplanned_fine plan (outcomes.Refused fault) none h = refl
unplanned_fine plan outcomes.Unplanned none h = refl
unplanned_fine plan outcomes.Failed none h = absurd (false≢true (sym (ap (λ o. is_some o) none) ∙ h))
unplanned_fine plan outcomes.Started none h = refl

started_here : (b : Binding) (first : Round) (rest : List Round) → is_started first.outcome ≡ true → has_failed first.outcome ≡ false →
    target_started (followed_by b first rest) ≡ Some first.target
started_here b first rest started unfailed =
    ap (λ t. target_started (cond t (first ∷ rest) (first ∷ []))) (ap (λ f. b.rules.retry && f) unfailed ∙ and_none b.rules.retry)
    ∙ ap (λ t. cond t (Some first.target) None) started

unstarted_behind : (round : Round) (rest : List Round) → target_started (round ∷ rest) ≡ None → target_started rest ≡ None
unstarted_behind round [] none = refl
unstarted_behind round (next ∷ rest) none =
    sym (ap (option_and_then (λ (r : Round). cond (is_started r.outcome) (Some r.target) None)) (last_cons round next rest)) ∙ none

some_none : (target : ℕ) → ◌≡◌ {A = Option ℕ} (Some target) None → ⊥
some_none target h = cc

first_fine : (b : Binding) (plans : List (Option Plan)) (table : List ℕ) (round : Round) (rest : List Round) → IsRound b plans table round →
    target_started (followed_by b (round_by b plans table sound_answer round.target) rest) ≡ None → is_failed_start round.outcome ≡ false
first_fine b plans table round rest is none = by (plan_at plans round.target) refl
  where
    by : (plan : Option Plan) → plan_at plans round.target ≡ plan → is_failed_start round.outcome ≡ false
    by None e = unplanned_fine (plan_at plans round.target) round.outcome e is.outcome
    by (Some plan) e =
        absurd (some_none round.target
        (sym (started_here b (round_by b plans table sound_answer round.target) rest
        (ap (λ p. is_started (outcome_by p true None)) e) (ap (λ p. has_failed (outcome_by p true None)) e)) ∙ none))

pub unstarted_fine : (b : Binding) (plans : List (Option Plan)) (table : List ℕ) (rounds : List Round) (n : ℕ) → length rounds ≤ n →
    AreRounds b plans table rounds → AllSaved rounds → target_started (rounds_by b plans table (sounds n)) ≡ None → NoneFailed rounds
unfolding AreRounds rounds_by
unstarted_fine b plans table [] n few are saved none = tt
unstarted_fine b plans table (round ∷ later) zero few are saved none = absurd (omega (arith, few))
unstarted_fine b plans table (round ∷ later) (suc n) few are saved none =
    let first = round_by b plans table sound_answer round.target in
    let here : target_started (followed_by b first (rounds_by b plans first.table (sounds n))) ≡ None =
    sym (ap (λ o. target_started (option_map_or
    (λ (target : ℕ). followed_by b (round_by b plans table sound_answer target) (rounds_by b plans (round_by b plans table sound_answer target).table (sounds n))) o []))
    (best_is b table round.target are.0.best)) ∙ none in
    let unfailed = first_fine b plans table round (rounds_by b plans first.table (sounds n)) are.0 here in
    let same = good_round b plans table round are.0 saved.0 unfailed in (
      unfailed,
      by (λ more. unstarted_fine b plans round.table later n (omega (arith, few)) more saved.1) (is_retried b round.outcome) refl are.1
          (sym (ap (λ (r : Round). target_started (followed_by b r (rounds_by b plans r.table (sounds n)))) same) ∙ here),
    )
  where
    by : (AreRounds b plans round.table later → target_started (rounds_by b plans round.table (sounds n)) ≡ None → NoneFailed later) → (t : Bool) →
        is_retried b round.outcome ≡ t → MatchBool (is_retried b round.outcome) (AreRounds b plans round.table later) (later ≡ []) →
        target_started (followed_by b round (rounds_by b plans round.table (sounds n))) ≡ None → NoneFailed later
    by again true e h unstarted =
        again (subst (λ s. MatchBool s (AreRounds b plans round.table later) (later ≡ [])) e h)
        (unstarted_behind round (rounds_by b plans round.table (sounds n))
        (sym (ap (λ s. target_started (cond s (round ∷ rounds_by b plans round.table (sounds n)) (round ∷ []))) e) ∙ unstarted))
    by again false e h unstarted =
        subst NoneFailed (sym (subst (λ s. MatchBool s (AreRounds b plans round.table later) (later ≡ [])) e h)) tt
