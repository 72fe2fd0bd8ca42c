-- The rounds of a boot are no more than the attempts of its targets.
use Rattle.std.proofs.Common.{◌≡◌, ℕ, ◌+◌, ◌-◌, ◌<◌, ◌≤◌, ◌==◌, ◌&&◌, Bool, cond, get_or, true, false, List, [], ◌∷◌, length, Option, sym, ap, subst, ◌∙◌, arith, refl}
use Rattle.std.specs.Prelude.{MatchBool}
use Rattle.bb_chooser.specs.Binding.{Binding, IsBinding}
use Rattle.bb_chooser.specs.Choosing.{number_at, with_number}
use Rattle.bb_chooser.specs.Counting.{spend_of}
use Rattle.bb_chooser.specs.Resets.{after_priorities, resets_attempts, resets_priorities}
use Rattle.bb_chooser.specs.declared.bound_target.BoundTarget.{BoundTarget}
use Rattle.bb_chooser.specs.declared.cause.Cause.{Cause}
use Rattle.bb_chooser.proofs.Counts.{disabled_keeps, resets_keep, spend_is, spent, spent_keeps}
use Rattle.bb_flash.specs.declared.plan.Plan.{Plan}
use Rattle.bb_shell.proofs.Attempts.{best_there, target_at, total_some, total_spent}
use Rattle.bb_shell.specs.Boot.{AreRounds, Round, all_attempts, first_table, is_retried}

spend_length : (b : Binding) (table : List ℕ) (target : ℕ) → IsBinding b → length table ≡ b.area_len → target < length b.targets →
    length (spend_of b table target) ≡ length table
spend_length b table target is sized inside =
    let found = target_at b.targets target inside in
    let t = found.0 in
    let left = number_at table t.attempts_at - 1 in
    ap length (spend_is b table target t inside found.1) ∙ by t left found.1 (b.rules.disable_on_zero_attempts && (left == 0))
  where
    by : (t : BoundTarget) (left : ℕ) → t ≡ get_or b.targets target t → (disables : Bool) →
        length (cond disables (with_number (spent b table t target left) t.priority_at 0) (spent b table t target left)) ≡ length table
    by t left at true = (disabled_keeps b is table sized target t left inside at).same_length
    by t left at false = (spent_keeps b is table sized target t left inside at).same_length

pub reset_length : (b : Binding) (cause : Cause) (table : List ℕ) → IsBinding b → length table ≡ b.area_len →
    length (first_table b cause true table) ≡ length table
reset_length b cause table is sized =
    (resets_keep b (resets_priorities b table) (resets_attempts b cause (after_priorities b table)) table is sized).same_length

pub few_rounds : (b : Binding) (plans : List (Option Plan)) (table : List ℕ) (rounds : List Round) → IsBinding b →
    length table ≡ b.area_len → AreRounds b plans table rounds → length rounds ≤ all_attempts b table
unfolding AreRounds
few_rounds b plans table [] is sized are = omega arith
few_rounds b plans table (round ∷ later) is sized are =
    by (λ same more. few_rounds b plans round.table later is same more) (is_retried b round.outcome) refl are.1
  where
    by : (length round.table ≡ b.area_len → AreRounds b plans round.table later → length later ≤ all_attempts b round.table) → (t : Bool) → is_retried b round.outcome ≡ t →
        MatchBool (is_retried b round.outcome) (AreRounds b plans round.table later) (later ≡ []) →
        length (round ∷ later) ≤ all_attempts b table
    by again true e h =
        let more : AreRounds b plans round.table later =
        subst (λ t. MatchBool t (AreRounds b plans round.table later) (later ≡ [])) e h in
        let inside = best_there b table round.target are.0.best in
        let same : length round.table ≡ b.area_len = ap length are.0.spent ∙ spend_length b table round.target is sized inside ∙ sized in
        let behind = again same more in
        let spends = subst (λ t. all_attempts b t + 1 ≤ all_attempts b table) (sym are.0.spent) (total_spent b table round.target is sized are.0.best) in
        omega (arith, behind, spends)
    by again false e h =
        let none : later ≡ [] = subst (λ t. MatchBool t (AreRounds b plans round.table later) (later ≡ [])) e h in
        let some = total_some b table round.target are.0.best in
        let one : length (round ∷ later) ≡ 1 = ap (λ l. length (round ∷ l)) none in
        omega (arith, some, one)
