-- Rounds after others, and the last of them.
use Rattle.std.proofs.Common.{◌≡◌, ℕ, ◌≤◌, Bool, true, false, List, [], ◌∷◌, ◌++◌, Option, Some, None, ap, append-nil, arith, cond, refl, sym, subst, ◌∙◌}
use Rattle.std.proofs.lemmas.Bool.{false≢true}
use Rattle.std.proofs.lemmas.List.Sums.{sum_by-cons}
use Rattle.std.specs.Option.{option_map_or}
use Rattle.std.specs.Prelude.{MatchBool, option_and_then}
use Rattle.bb_base.specs.Faults.{Rose}
use Rattle.bb_chooser.specs.Binding.{Binding}
use Rattle.bb_flash.specs.Device.{Device}
use Rattle.bb_flash.specs.declared.plan.Plan.{Plan}
use Rattle.bb_state.specs.Keyed.{Keyed}
use Rattle.bb_shell.proofs.Joins.{some_is}
use Rattle.bb_shell.proofs.LastRounds.{kept_cons, last_cons, last_joined}
use Rattle.bb_shell.specs.Boot.{AreRounds, IsOutcome, Round, has_failed, is_retried, last_round, plan_at, table_after}
use Rattle.bb_shell.specs.Ends.{RaisedBy, failed_start, failed_starts, is_failed_start}
use Rattle.bb_shell.specs.Sequence.{RanRounds, StopsThere, goes_on, refused_in, started_last}
use Rattle.bb_shell.specs.Rounds.{is_started}
use Rattle.bb_shell.specs.Running.{AreRun, refusal_of}
use Rattle.bb_shell.specs.Stages.{kept_after}
use Rattle.bb_shell.specs.declared.outcome.Outcome.{Outcome}
use Rattle.bb_shell.specs.declared.outcome.Outcome.TheVariants.{Refused, Unplanned, Failed, Started}
use Rattle.bb_shell.proofs.Sequence.{cons_nil, ran_rounds}

module _ (keyed : Keyed) (plans : List (Option Plan)) where
  pub run_joined : (one two : List Round) (kept : Option (List ℕ)) (used mid now : Option ℕ) (from device to : Device) →
      AreRun keyed plans kept used mid one from device → AreRun keyed plans (kept_after kept one) mid now two device to →
      AreRun keyed plans kept used now (one ++ two) from to
  unfolding AreRun
  run_joined [] two kept used mid now from device to first second =
      subst (λ d. AreRun keyed plans kept used now two d to) first.1 (subst (λ u. AreRun keyed plans kept u now two device to) first.0 second)
  run_joined (round ∷ one) two kept used mid now from device to first second = record {
    copy = first.copy;
    device = first.device;
    before = first.before;
    behind =
        run_joined one two (Some round.table) first.copy mid now first.device device to first.behind
        (subst (λ k. AreRun keyed plans k mid now two device to) (kept_cons kept round one) second);
  }

goes_cons : (round next : Round) (later : List Round) → goes_on (round ∷ next ∷ later) ≡ goes_on (next ∷ later)
goes_cons round next later = ap (λ (last : Option Round). option_map_or (λ (r : Round). has_failed r.outcome) last true) (last_cons round next later)

pub stops_joined : (one two : List Round) → StopsThere one → goes_on one ≡ true → StopsThere two → StopsThere (one ++ two)
unfolding StopsThere
stops_joined [] two first goes second = second
stops_joined (round ∷ []) two first goes second = (λ unfailed. absurd (false≢true (sym unfailed ∙ goes)), second)
stops_joined (round ∷ next ∷ one) two first goes second = (
  λ unfailed. absurd (cons_nil next one (first.0 unfailed)),
  stops_joined (next ∷ one) two first.1 (sym (goes_cons round next one) ∙ goes) second,
)

failed_goes : (o : Option Round) → option_map_or (λ (r : Round). has_failed r.outcome) o true ≡ true → option_and_then (λ (r : Round). refusal_of r.outcome) o ≡ None
failed_goes None h = refl
failed_goes (Some round) h = by round.outcome h
  where
    by : (outcome : Outcome) → has_failed outcome ≡ true → refusal_of outcome ≡ None
    by (Refused fault) h = absurd (false≢true h)
    by Unplanned h = refl
    by Failed h = refl
    by Started h = refl

-- rounds after which another may come were not refused
pub goes_unrefused : (rounds : List Round) → goes_on rounds ≡ true → refused_in rounds ≡ None
goes_unrefused rounds goes = failed_goes (last_round rounds) goes

pub refused_joined : (one two : List Round) → goes_on one ≡ true → refused_in (one ++ two) ≡ refused_in two
refused_joined one [] goes = ap refused_in (append-nil one) ∙ goes_unrefused one goes
refused_joined one (round ∷ two) goes = ap (option_and_then (λ (r : Round). refusal_of r.outcome)) (last_joined one round two)

pub goes_joined : (one two : List Round) → goes_on one ≡ true → goes_on (one ++ two) ≡ goes_on two
goes_joined one [] goes = ap goes_on (append-nil one) ∙ goes
goes_joined one (round ∷ two) goes = ap (λ (last : Option Round). option_map_or (λ (r : Round). has_failed r.outcome) last true) (last_joined one round two)

-- rounds of one command after those of another, after which another may come
pub ran_joined : (keyed : Keyed) (plans : List (Option Plan)) (one two : List Round) (kept : Option (List ℕ)) (used mid now : Option ℕ) (from device to : Device) →
    from.geometry ≡ keyed.layout.geometry → goes_on one ≡ true → RanRounds keyed plans kept used mid one from device →
    RanRounds keyed plans (kept_after kept one) mid now two device to → RanRounds keyed plans kept used now (one ++ two) from to
ran_joined keyed plans one two kept used mid now from device to geometry goes first second =
    ran_rounds keyed plans (one ++ two) kept used now from to geometry (stops_joined one two first.stops goes second.stops)
    (run_joined keyed plans one two kept used mid now from device to first.run second.run)

-- ---- the last round

-- of a boot: what came of it fits its plan
pub last_fits : (b : Binding) (plans : List (Option Plan)) (table : List ℕ) (rounds : List Round) → AreRounds b plans table rounds →
    (round : Round) → last_round rounds ≡ Some round → IsOutcome (plan_at plans round.target) round.outcome
unfolding AreRounds
last_fits b plans table [] are round is = absurd cc
last_fits b plans table (first ∷ []) are round is =
    subst (λ (r : Round). IsOutcome (plan_at plans r.target) r.outcome) (some_is first round is) are.0.outcome
last_fits b plans table (first ∷ next ∷ later) are round is =
    at (λ more. last_fits b plans first.table (next ∷ later) more round (sym (last_cons first next later) ∙ is))
    (is_retried b first.outcome) refl are.1
  where
    at : (AreRounds b plans first.table (next ∷ later) → IsOutcome (plan_at plans round.target) round.outcome) →
        (t : Bool) → is_retried b first.outcome ≡ t →
        MatchBool (is_retried b first.outcome) (AreRounds b plans first.table (next ∷ later)) (next ∷ later ≡ []) →
        IsOutcome (plan_at plans round.target) round.outcome
    at again true e h =
        again (subst (λ t. MatchBool t (AreRounds b plans first.table (next ∷ later)) (next ∷ later ≡ [])) e h)
    at again false e h =
        absurd (cons_nil next later (subst (λ t. MatchBool t (AreRounds b plans first.table (next ∷ later)) (next ∷ later ≡ [])) e h))

-- a start that failed counts
pub last_counted : (rounds : List Round) (round : Round) → last_round rounds ≡ Some round → is_failed_start round.outcome ≡ true → 1 ≤ failed_starts rounds
last_counted [] round is failed = absurd cc
last_counted (first ∷ []) round is failed =
    let sum = sum_by-cons (λ (r : Round). failed_start r.outcome) first [] in
    let one : failed_start first.outcome ≡ 1 = ap (λ f. cond f 1 0) (ap (λ (r : Round). is_failed_start r.outcome) (some_is first round is) ∙ failed) in
    omega (arith, sum, one)
last_counted (first ∷ next ∷ later) round is failed =
    let sum = sum_by-cons (λ (r : Round). failed_start r.outcome) first (next ∷ later) in
    let rest = last_counted (next ∷ later) round (sym (last_cons first next later) ∙ is) failed in
    omega (arith, sum, rest)

pub rose_some : (n before now : ℕ) → 1 ≤ n → RaisedBy n before now → Rose before now
rose_some n before now some rose = omega arith

-- what is kept after a start is the table of its round
pub started_kept : (kept : Option (List ℕ)) (table : List ℕ) (rounds : List Round) → started_last rounds ≡ true →
    kept_after kept rounds ≡ Some (table_after table rounds)
started_kept kept table rounds = by (last_round rounds)
  where
    by : (last : Option Round) → option_map_or (λ (r : Round). is_started r.outcome) last false ≡ true →
        option_map_or (λ (r : Round). Some r.table) last kept ≡ Some (option_map_or (λ (r : Round). r.table) last table)
    by None started = absurd (false≢true started)
    by (Some round) started = refl

-- and then no save was refused
pub started_unrefused : (rounds : List Round) → started_last rounds ≡ true → refused_in rounds ≡ None
started_unrefused rounds = by (last_round rounds)
  where
    at : (outcome : Outcome) → is_started outcome ≡ true → refusal_of outcome ≡ None
    at (Refused fault) started = absurd (false≢true started)
    at Unplanned started = refl
    at Failed started = refl
    at Started started = refl

    by : (last : Option Round) → option_map_or (λ (r : Round). is_started r.outcome) last false ≡ true →
        option_and_then (λ (r : Round). refusal_of r.outcome) last ≡ None
    by None started = refl
    by (Some round) started = at round.outcome started
