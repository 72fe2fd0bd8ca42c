-- What the last round makes of a boot's end.
use Rattle.std.proofs.Common.{◌≡◌, ℕ, ◌+◌, ◌++◌, ◌&&◌, Bool, true, false, List, [], ◌∷◌, Option, Some, None, ap, arith, inl, inr, refl, sym, ◌∙◌}
use Rattle.std.proofs.lemmas.Bool.{false≢true}
use Rattle.std.specs.Option.{IsSomeAnd, option_map}
use Rattle.std.specs.Prelude.{is_some}
use Rattle.bb_base.specs.Faults.{Rose}
use Rattle.bb_chooser.specs.Binding.{Binding}
use Rattle.bb_flash.specs.declared.plan.Plan.{Plan}
use Rattle.bb_flash.specs.Device.{Device, Start, Told, starts}
use Rattle.bb_state.specs.Keyed.{Keyed}
use Rattle.bb_shell.proofs.Joins.{some_is}
use Rattle.bb_shell.proofs.Saves.{write_fault}
use Rattle.bb_shell.specs.Boot.{IsOutcome, Round, end_by, has_failed, is_retried, plan_at}
use Rattle.bb_shell.specs.Ends.{AddsStart, AddsStarts, HasEndCause, RaisedBy, StartsOnce, failed_start}
use Rattle.bb_shell.specs.Running.{IsRoundRun, is_refused_save}
use Rattle.bb_shell.specs.declared.outcome.Outcome.{Outcome}
use Rattle.bb_shell.specs.declared.outcome.Outcome.TheVariants.{Refused, Unplanned, Failed, Started}

-- ---- starts

once_joined : (plan : Plan) (from mid to : Device) → starts mid ≡ starts from → is_some mid.told ≡ is_some from.told → StartsOnce mid to plan → StartsOnce from to plan
once_joined plan from mid to same told once = record { added = λ first h last k. by mid.told refl first h last k }
  where
    by : (o : Option Told) → mid.told ≡ o → (first : Told) → from.told ≡ Some first → (last : Told) → to.told ≡ Some last →
        last.starts ≡ first.starts ++ (record { plan = plan; image = last.image }) ∷ []
    by None e first h last k = absurd (false≢true (sym (ap is_some e) ∙ told ∙ ap is_some h))
    by (Some middle) e first h last k =
        let before : middle.starts ≡ first.starts =
        some_is middle.starts first.starts
        (sym (ap (option_map (λ (t : Told). t.starts)) e) ∙ same ∙ ap (option_map (λ (t : Told). t.starts)) h) in
        once.added middle e last k ∙ ap (λ (l : List Start). l ++ (record { plan = plan; image = last.image }) ∷ []) before

pub some_joined : (o : Option Plan) (from mid to : Device) → starts mid ≡ starts from → is_some mid.told ≡ is_some from.told →
    IsSomeAnd o (StartsOnce mid to) → IsSomeAnd o (StartsOnce from to)
some_joined None from mid to same told h = h
some_joined (Some plan) from mid to same told h = once_joined plan from mid to same told h

-- after rounds that started nothing
pub end_adds : (b : Binding) (plans : List (Option Plan)) (tries : ℕ) (round : Round) (outcome : Outcome) (from mid to : Device) →
    starts mid ≡ starts from → is_some mid.told ≡ is_some from.told →
    AddsStart (plan_at plans round.target) outcome mid to → AddsStarts plans from to (end_by b tries round outcome)
end_adds b plans tries round (Refused fault) from mid to same told h = h ∙ same
end_adds b plans tries round Unplanned from mid to same told h = h ∙ same
end_adds b plans tries round Failed from mid to same told h = h ∙ same
end_adds b plans tries round Started from mid to same told h = some_joined (plan_at plans round.target) from mid to same told h

pub and_none : (u : Bool) → (u && false) ≡ false
and_none true = refl
and_none false = refl

-- a round that is followed by another started nothing
pub retried_starts : (b : Binding) (plan : Option Plan) (outcome : Outcome) (from to : Device) → is_retried b outcome ≡ true →
    AddsStart plan outcome from to → starts to ≡ starts from
retried_starts b plan (Refused fault) from to h adds = adds
retried_starts b plan Unplanned from to h adds = adds
retried_starts b plan Failed from to h adds = adds
retried_starts b plan Started from to h adds = absurd (false≢true (sym (and_none b.rules.retry) ∙ h))

-- and its save wasn't refused
pub retried_saved : (b : Binding) (outcome : Outcome) → is_retried b outcome ≡ true → is_refused_save outcome ≡ false
retried_saved b (Refused fault) h = absurd (false≢true (sym (and_none b.rules.retry) ∙ h))
retried_saved b Unplanned h = refl
retried_saved b Failed h = refl
retried_saved b Started h = refl

-- it failed
pub retried_failed : (b : Binding) (outcome : Outcome) → is_retried b outcome ≡ true → has_failed outcome ≡ true
retried_failed b (Refused fault) h = absurd (false≢true (sym (and_none b.rules.retry) ∙ h))
retried_failed b Unplanned h = refl
retried_failed b Failed h = refl
retried_failed b Started h = absurd (false≢true (sym (and_none b.rules.retry) ∙ h))

-- ---- causes

rose_once : (n one two : ℕ) → RaisedBy (n + 1) one two → Rose one two
rose_once n one two h = omega arith

pub end_cause : (b : Binding) (plans : List (Option Plan)) (tries : ℕ) (round : Round) (keyed : Keyed) (kept : Option (List ℕ)) (used now : Option ℕ)
    (mid to : Device) (outcome : Outcome) (from : Device) (n : ℕ) →
    IsRoundRun keyed plans kept used now (record round { outcome = outcome }) mid to → IsOutcome (plan_at plans round.target) outcome →
    RaisedBy (n + failed_start outcome) from.start_faults to.start_faults →
    HasEndCause plans from to (end_by b tries round outcome)
end_cause b plans tries round keyed kept used now mid to (Refused fault) from n run fits rose =
    write_fault keyed kept used now round.table fault mid run.middle run.saved
end_cause b plans tries round keyed kept used now mid to Unplanned from n run fits rose = inl fits
end_cause b plans tries round keyed kept used now mid to Failed from n run fits rose = inr (rose_once n from.start_faults to.start_faults rose)
end_cause b plans tries round keyed kept used now mid to Started from n run fits rose = tt
