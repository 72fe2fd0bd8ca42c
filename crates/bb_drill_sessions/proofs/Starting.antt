-- The start that a session makes, if it makes one.
use Rattle.std.proofs.Common.{◌≡◌, List, [], Option, Some, None, refl, ap, ◌∙◌, if◌then◌else◌}
use Rattle.std.specs.Option.{IsSomeAnd, option_and_then}
use Rattle.bb_flash.specs.Device.{Device, starts}
use Rattle.bb_flash.specs.declared.plan.Plan.{Plan as StartPlan}
use Rattle.bb_plan.specs.Plan.{SessionPlan}
use Rattle.bb_session.proofs.Started.{work_started}
use Rattle.bb_session.specs.Acting.{WorkAnswers, start_plans_of}
use Rattle.bb_session.specs.Booting.{start_in, start_of}
use Rattle.bb_session.specs.Session.{LoadAnswer, work_session}
use Rattle.bb_session.specs.Work.{IsWork}
use Rattle.bb_shell.specs.Boot.{Round, last_round, plan_at}
use Rattle.bb_shell.specs.Ends.{AddsStart, StartsOnce}
use Rattle.bb_shell.specs.Rounds.{is_started}
use Rattle.bb_shell.specs.Sequence.{AddsBy}
use Rattle.bb_shell.specs.declared.outcome.Outcome.{Outcome}
use Rattle.bb_shell.specs.declared.outcome.Outcome.TheVariants as outcomes

-- the starts grow by this one, if there is one, made with what the device holds at exit
abbrev pub AddsOne : Option StartPlan → Device → Device → Type 0
AddsOne None from to = starts to ≡ starts from
AddsOne (Some plan) from to = StartsOnce from to plan

planned_start : (o : Option StartPlan) (from to : Device) → IsSomeAnd o (StartsOnce from to) → AddsOne o from to
planned_start None from to h = absurd h
planned_start (Some plan) from to h = h

-- of the last round
last_start : (plans : List (Option StartPlan)) (last : Option Round) (from to : Device) → AddsBy plans from to last →
    AddsOne (option_and_then (start_in plans) last) from to
last_start plans None from to h = h
last_start plans (Some round) from to h = at round.outcome h
  where
    at : (outcome : Outcome) → AddsStart (plan_at plans round.target) outcome from to →
        AddsOne (if is_started outcome then plan_at plans round.target else None) from to
    at (outcomes.Refused fault) h = h
    at outcomes.Unplanned h = h
    at outcomes.Failed h = h
    at outcomes.Started h = planned_start (plan_at plans round.target) from to h

pub work_start : (plan : SessionPlan) (from to : Device) (load : LoadAnswer) (answers : WorkAnswers) → IsWork plan from to load answers →
    AddsOne (start_of plan.work (work_session plan load answers).rounds) from to
work_start plan from to load answers work =
    last_start (start_plans_of plan.work) (last_round (work_session plan load answers).rounds) from to
    (work_started plan from to load answers work).adds

-- without a plan there is none
unplanned : (last : Option Round) → option_and_then (start_in []) last ≡ None
unplanned None = refl
unplanned (Some round) = at round.outcome
  where
    at : (outcome : Outcome) → (if is_started outcome then plan_at [] round.target else None) ≡ None
    at (outcomes.Refused fault) = refl
    at outcomes.Unplanned = refl
    at outcomes.Failed = refl
    at outcomes.Started = refl

pub none_started : (plan : SessionPlan) (rounds : List Round) → start_plans_of plan.work ≡ [] → start_of plan.work rounds ≡ None
none_started plan rounds none = ap (λ plans. option_and_then (start_in plans) (last_round rounds)) none ∙ unplanned (last_round rounds)
