use Rattle.std.proofs.Common.{◌≡◌, List, ℕ, Result, IfOk, ◌∙◌, ap, subst, sym}
use Rattle.bb_plan.specs.Plan.{EarlyEnd, SessionPlan, plan_as}
use Rattle.bb_drill_sessions.specs.Rules.{made_by, table_made}
use Rattle.bb_drill_sessions.proofs.made.made.Goals as goal

pub returns : goal.returns
returns c =
    let plan = plan_as c.in_ok-plan.plan in
    subst (λ (p : Result SessionPlan EarlyEnd). IfOk c.bytes_of.result (λ made. made ≡ table_made p c.args.table.now)) (sym c.in_ok-plan.ensures.is)
    (subst (λ (t : List ℕ). IfOk c.bytes_of.result (λ made. made ≡ t))
    (c.bytes.ensures ∙ c.in_ok-follow.ensures ∙ ap (made_by plan) c.in_ok-made.ensures) c.bytes_of.ensures)
