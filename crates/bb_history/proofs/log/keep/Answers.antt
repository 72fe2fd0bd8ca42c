use Rattle.std.proofs.Common.{◌≡◌, ◌∙◌, List, ℕ, OnOk, subst, sym}
use Rattle.bb_history.proofs.Walking.{failing_kept, passing_kept}
use Rattle.bb_history.proofs.log.keep.Goals as goal

pub returns-then-not-passes : goal.returns-then-not-passes
returns-then-not-passes c =
    failing_kept c.args.pages c.args.ended c.args.places.now (sym c.passes.ensures ∙ c.if-not-passes.true)

pub returns : goal.returns
returns c =
    subst (λ (places : List ℕ). OnOk c.push.result (c.push.new.self ≡ places))
    (passing_kept c.args.pages c.args.ended c.args.places.now (sym c.passes.ensures ∙ c.if-not-passes.false))
    c.push.ensures.ok
