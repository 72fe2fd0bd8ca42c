use Rattle.std.proofs.Common.{◌≡◌, ◌∙◌, ap, arith, reverse}
use Rattle.std.proofs.lemmas.Grind.{common_steps}
use Rattle.bb_history.proofs.Backwards.{on_err, pushed_back}
use Rattle.bb_history.proofs.places.Places.push.Goals as goal

pub returns-clause-ok : goal.returns-clause-ok
returns-clause-ok c =
    pushed_back c.self.inside.found.items _ c.push.new.self.items c.args.place c.self.view_is
    (grind (arith, common_steps, c.in_ok-push.ensures.items))

pub returns-in_err-push-clause-err : goal.returns-in_err-push-clause-err
returns-in_err-push-clause-err c =
    let same : c.push.new.self.items ≡ c.self.inside.found.items = grind (arith, common_steps, c.in_err-push.ensures.items) in
    on_err c.from_residual.result (ap reverse same ∙ c.self.view_is)
