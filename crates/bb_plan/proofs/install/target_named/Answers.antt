use Rattle.std.proofs.Common.{◌≡◌, ◌∙◌, ℕ, Option, Some, None, Err, ap, sym, refl}
use Rattle.std.specs.Option.{ok_or}
use Rattle.bb_chooser.specs.Choosing.{target_place}
use Rattle.bb_plan.specs.Installing.{target_by}
use Rattle.bb_plan.specs.declared.refusal.Refusal.TheVariants.{BadTarget}
use Rattle.bb_plan.proofs.Readings.{refused_step}
use Rattle.bb_plan.proofs.install.target_named.Goals as goal

pub returns-in-Some-clause-gives : goal.returns-in-Some-clause-gives
returns-in-Some-clause-gives c =
    let found : target_place c.args.chooser.now c.args.name.now ≡ Some c.in-Some.target =
    cc (c.find.ensures.value, c.in-Some.is, c.as_str.ensures) in
    ap (λ (o : Option ℕ). ok_or o (BadTarget c.args.name.now)) found

pub returns-in_err-copy-in-None-clause-gives : goal.returns-in_err-copy-in-None-clause-gives
returns-in_err-copy-in-None-clause-gives c =
    refused_step (target_by c.args.name.now c.args.chooser.now) (λ (t : ℕ). t)
    c.from_residual.result c.from_residual.ensures.1 (λ some. absurd (some refl))

pub returns-in_ok-copy-in-None-clause-gives : goal.returns-in_ok-copy-in-None-clause-gives
returns-in_ok-copy-in-None-clause-gives c =
    let found : target_place c.args.chooser.now c.args.name.now ≡ None =
    cc (c.find.ensures.value, c.in-None.is, c.as_str.ensures) in
    let name = c.in_ok-copy-in-None.ensures in
    λ some. ap (λ (o : Option ℕ). ok_or o (BadTarget c.args.name.now)) found
    ∙ ap (λ n. Err (BadTarget n)) (sym name)
