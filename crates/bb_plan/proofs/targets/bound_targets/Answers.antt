use Rattle.std.proofs.Common.{◌∙◌, ap}
use Rattle.bb_chooser.specs.Binding.{Binding}
use Rattle.bb_layout.specs.Layout.{fields_of}
use Rattle.bb_layout.specs.Results.{result_and_then}
use Rattle.bb_plan.specs.PlanSteps.{binding_by, bound_on, refused_as, targets_by}
use Rattle.bb_plan.specs.declared.refusal.Refusal.TheVariants.{BadSettings}
use Rattle.bb_plan.proofs.Readings.{refused_step}
use Rattle.bb_plan.proofs.Sources.{settings_refused}
use Rattle.bb_plan.proofs.targets.bound_targets.Goals as goal

pub returns-in_err-settings-clause-gives : goal.returns-in_err-settings-clause-gives
returns-in_err-settings-clause-gives c =
    let layout = fields_of c.args.layout.now in
    refused_step (targets_by layout c.args.text.now) (λ (b : Binding). b) c.from_residual.result
    c.from_residual.ensures.1
    (settings_refused (binding_by layout c.args.text.now) c.in_err-settings.field-0.0
    (λ known. ap (result_and_then (bound_on layout)) (c.in_err-settings.ensures.refused known)))

pub returns-in_err-bind-clause-gives : goal.returns-in_err-bind-clause-gives
returns-in_err-bind-clause-gives c =
    let layout = fields_of c.args.layout.now in
    refused_step (targets_by layout c.args.text.now) (λ (b : Binding). b)
    c.from_residual-in_err-bind.result c.from_residual-in_err-bind.ensures.1
    (settings_refused (binding_by layout c.args.text.now) c.in_err-bind.field-0.0
    (λ known. ap (result_and_then (bound_on layout)) c.in_ok-settings.ensures.ok
    ∙ c.in_err-bind.ensures.refused known))

pub returns-clause-gives : goal.returns-clause-gives
returns-clause-gives c =
    ap (λ r. refused_as BadSettings (result_and_then (bound_on (fields_of c.args.layout.now)) r))
    c.in_ok-settings.ensures.ok
    ∙ ap (refused_as BadSettings) c.in_ok-bind.ensures.ok
