use Rattle.std.proofs.Common.{rules, ◌≡◌, Ok, Err, ap, ◌∙◌}
use Rattle.bb_chooser.proofs.Binds.{no_priority}
use Rattle.bb_chooser.proofs.Reading.{handed_on}
use Rattle.bb_chooser.specs.Binding.{attempts_name, bound_of, priority_name, uint32_at}
use Rattle.bb_chooser.specs.declared.settings_error.SettingsError.TheVariants.{NoMemory}
use Rattle.bb_chooser.proofs.bind.bound_target.Goals as goal

pub returns-in_err-priority_at-clause-refused : goal.returns-in_err-priority_at-clause-refused
returns-in_err-priority_at-clause-refused c =
    let name = c.args.layout.now.name in
    let vars = c.args.layout.now.vars in
    let prefix = c.args.prefix.now in
    let target = c.args.target in
    let at = c.in_ok-attempts_at.attempts_at in
    let named : priority_name prefix target.name ≡ c.as_str-2.result.now = search rules in
    let attempts : uint32_at name vars (attempts_name prefix target.name) ≡ Ok at = search rules in
    handed_on NoMemory (λ e. bound_of name vars prefix target ≡ Err e) c.from_residual-in_err-priority_at.result
    c.in_err-priority_at.field-0.0 c.from_residual-in_err-priority_at.ensures.1
    (λ told. no_priority name vars prefix target at c.in_err-priority_at.field-0.0 attempts
    (ap (uint32_at name vars) named ∙ c.in_err-priority_at.ensures.refused told))
