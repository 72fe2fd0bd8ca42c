use Rattle.std.proofs.Common.{List, ℕ, sym, ap, ◌∙◌}
use Rattle.bb_chooser.proofs.Alone.{bound_to}
use Rattle.bb_chooser.proofs.Bound.{binding_is}
use Rattle.bb_chooser.specs.Binding.{last_chosen_name, uint32_at}
use Rattle.bb_chooser.proofs.chooser.bound_chooser.Goals as goal

pub invariant_of-result : goal.invariant_of-result
invariant_of-result c =
    let layout = c.args.layout.now in
    binding_is layout.area_len layout.name layout.vars layout.facts.vars_are c.as_str.result.now c.settings.inside.rules c.settings.inside.targets.items
    c.in_ok-targets.targets.items c.in_ok-last_chosen_at.last_chosen_at layout.facts.area_most c.settings.invariant c.in_ok-targets.ensures.ok
    (ap (λ (p : List ℕ). uint32_at layout.name layout.vars (last_chosen_name p)) (c.as_str.ensures ∙ sym c.as_str-2.ensures) ∙ c.in_ok-last_chosen_at.ensures.ok)

pub returns-clause-bound : goal.returns-clause-bound
returns-clause-bound c =
    let layout = c.args.layout.now in
    bound_to layout.area_len layout.name layout.vars layout.facts.vars_are c.as_str.result.now c.settings.inside.rules c.settings.inside.targets.items
    c.in_ok-targets.targets.items c.in_ok-last_chosen_at.last_chosen_at c.in_ok-targets.ensures.ok
    (ap (λ (p : List ℕ). uint32_at layout.name layout.vars (last_chosen_name p)) (c.as_str.ensures ∙ sym c.as_str-2.ensures) ∙ c.in_ok-last_chosen_at.ensures.ok)
