use Rattle.std.proofs.Common.{◌∙◌, ℕ, All, List, ap, length, subst, sym}
use Rattle.bb_actions.proofs.Values.{are_fitting}
use Rattle.bb_actions.specs.Actions.{FitsArea}
use Rattle.test_readers.proofs.tests.actions.text_of.Goals as goal

pub put_values-requires : goal.put_values-requires
put_values-requires c =
    let layout = c.args.layout.now in
    subst (λ n. All (FitsArea n) c.args.actions.now) (c.requires.sized ∙ sym (ap (λ (t : List ℕ). length t) c.in_ok-table.ensures))
    (are_fitting layout.area_len layout.vars layout.facts.vars_are c.args.actions.now c.requires.bound)
