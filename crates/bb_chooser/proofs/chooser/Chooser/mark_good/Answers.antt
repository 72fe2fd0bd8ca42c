use Rattle.std.proofs.Common.{◌≡◌, get_or, sym, subst, ap, ◌∙◌}
use Rattle.bb_chooser.proofs.Counts.{attempts_keep, chosen_within, keeps_none}
use Rattle.bb_chooser.specs.Binding.{Binding, IsBinding}
use Rattle.bb_chooser.specs.Others.{KeepsOthers}
use Rattle.bb_chooser.proofs.chooser.Chooser.mark_good.Goals as goal

pub returns-clause-others : goal.returns-clause-others
returns-clause-others c =
    let b = c.args.self.now in
    let table = c.args.table.now in
    let target = c.in-Some.target in
    let t = c.index-bound.result.now in
    let at : t ≡ get_or b.targets target t = c.index-bound.ensures ∙ ap (λ (x : Binding). get_or x.targets target t) c.self.view_is in
    subst (KeepsOthers b table) (sym c.put_number.ensures.put)
    (attempts_keep b (subst IsBinding c.self.view_is c.self.invariant) table table c.requires (keeps_none b table) target t t.target.default_attempts (chosen_within b table target c.in-Some.ensures) at)
