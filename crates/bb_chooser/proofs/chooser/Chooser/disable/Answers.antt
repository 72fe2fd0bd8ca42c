use Rattle.std.proofs.Common.{◌≡◌, List, ℕ, get_or, sym, subst, ap, ◌∙◌}
use Rattle.bb_chooser.proofs.Counts.{disable_is, disabled_without, keeps_none, priority_keeps}
use Rattle.bb_chooser.specs.Binding.{Binding, IsBinding}
use Rattle.bb_chooser.specs.Choosing.{priority_of}
use Rattle.bb_chooser.specs.Others.{KeepsOthers}
use Rattle.bb_chooser.proofs.chooser.Chooser.disable.Goals as goal

pub returns-clause-disabled : goal.returns-clause-disabled
returns-clause-disabled c =
    let b = c.args.self.now in
    let table = c.args.table.now in
    let target = c.args.target in
    let t = c.index-disabled.result.now in
    let at : t ≡ get_or b.targets target t = c.index-disabled.ensures ∙ ap (λ (x : Binding). get_or x.targets target t) c.self.view_is in
    c.put_number.ensures.put ∙ sym (disable_is b table target t c.requires.there at)

pub returns-clause-without : goal.returns-clause-without
returns-clause-without c =
    let b = c.args.self.now in
    let table = c.args.table.now in
    let target = c.args.target in
    let t = c.index-disabled.result.now in
    let at : t ≡ get_or b.targets target t = c.index-disabled.ensures ∙ ap (λ (x : Binding). get_or x.targets target t) c.self.view_is in
    ap (λ (l : List ℕ). priority_of b l target) c.put_number.ensures.put
    ∙ disabled_without b (subst IsBinding c.self.view_is c.self.invariant) table c.requires.sized target t c.requires.there at

pub returns-clause-others : goal.returns-clause-others
returns-clause-others c =
    let b = c.args.self.now in
    let table = c.args.table.now in
    let target = c.args.target in
    let t = c.index-disabled.result.now in
    let at : t ≡ get_or b.targets target t = c.index-disabled.ensures ∙ ap (λ (x : Binding). get_or x.targets target t) c.self.view_is in
    subst (KeepsOthers b table) (sym c.put_number.ensures.put)
    (priority_keeps b (subst IsBinding c.self.view_is c.self.invariant) table table c.requires.sized (keeps_none b table) target t 0 c.requires.there at)
