use Rattle.std.proofs.Common.{◌≡◌, ℕ, List, sym, subst, ap, ◌∙◌}
use Rattle.bb_chooser.proofs.Best.{none_exactly}
use Rattle.bb_chooser.proofs.Resetting.{counts_left}
use Rattle.bb_chooser.specs.After.{counts_after}
use Rattle.bb_chooser.specs.Binding.{Binding, IsBinding}
use Rattle.bb_chooser.specs.Choosing.{IsBestIn, QualifiesIn, counts_of}
use Rattle.bb_chooser.specs.Resets.{reset_of}
use Rattle.bb_chooser.specs.declared.count.Count.{Count}
use Rattle.bb_chooser.specs.declared.resets.Resets.{Resets}
use Rattle.std.specs.Option.{IfNone, IfSome}
use Rattle.bb_chooser.proofs.chooser.Chooser.choose_after.Goals as goal

pub returns-clause-best : goal.returns-clause-best
returns-clause-best c =
    let table = c.args.table.now in
    let b = c.args.self.now in
    let is : counts_after c.resets.result table c.as_slice.result.now ≡ counts_of b (reset_of b c.args.cause table) =
    ap (counts_after c.resets.result table) (c.as_slice.ensures.value ∙ ap (λ (x : Binding). x.targets) c.self.view_is)
    ∙ ap (λ (r : Resets). counts_after r table b.targets) c.resets.ensures
    ∙ sym (counts_left b c.args.cause table (subst IsBinding c.self.view_is c.self.invariant) c.requires) in
    subst (λ (cs : List Count). IfSome c.best_after.result (IsBestIn cs)) is c.best_after.ensures.best

pub returns-clause-none : goal.returns-clause-none
returns-clause-none c =
    let table = c.args.table.now in
    let b = c.args.self.now in
    let is : counts_after c.resets.result table c.as_slice.result.now ≡ counts_of b (reset_of b c.args.cause table) =
    ap (counts_after c.resets.result table) (c.as_slice.ensures.value ∙ ap (λ (x : Binding). x.targets) c.self.view_is)
    ∙ ap (λ (r : Resets). counts_after r table b.targets) c.resets.ensures
    ∙ sym (counts_left b c.args.cause table (subst IsBinding c.self.view_is c.self.invariant) c.requires) in
    none_exactly (counts_of b (reset_of b c.args.cause table)) c.best_after.result
    (subst (λ (cs : List Count). IfSome c.best_after.result (IsBestIn cs)) is c.best_after.ensures.best)
    (subst (λ (cs : List Count). IfNone c.best_after.result ((u : ℕ) → QualifiesIn cs u → ⊥)) is c.best_after.ensures.none)
