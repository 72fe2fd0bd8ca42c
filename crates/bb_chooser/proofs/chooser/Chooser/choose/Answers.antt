use Rattle.std.proofs.Common.{◌≡◌, ℕ, List, map, subst, ap, ◌∙◌}
use Rattle.bb_chooser.proofs.Best.{none_exactly}
use Rattle.bb_chooser.specs.Binding.{Binding}
use Rattle.bb_chooser.specs.Choosing.{IsBestIn, QualifiesIn, count_in, counts_of}
use Rattle.bb_chooser.specs.declared.count.Count.{Count}
use Rattle.std.specs.Option.{IfNone, IfSome}
use Rattle.bb_chooser.proofs.chooser.Chooser.choose.Goals as goal

pub returns-clause-none : goal.returns-clause-none
returns-clause-none c =
    let table = c.args.table.now in
    let is : map (count_in table) c.as_slice.result.now ≡ counts_of c.args.self.now table =
    ap (map (count_in table)) (c.as_slice.ensures.value ∙ ap (λ (b : Binding). b.targets) c.self.view_is) in
    none_exactly (counts_of c.args.self.now table) c.best_after.result
    (subst (λ (cs : List Count). IfSome c.best_after.result (IsBestIn cs)) is c.best_after.ensures.best)
    (subst (λ (cs : List Count). IfNone c.best_after.result ((u : ℕ) → QualifiesIn cs u → ⊥)) is c.best_after.ensures.none)
