use Rattle.std.proofs.Common.{List, map, sym, ap, ◌∙◌}
use Rattle.bb_layout.specs.Results.{all_ok}
use Rattle.std.specs.Vec.Iter.{into_iter_items}
use Rattle.bb_chooser.proofs.Binds.{onto_bound, bound_next}
use Rattle.bb_chooser.specs.Binding.{bound_of}
use Rattle.bb_chooser.specs.declared.bound_target.BoundTarget.{BoundTarget}
use Rattle.bb_chooser.specs.declared.target.Target.{Target}
use Rattle.bb_chooser.proofs.bind.bound_targets.Goals as goal

pub loop-target-preserved : goal.loop-target-preserved
loop-target-preserved c =
    let layout = c.args.layout.now in
    let f = bound_of layout.name layout.vars c.args.prefix.now in
    let rest = into_iter_items c.next.new.self in
    c.loop-target.invariant ∙ ap (λ (l : List Target). onto_bound c.loop-target.bound.items (all_ok (map f l))) c.in-Some.ensures.steps.0
    ∙ bound_next f c.loop-target.bound.items c.in-Some.target rest c.in_ok-bound_target.field-0 c.in_ok-bound_target.ensures.ok
    ∙ ap (λ (l : List BoundTarget). onto_bound l (all_ok (map f rest))) (sym c.in_ok-add_bound.ensures)
