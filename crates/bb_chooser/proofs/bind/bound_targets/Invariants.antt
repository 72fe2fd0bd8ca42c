use Rattle.std.proofs.Common.{◌≡◌, ◌++◌, Ok, map}
use Rattle.bb_layout.specs.Results.{all_ok, result_and_then}
use Rattle.std.specs.Vec.Iter.{into_iter_items}
use Rattle.bb_chooser.specs.Binding.{bound_of}
use Rattle.bb_chooser.proofs.bind.bound_targets.Given as goal

-- the targets so far are bound
abbrev pub invariant-loop-target : goal.invariant-loop-target
invariant-loop-target l =
    all_ok (map (bound_of l.layout.name l.layout.vars l.prefix) l.fn.targets.items)
    ≡ result_and_then (λ rest. Ok (l.bound.items ++ rest)) (all_ok (map (bound_of l.layout.name l.layout.vars l.prefix) (into_iter_items l.target-iterator)))
