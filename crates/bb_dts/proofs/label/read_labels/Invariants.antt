use Rattle.std.proofs.Common.{◌≡◌, ◌≤◌, [], length}
use Rattle.bb_dts.specs.Descent.{labels_walk_from}
use Rattle.bb_dts.proofs.label.read_labels.Given as goal

-- the walk from the beginning is the walk from here, with the labels read
abbrev pub invariant-loop-waiting : goal.invariant-loop-waiting
invariant-loop-waiting l =
    (labels_walk_from l.input.total l.level [] l.text
    ≡ labels_walk_from l.input.total l.level l.waiting.items l.rest)
    × (length l.rest ≤ length l.text)

abbrev pub decreases-loop-waiting : goal.decreases-loop-waiting
decreases-loop-waiting l = length l.rest
