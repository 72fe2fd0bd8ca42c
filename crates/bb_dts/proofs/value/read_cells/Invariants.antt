use Rattle.std.proofs.Common.{◌≡◌, ◌≤◌, length}
use Rattle.bb_dts.specs.Places.{Cells}
use Rattle.bb_dts.specs.Descent.{value_walk_from}
use Rattle.bb_dts.proofs.value.read_cells.Given as goal

-- the walk from the beginning is the walk from here
abbrev pub invariant-loop-token : goal.invariant-loop-token
invariant-loop-token l =
    (value_walk_from l.input.total Cells l.fn.property l.text
    ≡ value_walk_from l.input.total Cells l.property l.rest) × (length l.rest ≤ length l.text)
    × (l.property.name ≡ l.fn.property.name)

abbrev pub decreases-loop-token : goal.decreases-loop-token
decreases-loop-token l = length l.rest
