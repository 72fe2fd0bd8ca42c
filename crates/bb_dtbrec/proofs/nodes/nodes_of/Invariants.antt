use Rattle.std.proofs.Common.{take}
use Rattle.bb_layout.specs.Record.{grown_by}
use Rattle.bb_dtbrec.specs.Layouts.{field_for}
use Rattle.bb_dtbrec.specs.Spine.{SpellsNodes}
use Rattle.bb_dtbrec.proofs.nodes.nodes_of.Given as goal

-- the variables so far are written
abbrev pub invariant-loop-place : goal.invariant-loop-place
invariant-loop-place l =
    SpellsNodes (grown_by field_for (take l.place l.vars)) l.pieces.items l.ends.items
