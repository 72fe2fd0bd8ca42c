use Rattle.std.proofs.Common.{◌≡◌, ◌++◌, drop, length, map}
use Rattle.bb_dtbrec.specs.Spine.{begin_piece, marks}
use Rattle.bb_dtbrec.proofs.nodes.begin_nodes.Given as goal

-- with the names that are left it is the whole
abbrev pub invariant-loop-place : goal.invariant-loop-place
invariant-loop-place l =
    (l.pieces.items ++ map begin_piece (drop l.place l.path)
    ≡ l.fn.pieces.items ++ map begin_piece (drop l.depth l.path))
    × (l.ends.items ++ marks (length l.pieces.items) (drop l.place l.path)
    ≡ l.fn.ends.items ++ marks (length l.fn.pieces.items) (drop l.depth l.path))
