use Rattle.std.proofs.Common.{◌≡◌, ◌++◌, replicate}
use Rattle.bb_dtbrec.specs.Spine.{end_piece}
use Rattle.bb_dtbrec.proofs.nodes.end_nodes.Given as goal

-- so many have ended
abbrev pub invariant-loop : goal.invariant-loop
invariant-loop l = l.pieces.items ≡ l.fn.pieces.items ++ replicate l.counter end_piece
