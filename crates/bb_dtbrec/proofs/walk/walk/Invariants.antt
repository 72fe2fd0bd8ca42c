use Rattle.std.proofs.Common.{◌≡◌, None, cond, drop, length}
use Rattle.bb_dtbrec.specs.Feeding.{read_slots, slots_from, slots_within}
use Rattle.bb_dtbrec.proofs.walk.walk.Given as goal

-- from here on it is what it is from the start
abbrev pub invariant-loop-place : goal.invariant-loop-place
invariant-loop-place l =
    (cond l.agrees (read_slots (slots_within (drop l.place l.pieces) l.offset) l.rest l.area) None
    ≡ read_slots (slots_from l.pieces l.fn.cursor) l.text l.fn.area)
    × (drop (length l.rest) (slots_within (drop l.place l.pieces) l.offset)
    ≡ drop (length l.text) (slots_from l.pieces l.fn.cursor))
    × (length l.area ≡ length l.fn.area)
