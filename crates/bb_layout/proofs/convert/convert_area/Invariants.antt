use Rattle.std.proofs.Common.{◌≡◌, take, length}
use Rattle.bb_layout.specs.Convert.{convert_of}
use Rattle.bb_layout.proofs.convert.convert_area.Given as goal

-- the variables so far have their stored bytes or their defaults
abbrev pub invariant-loop-place : goal.invariant-loop-place
invariant-loop-place l =
    (l.out ≡ convert_of (length l.fn.out) (take l.place l.vars) l.stored)
    × (length l.out ≡ length l.fn.out)
