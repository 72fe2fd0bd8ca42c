use Rattle.std.proofs.Common.{◌≡◌, take}
use Rattle.bb_install.proofs.page_difference.first_unequal.Given as goal

-- the bytes so far are the same
abbrev pub invariant-loop-place : goal.invariant-loop-place
invariant-loop-place l = take l.place l.read ≡ take l.place l.bytes
