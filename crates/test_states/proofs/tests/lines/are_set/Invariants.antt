use Rattle.std.proofs.Common.{◌≡◌, length}
use Rattle.test_states.proofs.tests.lines.are_set.Given as goal

abbrev pub invariant-loop-row : goal.invariant-loop-row
invariant-loop-row g l = length l.table ≡ l.layout.area_len
