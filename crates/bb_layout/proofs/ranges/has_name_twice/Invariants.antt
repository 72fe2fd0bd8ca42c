use Rattle.std.proofs.Common.{◌≡◌, ℕ, ◌<◌, true}
use Rattle.bb_layout.specs.VarNames.{is_first_of_name}
use Rattle.bb_layout.proofs.ranges.has_name_twice.Given as goal

-- each variable so far is the first of its name
abbrev pub invariant-loop-i : goal.invariant-loop-i
invariant-loop-i l = (k : ℕ) → k < l.i → is_first_of_name l.vars k ≡ true
