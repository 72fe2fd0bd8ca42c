use Rattle.std.proofs.Common.{◌≡◌, ◌≢◌, ℕ, ◌<◌, false}
use Rattle.bb_copies.specs.Refreshing.{is_marked}
use Rattle.bb_copies.proofs.tally.first_good.Given as goal

abbrev pub invariant-loop-copy : goal.invariant-loop-copy
invariant-loop-copy l = (place : ℕ) → place < l.copy → place ≢ l.but → is_marked l.good place ≡ false
