use Rattle.std.proofs.Common.{◌≡◌, ℕ, ◌<◌, false, length}
use Rattle.bb_copies.specs.Refreshing.{is_marked}
use Rattle.bb_copies.proofs.tally.clear.Given as goal

abbrev pub invariant-loop-copy : goal.invariant-loop-copy
invariant-loop-copy l = record {
  unmarked : (place : ℕ) → place < l.copy → is_marked l.good.items place ≡ false;
  len : length l.good.items ≡ length l.fn.good.items;
}
