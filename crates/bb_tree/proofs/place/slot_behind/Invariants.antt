use Rattle.std.proofs.Common.{◌≡◌, ◌==◌, List, ℕ, length, map, take, Some, Bor}
use Rattle.std.specs.List.{slice_split}
use Rattle.bb_tree.specs.Slots.{spine}
use Rattle.bb_tree.specs.Spine.{slot_led_to}
use Rattle.bb_tree.proofs.place.slot_behind.Given as goal

abbrev now : Bor (List ℕ) → List ℕ
now y = y.now

-- the names so far lead to k
abbrev pub invariant-loop-name : goal.invariant-loop-name
invariant-loop-name l = record {
  so_far : map now l.yielded ≡ take (length l.yielded) (slice_split (λ b. b == 47) l.names);
  leads : slot_led_to 1 (spine l.slots) 0 (take (length l.yielded) (slice_split (λ b. b == 47) l.names)) ≡ Some l.k;
}
