-- What a reset would leave to the targets, without doing it.
use Rattle.std.specs.Prelude.{ℕ, Bool, List, map, if◌then◌else◌}
use Rattle.std.specs.Int.{w32, from_le_bytes, to_le_bytes}
use Rattle.bb_chooser.specs.Choosing.{number_at}
use Rattle.bb_chooser.specs.Resets.{has_priority, is_spent}
use Rattle.bb_chooser.specs.declared.bound_target.BoundTarget.{BoundTarget}
use Rattle.bb_chooser.specs.declared.count.Count.{Count}
use Rattle.bb_chooser.specs.declared.resets.Resets.{Resets}

-- ---- what is left to a target

-- a number as 4 bytes give it back
abbrev pub as_word : ℕ → ℕ
as_word n = from_le_bytes w32 (to_le_bytes w32 n)

-- a default, where it is given back, or what a table has
abbrev pub default_or : Bool → ℕ → ℕ → ℕ
default_or is_reset default kept = if is_reset then as_word default else kept

-- a target's priority and remaining attempts after a reset of these
abbrev pub count_after : Resets → List ℕ → BoundTarget → Count
count_after resets table t = record {
  priority = default_or resets.priorities t.target.default_priority (number_at table t.priority_at);
  attempts = default_or resets.attempts t.target.default_attempts (number_at table t.attempts_at);
}

-- of each target
abbrev pub counts_after : Resets → List ℕ → List BoundTarget → List Count
counts_after resets table targets = map (count_after resets table) targets

-- a target has a priority after it, and it lacks that or attempts
abbrev pub has_priority_after : Resets → List ℕ → BoundTarget → Bool
has_priority_after resets table t = has_priority (count_after resets table t)

abbrev pub is_spent_after : Resets → List ℕ → BoundTarget → Bool
is_spent_after resets table t = is_spent (count_after resets table t)
