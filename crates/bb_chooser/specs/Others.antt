-- What no call of a chooser changes in a table.
use Rattle.std.specs.Prelude.{◌≡◌, ℕ, ◌+◌, ◌<◌, ◌≤◌, ◌⊎◌, List, All, length, slice_index}
use Rattle.bb_chooser.specs.Binding.{Binding}
use Rattle.bb_chooser.specs.declared.bound_target.BoundTarget.{BoundTarget}

-- a byte is none of a uint32's, and none of a target's variables
abbrev pub IsOutside : ℕ → ℕ → Type 0
IsOutside at k = (k < at) ⊎ (at + 4 ≤ k)

abbrev pub IsOutsideOf : ℕ → BoundTarget → Type 0
IsOutsideOf k t = IsOutside t.attempts_at k × IsOutside t.priority_at k

-- the length stays, and each byte that belongs to no variable of the chooser
pub record KeepsOthers (b : Binding) (old new : List ℕ) : Type 0 where
  pub same_length : length new ≡ length old
  pub bytes : (k : ℕ) → IsOutside b.last_chosen_at k → All (IsOutsideOf k) b.targets
      → slice_index new k ≡ slice_index old k
