-- Counts of faults. A count is a number of 64 bits that begins at 0 and never falls; at its
-- greatest value it stands still.
use Rattle.std.specs.Prelude.{ℕ, Bool, ◌+◌, ◌-◌, ◌^◌, ◌≤◌, min, nat_le, if◌then◌else◌}

-- the count rose, or it can't rise any more
abbrev pub Rose : ℕ → ℕ → Type 0
Rose before now = min (before + 1) (2 ^ 64 - 1) ≤ now

-- no count falls, and a call fails only where the count rose: `fails` says that this call did
pub record HasCause (before now : ℕ) (fails : Type 0) : Type 0 where
  pub later : before ≤ now
  pub rose : fails → Rose before now

-- a count that stands still at its greatest value
abbrev pub one_more : ℕ → ℕ
one_more n = if nat_le (2 ^ 64 - 1) n then n else n + 1

-- what a call leaves of its own count: one more exactly where it fails, else the same
abbrev pub counted : Bool → ℕ → ℕ
counted fails n = if fails then one_more n else n
