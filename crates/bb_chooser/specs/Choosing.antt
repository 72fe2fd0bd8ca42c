-- Which target is best, by a table of the area's bytes (barebox User Manual, Bootchooser).
use Rattle.std.specs.Prelude.{◌≡◌, ℕ, ◌+◌, ◌<◌, ◌≤◌, List, Option, map, position, slice_get, slice_range, unwrap_or}
use Rattle.std.specs.Int.{w32, from_le_bytes, to_le_bytes}
use Rattle.std.specs.Option.{option_map}
use Rattle.std.specs.Str.{bytes_eq}
use Rattle.bb_vars.specs.Table.{table_with}
use Rattle.bb_chooser.specs.Binding.{Binding}
use Rattle.bb_chooser.specs.declared.bound_target.BoundTarget.{BoundTarget}
use Rattle.bb_chooser.specs.declared.count.Count.{Count}

-- ---- a target, counted from 0, where it is there

-- its name, and that of its entry file
abbrev pub name_of : Binding → ℕ → Option (List ℕ)
name_of b target = option_map (λ t. t.target.name) (slice_get b.targets target)

abbrev pub entry_file : Binding → ℕ → Option (List ℕ)
entry_file b target = option_map (λ t. t.target.entry) (slice_get b.targets target)

-- the first of a name; no two have one
abbrev pub target_place : Binding → List ℕ → Option ℕ
target_place b name = position (λ t. bytes_eq t.target.name name) b.targets

-- ---- what a table holds

-- a uint32 of a table
abbrev pub number_at : List ℕ → ℕ → ℕ
number_at table at = from_le_bytes w32 (slice_range table at (at + 4))

-- the table with this number there
abbrev pub with_number : List ℕ → ℕ → ℕ → List ℕ
with_number table at n = table_with table at (to_le_bytes w32 n)

-- a target's priority and remaining attempts
abbrev pub count_in : List ℕ → BoundTarget → Count
count_in table t =
    record { priority = number_at table t.priority_at; attempts = number_at table t.attempts_at }

-- of each target
abbrev pub counts_of : Binding → List ℕ → List Count
counts_of b table = map (count_in table) b.targets

-- those of a target, counted from 0; a target that isn't there has neither
abbrev pub count_of : List Count → ℕ → Count
count_of counts target = unwrap_or (slice_get counts target) (record { priority = 0; attempts = 0 })

abbrev pub priority_among : List Count → ℕ → ℕ
priority_among counts target = (count_of counts target).priority

abbrev pub attempts_among : List Count → ℕ → ℕ
attempts_among counts target = (count_of counts target).attempts

-- the same by a table
abbrev pub priority_of : Binding → List ℕ → ℕ → ℕ
priority_of b table target = priority_among (counts_of b table) target

abbrev pub attempts_of : Binding → List ℕ → ℕ → ℕ
attempts_of b table target = attempts_among (counts_of b table) target

-- the place of the target that was chosen last, from 1, or 0
abbrev pub last_chosen_of : Binding → List ℕ → ℕ
last_chosen_of b table = number_at table b.last_chosen_at

-- ---- the best target

-- it has a priority, and attempts left
pub record QualifiesIn (counts : List Count) (target : ℕ) : Type 0 where
  pub priority : 0 < priority_among counts target
  pub attempts : 0 < attempts_among counts target

-- no target qualifies
abbrev pub NoneQualifiesIn : List Count → Type 0
NoneQualifiesIn counts = (target : ℕ) → ¬ QualifiesIn counts target

-- no target that qualifies has a higher priority, and none of the same stands earlier
pub record IsBestIn (counts : List Count) (target : ℕ) : Type 0 where
  pub qualifies : QualifiesIn counts target
  pub highest : (other : ℕ) → QualifiesIn counts other
      → priority_among counts other ≤ priority_among counts target
  pub earliest : (other : ℕ) → QualifiesIn counts other
      → priority_among counts other ≡ priority_among counts target → target ≤ other

-- the same by a table
abbrev pub Qualifies : Binding → List ℕ → ℕ → Type 0
Qualifies b table target = QualifiesIn (counts_of b table) target

abbrev pub NoneQualifies : Binding → List ℕ → Type 0
NoneQualifies b table = NoneQualifiesIn (counts_of b table)

abbrev pub IsBest : Binding → List ℕ → ℕ → Type 0
IsBest b table target = IsBestIn (counts_of b table) target
