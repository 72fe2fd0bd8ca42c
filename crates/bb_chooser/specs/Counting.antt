-- Attempts that are spent and restored, and targets that are disabled and enabled (barebox User
-- Manual, Bootchooser).
use Rattle.std.specs.Prelude.{◌≡◌, ℕ, ◌+◌, ◌-◌, ◌==◌, ◌&&◌, List, Option, Some, None, if◌then◌else◌, length, nat_le, nat_lt, slice_get}
use Rattle.std.specs.Option.{IfSome, option_map_or}
use Rattle.bb_chooser.specs.Binding.{Binding}
use Rattle.bb_chooser.specs.Choosing.{attempts_of, count_of, counts_of, last_chosen_of, with_number}
use Rattle.bb_chooser.specs.declared.bound_target.BoundTarget.{BoundTarget}
use Rattle.bb_chooser.specs.declared.count.Count.{Count}

-- one attempt less; the target is the one that was chosen last; and without attempts it loses its
-- priority, where that is a rule
abbrev pub spend_of : Binding → List ℕ → ℕ → List ℕ
spend_of b table target =
    option_map_or
    (λ t.
    let left = attempts_of b table target - 1 in
    let spent = with_number (with_number table t.attempts_at left) b.last_chosen_at (target + 1) in
    if b.rules.disable_on_zero_attempts && (left == 0)
    then with_number spent t.priority_at 0
    else spent)
    (slice_get b.targets target) table

-- the target that was chosen last, from 0
abbrev pub chosen_target : Binding → List ℕ → Option ℕ
chosen_target b table =
    let place = last_chosen_of b table in
    if nat_lt 0 place && nat_le place (length b.targets) then Some (place - 1) else None

-- the default attempts for a target, where it is there
abbrev pub with_default_attempts : Binding → List ℕ → ℕ → List ℕ
with_default_attempts b table target =
    option_map_or
    (λ t. with_number table t.attempts_at t.target.default_attempts)
    (slice_get b.targets target) table

-- and for the one that was chosen last
abbrev pub mark_good_of : Binding → List ℕ → List ℕ
mark_good_of b table =
    option_map_or (with_default_attempts b table) (chosen_target b table) table

-- the target without a priority, so that it doesn't qualify; its attempts stay
abbrev pub disable_of : Binding → List ℕ → ℕ → List ℕ
disable_of b table target =
    option_map_or (λ t. with_number table t.priority_at 0) (slice_get b.targets target) table

-- the target with its default priority and its default attempts
abbrev pub enable_of : Binding → List ℕ → ℕ → List ℕ
enable_of b table target =
    option_map_or
    (λ t.
    with_number (with_number table t.priority_at t.target.default_priority) t.attempts_at
    t.target.default_attempts)
    (slice_get b.targets target) table

-- a target's default priority and its default attempts
abbrev pub default_count : BoundTarget → Count
default_count t =
    record { priority = t.target.default_priority; attempts = t.target.default_attempts }

-- the target has these, where it is there
abbrev pub HasDefaults : Binding → List ℕ → ℕ → Type 0
HasDefaults b table target =
    IfSome (slice_get b.targets target)
    (λ t. count_of (counts_of b table) target ≡ default_count t)
