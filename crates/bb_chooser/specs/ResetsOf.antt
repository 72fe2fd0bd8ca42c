-- Which defaults a reset brings back, as they are found without changing the table.
use Rattle.std.specs.Prelude.{ℕ, ◌==◌, ◌&&◌, ◌||◌, Bool, false, List}
use Rattle.std.specs.List.{list_all}
use Rattle.bb_chooser.specs.After.{counts_after}
use Rattle.bb_chooser.specs.Binding.{Binding}
use Rattle.bb_chooser.specs.Choosing.{number_at}
use Rattle.bb_chooser.specs.Resets.{has_cause, is_used_up}
use Rattle.bb_chooser.specs.declared.bound_target.BoundTarget.{BoundTarget}
use Rattle.bb_chooser.specs.declared.cause.Cause.{Cause}
use Rattle.bb_chooser.specs.declared.resets.Resets.{Resets}

-- a table has 0 as a target's priority
abbrev pub lacks_priority : List ℕ → BoundTarget → Bool
lacks_priority table t = number_at table t.priority_at == 0

-- priorities are given back
abbrev pub priorities_reset : Binding → List ℕ → Bool
priorities_reset b table = b.rules.reset_priorities && list_all (lacks_priority table) b.targets

-- attempts are given back, after a reset of these
abbrev pub attempts_reset : Binding → Cause → Resets → List ℕ → Bool
attempts_reset b cause resets table =
    has_cause b.rules.reset_attempts cause
    || (b.rules.reset_attempts.all_zero && is_used_up (counts_after resets table b.targets))

-- priorities first, and then attempts by what that would leave
abbrev pub resets_of : Binding → Cause → List ℕ → Resets
resets_of b cause table =
    let priorities = priorities_reset b table in
    let first : Resets = record { priorities = priorities; attempts = false } in
    record { priorities = priorities; attempts = attempts_reset b cause first table }
