-- When and how priorities and attempts get their defaults back (barebox User Manual, Bootchooser).
use Rattle.std.specs.Prelude.{ℕ, ◌==◌, Bool, false, ◌&&◌, ◌||◌, List, fold, if◌then◌else◌, nat_lt}
use Rattle.std.specs.List.{list_all, list_any}
use Rattle.bb_chooser.specs.Binding.{Binding}
use Rattle.bb_chooser.specs.Choosing.{counts_of, with_number}
use Rattle.bb_chooser.specs.declared.bound_target.BoundTarget.{BoundTarget}
use Rattle.bb_chooser.specs.declared.cause.Cause.{Cause}
use Rattle.bb_chooser.specs.declared.cause.Cause.TheVariants.{PowerOn, Reset, Other}
use Rattle.bb_chooser.specs.declared.count.Count.{Count}
use Rattle.bb_chooser.specs.declared.events.Events.{Events}

-- ---- when

-- no target has a priority
abbrev pub has_no_priority : List Count → Bool
has_no_priority counts = list_all (λ c. c.priority == 0) counts

-- a target has a priority, and it lacks that or attempts
abbrev pub has_priority : Count → Bool
has_priority count = nat_lt 0 count.priority

abbrev pub is_spent : Count → Bool
is_spent count = count.priority == 0 || count.attempts == 0

-- some target has a priority, and each that has one has no attempts
abbrev pub is_used_up : List Count → Bool
is_used_up counts = list_any has_priority counts && list_all is_spent counts

-- the cause of the start is among the events
abbrev pub has_cause : Events → Cause → Bool
has_cause events PowerOn = events.power_on
has_cause events Reset = events.reset
has_cause events Other = false

-- priorities are given back
abbrev pub resets_priorities : Binding → List ℕ → Bool
resets_priorities b table = b.rules.reset_priorities && has_no_priority (counts_of b table)

-- attempts are given back, after this cause
abbrev pub resets_attempts : Binding → Cause → List ℕ → Bool
resets_attempts b cause table =
    has_cause b.rules.reset_attempts cause
    || (b.rules.reset_attempts.all_zero && is_used_up (counts_of b table))

-- ---- how

-- a table in which each target has its default priority, or its default attempts
abbrev pub with_priorities : List ℕ → List BoundTarget → List ℕ
with_priorities table targets =
    fold (λ all t. with_number all t.priority_at t.target.default_priority) table targets

abbrev pub with_attempts : List ℕ → List BoundTarget → List ℕ
with_attempts table targets =
    fold (λ all t. with_number all t.attempts_at t.target.default_attempts) table targets

-- the same where they are given back, else the table as it was
abbrev pub with_priorities_if : Bool → List ℕ → List BoundTarget → List ℕ
with_priorities_if resets table targets = if resets then with_priorities table targets else table

abbrev pub with_attempts_if : Bool → List ℕ → List BoundTarget → List ℕ
with_attempts_if resets table targets = if resets then with_attempts table targets else table

-- what the first step leaves
abbrev pub after_priorities : Binding → List ℕ → List ℕ
after_priorities b table = with_priorities_if (resets_priorities b table) table b.targets

-- priorities first, and then attempts by what that leaves
abbrev pub reset_of : Binding → Cause → List ℕ → List ℕ
reset_of b cause table =
    let first = after_priorities b table in
    with_attempts_if (resets_attempts b cause first) first b.targets
