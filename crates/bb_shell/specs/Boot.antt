-- What a boot does: round by round it spends an attempt of the best target, saves that, and starts
-- the target (barebox User Manual, Bootchooser). What saves and starts answer is part of a round,
-- so that the rest follows from it.
use Rattle.std.specs.Prelude.{◌≡◌, ℕ, ◌-◌, ◌&&◌, ⊤, Bool, true, false, List, [], ◌∷◌, length, slice_get, Option, IsNone, IsSome, MatchBool, if◌then◌else◌, sum_by}
use Rattle.std.specs.Option.{option_and_then, option_map_or}
use Rattle.bb_flash.specs.declared.plan.Plan.{Plan}
use Rattle.bb_chooser.specs.Binding.{Binding}
use Rattle.bb_chooser.specs.Choosing.{IsBest, Qualifies, attempts_of, number_at}
use Rattle.bb_chooser.specs.Counting.{spend_of}
use Rattle.bb_chooser.specs.Resets.{reset_of}
use Rattle.bb_chooser.specs.declared.cause.Cause.{Cause}
use Rattle.bb_shell.specs.declared.boot_end.BootEnd.{BootEnd}
use Rattle.bb_shell.specs.declared.boot_end.BootEnd.TheVariants as ends
use Rattle.bb_shell.specs.declared.outcome.Outcome.{Outcome}
use Rattle.bb_shell.specs.declared.outcome.Outcome.TheVariants.{Refused, Unplanned, Failed, Started}

-- ---- a round

-- its target, counted from 0, the table after spending, and what came of it
pub record Round : Type 0 where
  pub target : ℕ
  pub table : List ℕ
  pub outcome : Outcome

-- the plan of a target, if it has one
abbrev pub plan_at : List (Option Plan) → ℕ → Option Plan
plan_at plans target = option_and_then (λ plan. plan) (slice_get plans target)

-- after a save that answered Ok a start is tried exactly where there is a plan
abbrev pub IsOutcome : Option Plan → Outcome → Type 0
IsOutcome plan (Refused fault) = ⊤
IsOutcome plan Unplanned = IsNone plan
IsOutcome plan Failed = IsSome plan
IsOutcome plan Started = IsSome plan

-- the target is best in the table that the round starts from, and one of its attempts is spent
pub record IsRound
    (b : Binding) (plans : List (Option Plan)) (table : List ℕ) (round : Round) : Type 0 where
  pub best : IsBest b table round.target
  pub spent : round.table ≡ spend_of b table round.target
  pub outcome : IsOutcome (plan_at plans round.target) round.outcome

-- a round has failed whose save answered Ok, where no start was tried, or one that failed
abbrev pub has_failed : Outcome → Bool
has_failed (Refused fault) = false
has_failed Unplanned = true
has_failed Failed = true
has_failed Started = false

-- ---- the rounds

abbrev pub NoneQualifies : Binding → List ℕ → Type 0
NoneQualifies b table = (target : ℕ) → Qualifies b table target → ⊥

-- after a round another is tried where it failed and the settings say so
abbrev pub is_retried : Binding → Outcome → Bool
is_retried b outcome = b.rules.retry && has_failed outcome

-- All rounds that come from a table on. There is none exactly where no target qualifies, and none
-- follows one after which no other is tried.
unfoldable pub AreRounds : Binding → List (Option Plan) → List ℕ → List Round → Type 0
AreRounds b plans table [] = NoneQualifies b table
AreRounds b plans table (round ∷ later) =
    IsRound b plans table round
    × MatchBool (is_retried b round.outcome) (AreRounds b plans round.table later) (later ≡ [])

-- the first round starts from the table after a reset, where the boot is the session's first
abbrev pub first_table : Binding → Cause → Bool → List ℕ → List ℕ
first_table b cause first table = if first then reset_of b cause table else table

-- the attempts of all targets; each round spends one
abbrev pub all_attempts : Binding → List ℕ → ℕ
all_attempts b table = sum_by (λ t. number_at table t.attempts_at) b.targets

-- ---- the end

abbrev pub last_round : List Round → Option Round
last_round rounds = slice_get rounds (length rounds - 1)

-- the end that a round brings after which none follows, where so many were tried
abbrev pub end_by : Binding → ℕ → Round → Outcome → BootEnd
end_by b tries round (Refused fault) = ends.Fault fault
end_by b tries round Unplanned = ends.StartFailed round.target tries
end_by b tries round Failed = ends.StartFailed round.target tries
end_by b tries round Started =
    ends.Started round.target (attempts_of b round.table round.target) tries

abbrev pub boot_end : Binding → List Round → BootEnd
boot_end b rounds =
    option_map_or (λ round. end_by b (length rounds) round round.outcome) (last_round rounds)
    ends.NoTarget

-- the table that the rounds leave; without a round it is the one before the reset
abbrev pub table_after : List ℕ → List Round → List ℕ
table_after table rounds = option_map_or (λ round. round.table) (last_round rounds) table
