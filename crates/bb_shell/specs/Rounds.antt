-- The rounds of a boot as a function of what saves and starts answer, one answer a round.
use Rattle.std.specs.Prelude.{◌≡◌, ℕ, ◌&&◌, ◌||◌, Bool, true, false, not, List, [], ◌∷◌, Option, Some, None, find, if◌then◌else◌, length, map, nat_le, nat_lt}
use Rattle.std.specs.List.{list_all, range_with_len}
use Rattle.std.specs.Option.{option_map_or}
use Rattle.bb_flash.specs.declared.plan.Plan.{Plan}
use Rattle.bb_chooser.specs.Binding.{Binding}
use Rattle.bb_chooser.specs.Choosing.{IsBest, attempts_of, priority_of}
use Rattle.bb_chooser.specs.Counting.{spend_of}
use Rattle.bb_copies.specs.declared.answers.CopyFault.{CopyFault}
use Rattle.bb_shell.specs.Boot.{AreRounds, NoneQualifies, Round, is_retried, plan_at}
use Rattle.bb_shell.specs.Running.{refusal_of}
use Rattle.bb_shell.specs.declared.outcome.Outcome.{Outcome}
use Rattle.bb_shell.specs.declared.outcome.Outcome.TheVariants.{Refused, Unplanned, Failed, Started}

-- ---- the best target, counted from 0

-- it has a priority, and attempts left
abbrev pub qualifies : Binding → List ℕ → ℕ → Bool
qualifies b table target =
    nat_lt 0 (priority_of b table target) && nat_lt 0 (attempts_of b table target)

abbrev pub targets_of : Binding → List ℕ
targets_of b = range_with_len 0 (length b.targets)

-- it qualifies, and none that does has a higher priority
abbrev pub is_highest : Binding → List ℕ → ℕ → Bool
is_highest b table target =
    qualifies b table target
    && list_all
    (λ other.
    not (qualifies b table other) || nat_le (priority_of b table other) (priority_of b table target))
    (targets_of b)

-- the first of these
abbrev pub best_of : Binding → List ℕ → Option ℕ
best_of b table = find (is_highest b table) (targets_of b)

-- ---- the rounds

-- what a round is answered: by its save, and by its start, where one is tried
pub record RoundAnswer : Type 0 where
  pub save : Option CopyFault
  pub starts : Bool

-- where nothing fails the save is made, and the start
abbrev pub sound_answer : RoundAnswer
sound_answer = record { save = None; starts = true }

-- what comes of a round whose target has this plan, if it has one
abbrev pub outcome_by : Option Plan → Bool → Option CopyFault → Outcome
outcome_by plan starts (Some fault) = Refused fault
outcome_by None starts None = Unplanned
outcome_by (Some plan) starts None = if starts then Started else Failed

abbrev pub round_by : Binding → List (Option Plan) → List ℕ → RoundAnswer → ℕ → Round
round_by b plans table answer target = record {
  target = target;
  table = spend_of b table target;
  outcome = outcome_by (plan_at plans target) answer.starts answer.save;
}

-- a round, and what follows it
abbrev pub followed_by : Binding → Round → List Round → List Round
followed_by b round later = if is_retried b round.outcome then round ∷ later else round ∷ []

-- the rounds from a table on, as long as there are answers
unfoldable pub rounds_by : Binding → List (Option Plan) → List ℕ → List RoundAnswer → List Round
rounds_by b plans table [] = []
rounds_by b plans table (answer ∷ answers) =
    option_map_or
    (λ target.
    let round = round_by b plans table answer target in
    followed_by b round (rounds_by b plans round.table answers))
    (best_of b table) []

-- ---- what was answered

abbrev pub is_started : Outcome → Bool
is_started (Refused fault) = false
is_started Unplanned = false
is_started Failed = false
is_started Started = true

-- what a round was answered of which this came
abbrev pub answer_of : Round → RoundAnswer
answer_of round = record {
  save = refusal_of round.outcome;
  starts = is_started round.outcome;
}

-- the best target is the one that is found
abbrev pub BestLaw : Type 0
BestLaw =
    (b : Binding) (table : List ℕ) (target : ℕ) → IsBest b table target →
    best_of b table ≡ Some target

-- and none is found where none qualifies
abbrev pub NoneLaw : Type 0
NoneLaw = (b : Binding) (table : List ℕ) → NoneQualifies b table → best_of b table ≡ None

-- the rounds of a boot are those that their answers make
abbrev pub RoundsLaw : Type 0
RoundsLaw =
    (b : Binding) (plans : List (Option Plan)) (table : List ℕ) (rounds : List Round) →
    AreRounds b plans table rounds → rounds_by b plans table (map answer_of rounds) ≡ rounds
