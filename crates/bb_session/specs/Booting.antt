-- What is sent of the end of a boot, and the start that its last round made.
use Rattle.std.specs.Prelude.{ℕ, List, [], ◌++◌, codes, decimal, Option, Some, None, option_and_then, slice_get, if◌then◌else◌}
use Rattle.std.specs.Option.{option_map_or}
use Rattle.bb_chooser.specs.Binding.{Binding}
use Rattle.bb_flash.specs.declared.plan.Plan.{Plan as StartPlan}
use Rattle.bb_shell.specs.Boot.{Round, last_round, plan_at}
use Rattle.bb_shell.specs.Rounds.{is_started}
use Rattle.bb_shell.specs.declared.boot_end.BootEnd.{BootEnd}
use Rattle.bb_shell.specs.declared.boot_end.BootEnd.TheVariants as ends
use Rattle.bb_plan.specs.declared.plan.Work.{Work}
use Rattle.bb_plan.specs.Refusal.{copy_refusal}
use Rattle.bb_plan.specs.declared.refusal.Refusal.{Refusal}
use Rattle.bb_plan.specs.declared.refusal.Refusal.TheVariants as refusals
use Rattle.bb_session.specs.Acting.{start_plans_of}

-- ---- the start

-- the plan of the start that a round made, if it made one
abbrev pub start_in : List (Option StartPlan) → Round → Option StartPlan
start_in plans round =
    if is_started round.outcome then plan_at plans round.target else None

-- of the last round
abbrev pub start_of : Work → List Round → Option StartPlan
start_of work rounds = option_and_then (start_in (start_plans_of work)) (last_round rounds)

-- ---- what is sent

abbrev pub target_name : Binding → ℕ → List ℕ
target_name targets target =
    option_map_or (λ t. t.target.name) (slice_get targets.targets target) []

abbrev pub start_line : List ℕ → ℕ → ℕ → List ℕ
start_line name left tries =
    codes "start "
    ++ (name ++ (codes " left " ++ (decimal left ++ (codes " tries " ++ (decimal tries ++ codes "\n")))))

abbrev pub tries_line : ℕ → List ℕ
tries_line tries = codes "tries " ++ (decimal tries ++ codes "\n")

abbrev pub end_text : Binding → BootEnd → List ℕ
end_text targets (ends.Started target left tries) =
    start_line (target_name targets target) left tries
end_text targets ends.NoTarget = []
end_text targets (ends.StartFailed target tries) = tries_line tries
end_text targets (ends.Fault fault) = []

abbrev pub end_refusal : Binding → BootEnd → Option Refusal
end_refusal targets (ends.Started target left tries) = None
end_refusal targets ends.NoTarget = Some refusals.NoTarget
end_refusal targets (ends.StartFailed target tries) =
    Some (refusals.StartFailed (target_name targets target))
end_refusal targets (ends.Fault fault) = Some (copy_refusal fault)
