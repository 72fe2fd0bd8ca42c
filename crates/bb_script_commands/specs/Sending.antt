-- What the commands of a script send.
use Rattle.std.specs.Prelude.{◌≡◌, ◌⊎◌, ℕ, ◌<◌, ◌^◌, ⊤, Bool, true, false, List, [], ◌++◌, codes, decimal, Option, Some, None, unwrap_or}
use Rattle.std.specs.List.{flat_map}
use Rattle.bb_chooser.specs.Binding.{Binding}
use Rattle.bb_chooser.specs.Choosing.{name_of, number_at}
use Rattle.bb_chooser.specs.declared.bound_target.BoundTarget.{BoundTarget}
use Rattle.bb_copies.specs.declared.answers.CopyFault.{CopyFault}
use Rattle.bb_interpreter.specs.declared.commands.Reply.{Reply}
use Rattle.bb_interpreter.specs.declared.commands.Reply.TheVariants as reply
use Rattle.bb_shell.specs.declared.boot_end.BootEnd.{BootEnd}
use Rattle.bb_shell.specs.declared.boot_end.BootEnd.TheVariants as ends

-- ---- of the targets

-- a line of a target
abbrev pub counts_line : List ℕ → ℕ → ℕ → List ℕ
counts_line name priority attempts =
    name
    ++ (codes " priority " ++ (decimal priority
    ++ (codes " attempts " ++ (decimal attempts ++ codes "\n"))))

abbrev pub counts_line_of : List ℕ → BoundTarget → List ℕ
counts_line_of table t =
    counts_line t.target.name (number_at table t.priority_at) (number_at table t.attempts_at)

abbrev pub counts_lines : Binding → List ℕ → List ℕ
counts_lines b table = flat_map (counts_line_of table) b.targets

-- ---- of a boot

abbrev pub target_name : Binding → ℕ → List ℕ
target_name targets target = unwrap_or (name_of targets target) []

abbrev pub start_line : List ℕ → ℕ → ℕ → List ℕ
start_line name left tries =
    codes "start "
    ++ (name
    ++ (codes " left "
    ++ (decimal left ++ (codes " tries " ++ (decimal tries ++ codes "\n")))))

abbrev pub tries_line : ℕ → List ℕ
tries_line tries = codes "tries " ++ (decimal tries ++ codes "\n")

-- a start ends the script; without a target that qualifies, and after starts that failed, it goes
-- on
abbrev pub boot_reply : Binding → BootEnd → Reply
boot_reply targets (ends.Started target left tries) =
    reply.Started (start_line (target_name targets target) left tries)
boot_reply targets ends.NoTarget = reply.Done 1 []
boot_reply targets (ends.StartFailed target tries) = reply.Done 1 (tries_line tries)
boot_reply targets (ends.Fault fault) = reply.Fault

-- it sends a text, which takes memory
abbrev pub boot_sends : BootEnd → Bool
boot_sends (ends.Started target left tries) = true
boot_sends ends.NoTarget = false
boot_sends (ends.StartFailed target tries) = true
boot_sends (ends.Fault fault) = false

-- the number of its rounds, where it names one, fits 64 bits
abbrev pub FitsCount : BootEnd → Type 0
FitsCount (ends.Started target left tries) = tries < 2 ^ 64
FitsCount ends.NoTarget = ⊤
FitsCount (ends.StartFailed target tries) = tries < 2 ^ 64
FitsCount (ends.Fault fault) = ⊤

-- the fault by which it ended, if one did
abbrev pub ended_fault : BootEnd → Option CopyFault
ended_fault (ends.Started target left tries) = None
ended_fault ends.NoTarget = None
ended_fault (ends.StartFailed target tries) = None
ended_fault (ends.Fault fault) = Some fault

-- ---- of any command

-- it replied so, or memory was refused for the text, where it takes memory for one
abbrev pub Replies : Reply → Bool → Reply → Type 0
Replies wanted takes_memory answer =
    (answer ≡ wanted) ⊎ ((answer ≡ reply.NoMemory) × (takes_memory ≡ true))
