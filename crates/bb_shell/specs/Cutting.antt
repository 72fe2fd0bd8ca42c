-- What a boot did that was cut: how its turn begins, up to the stage at which the cut fell. It is a
-- boot again, and had started nothing.
use Rattle.std.specs.Prelude.{◌≡◌, ℕ, false, List, slice_get, Option, Some}
use Rattle.bb_chooser.specs.Binding.{Binding}
use Rattle.bb_chooser.specs.declared.cause.Cause.{Cause}
use Rattle.bb_copies.specs.Chronicle.{Content, Turn}
use Rattle.bb_copies.specs.Cutting.{IsCutOff, LoadsThePicked, turn_stages}
use Rattle.bb_copies.specs.Trail.{Stage, StandsAt}
use Rattle.bb_flash.specs.declared.plan.Plan.{Plan}
use Rattle.bb_shell.specs.Counting.{IsBootTurn, turn_starts}

-- a boot that was cut at a stage of its turn did a beginning of that turn which is one of a boot
pub record IsBootCutOff (b : Binding) (cause : Cause) (plans : List (Option Plan))
    (shows : List ℕ → List ℕ) (first : List ℕ) (before : Content) (turn : Turn) (stage : Stage) (passed : List (Option (List ℕ)))
    : Type 0 where
  pub left : IsCutOff first before turn stage passed
  pub boots : IsBootTurn b cause plans shows before left.cut
  pub unstarted : turn_starts left.cut ≡ false

-- what stands for a stage that a boot's turn reached is what such a boot leaves that was cut there
abbrev pub BootCutLaw : Type 0
BootCutLaw =
    (b : Binding) (cause : Cause) (plans : List (Option Plan)) (shows : List ℕ → List ℕ)
    (first : List ℕ) (before : Content) (turn : Turn) (number : ℕ) (stage : Stage) (passed : List (Option (List ℕ))) →
    LoadsThePicked before turn →
    IsBootTurn b cause plans shows before turn →
    slice_get (turn_stages before turn) number ≡ Some stage →
    StandsAt first passed stage →
    IsBootCutOff b cause plans shows first before turn stage passed
