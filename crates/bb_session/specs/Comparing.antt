-- A comparison of a slot with its image: what was answered, and what is sent of it.
use Rattle.std.specs.Prelude.{◌≡◌, ◌⊎◌, ℕ, List, ◌++◌, codes, decimal, Option, Some, None, Result, Ok, Err, is_none}
use Rattle.std.specs.Option.{ForSome, IfSome}
use Rattle.bb_base.specs.Faults.{counted}
use Rattle.bb_bucket.specs.Calls.{IsQuiet}
use Rattle.bb_flash.specs.Device.{Device, content}
use Rattle.bb_flash.specs.Image.{Image}
use Rattle.bb_install.specs.Holding.{IsComparison}
use Rattle.bb_plan.specs.declared.plan.SlotImage.{SlotImage}
use Rattle.bb_plan.specs.declared.refusal.Refusal.{Refusal}
use Rattle.bb_plan.specs.declared.refusal.Refusal.TheVariants as refusals
use Rattle.bb_session.specs.declared.report.Report.{Report}

-- what is answered: the first offset that differs, if one does; and nothing, where a read failed
abbrev pub CompareAnswer : Type 0
CompareAnswer = Option (Option ℕ)

-- that is what a device with this content holds in the slot
abbrev pub IsFoundIn : ℕ → SlotImage → Image → CompareAnswer → Type 0
IsFoundIn page place image answer =
    IfSome answer (IsComparison page place.slot place.image image)

-- the slot was read: nothing changed, and a read that failed is counted once
pub record IsSlotCompared (place : SlotImage) (from to : Device) (answer : CompareAnswer) : Type 0 where
  pub told :
      ForSome (content from) (λ image. IsFoundIn from.geometry.page place image answer)
  pub faults : to.faults ≡ counted (is_none answer) from.faults
  pub read_faults : to.read_faults ≡ counted (is_none answer) from.read_faults
  pub quiet : IsQuiet from to

abbrev pub compare_text : Option ℕ → List ℕ
compare_text None = codes "same\n"
compare_text (Some offset) = codes "differs " ++ (decimal offset ++ codes "\n")

-- what was given of an answer, unless memory was refused for it
abbrev pub GivesCompared : CompareAnswer → Result Report Refusal → Type 0
GivesCompared None given = given ≡ Err refusals.ReadFault
GivesCompared (Some found) given =
    (given ≡ Ok (record { text = compare_text found; refusal = None }))
    ⊎ (given ≡ Err refusals.NoMemory)

-- a comparison was made, and this was given of it
pub record IsCompareDone (place : SlotImage) (from to : Device) (given : Result Report Refusal)
    : Type 0 where
  pub answer : CompareAnswer
  pub compared : IsSlotCompared place from to answer
  pub gives : GivesCompared answer given

-- so it was, or memory was refused before any call of the device
abbrev pub IsComparedAs : SlotImage → Device → Device → Result Report Refusal → Type 0
IsComparedAs place from to given =
    IsCompareDone place from to given ⊎ ((given ≡ Err refusals.NoMemory) × (to ≡ from))
