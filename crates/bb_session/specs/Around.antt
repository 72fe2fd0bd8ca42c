-- Rounds between which a slot is written: the calls on the slot come after the saves before them
-- answered Ok, and before another save is begun.
use Rattle.std.specs.Prelude.{◌≡◌, ⊤, ℕ, List, ◌++◌, length, Option, Some, None, option_map}
use Rattle.std.specs.Option.{IfSome}
use Rattle.bb_bucket.specs.Kind.{BucketKind}
use Rattle.bb_copies.specs.Buckets.{IsApart, IsOutside}
use Rattle.bb_copies.specs.declared.answers.CopyFault.{CopyFault}
use Rattle.bb_flash.specs.Device.{Device}
use Rattle.bb_flash.specs.Cuts.{EachImage, IsSameRegion}
use Rattle.bb_flash.specs.declared.region.Region.{Region}
use Rattle.bb_flash.specs.declared.plan.Plan.{Plan as StartPlan}
use Rattle.bb_install.specs.Beside.{IsBesideCopies}
use Rattle.bb_install.specs.Steps.{IsImageWritten}
use Rattle.bb_state.specs.Keyed.{Keyed}
use Rattle.bb_state.specs.Kinds.{laid_kinds}
use Rattle.bb_shell.specs.Boot.{Round}
use Rattle.bb_shell.specs.Running.{AreRun}
use Rattle.bb_shell.specs.Sequence.{refused_in}
use Rattle.bb_shell.specs.Stages.{kept_after}
use Rattle.bb_plan.specs.declared.plan.SlotImage.{SlotImage}
use Rattle.bb_plan.specs.declared.plan.Work.{Work}
use Rattle.bb_plan.specs.declared.plan.Work.TheVariants.{Install}
use Rattle.bb_plan.specs.declared.refusal.Refusal.{Refusal}
use Rattle.bb_plan.specs.declared.refusal.Refusal.TheVariants as refusals

-- the image was written to the slot, or a call failed
abbrev pub IsSlotRun : SlotImage → Option ℕ → Device → Device → Type 0
IsSlotRun place stuck from to = IsImageWritten place.slot place.image stuck from to

-- a call on the slot that failed is named, and ends the session before it gathered any text
abbrev pub slot_refusal : Option ℕ → Option Refusal
slot_refusal stuck = option_map (λ at. refusals.SlotFault at) stuck

-- so it is where there is a slot to be written, and no save before was refused
abbrev pub IsSlotRunAfter :
    Option SlotImage → Option CopyFault → Option ℕ → Device → Device → Type 0
IsSlotRunAfter None refused stuck from to = to ≡ from
IsSlotRunAfter (Some place) (Some fault) stuck from to = to ≡ from
IsSlotRunAfter (Some place) None stuck from to = IsSlotRun place stuck from to

-- ---- what lies outside

-- the region that a work may write besides the copies
abbrev pub slot_of_work : Work → Option Region
slot_of_work (Install targets target place) = Some place.slot
slot_of_work _ = None

abbrev pub IsOutsideSlot : Option Region → Region → Type 0
IsOutsideSlot None region = ⊤
IsOutsideSlot (Some slot) region = IsApart slot region

-- in every image what lies outside the copies and the slot is as before, and so are the pages in
-- which it stands
abbrev pub KeepsOutsideBoth : List BucketKind → Option Region → Device → Device → Type 0
KeepsOutsideBoth kinds slot from to =
    (region : Region) → IsOutside kinds region → IsOutsideSlot slot region →
    EachImage (IsSameRegion from.geometry.page region.at region.size) from to

-- ---- rounds around the calls on a slot

-- Rounds were run, then the slot was written, if there is one, and then the other rounds were run.
-- `kept` was loaded or saved last before them; `used` is the copy that is used before them, `now`
-- the one after them.
pub record AreRunAround
    (keyed : Keyed) (plans : List (Option StartPlan)) (place : Option SlotImage)
    (kept : Option (List ℕ)) (used now : Option ℕ) (rounds : List Round) (stuck : Option ℕ)
    (from to : Device) : Type 0 where
  pub front : List Round
  pub back : List Round
  pub split : rounds ≡ front ++ back
  -- the first alone comes before the calls on the slot
  pub cut : IfSome place (λ p. length front ≡ 1)
  pub beside : IfSome place (λ p. IsBesideCopies (laid_kinds keyed.layout) p.slot)
  -- before these calls, and behind them
  pub copy : Option ℕ
  pub before : Device
  pub behind : Device
  pub early : AreRun keyed plans kept used copy front from before
  pub wrote : IsSlotRunAfter place (refused_in front) stuck before behind
  pub late : AreRun keyed plans (kept_after kept front) copy now back behind to
