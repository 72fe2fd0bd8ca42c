use Rattle.std.proofs.Common.{ℕ, List, Ok, refl, subst}
use Rattle.std.specs.Prelude.{IfOk}
use Rattle.bb_flash.specs.declared.region.Region.{Region}
use Rattle.bb_install.specs.Beside.{IsBeside}
use Rattle.bb_install.specs.Slot.{HasPlace}
use Rattle.bb_install.specs.declared.slot_error.SlotError.{SlotError}
use Rattle.bb_layout.specs.Layout.{fields_of}
use Rattle.bb_plan.specs.Installing.{comparing, image_reading, laid_slot_as, laid_slot_reading, slot_by, verify_after, verify_in_slot}
use Rattle.bb_plan.specs.FilesRead.{reading_of}
use Rattle.bb_plan.specs.Plan.{task_as}
use Rattle.bb_plan.proofs.Readings.{gone_on, step, stopped, yielded}
use Rattle.bb_plan.proofs.install.plan_verify.Goals as goal

abbrev Slot : Region → Region
Slot slot = slot

pub returns-in_err-laid-clause-read : goal.returns-in_err-laid-clause-read
returns-in_err-laid-clause-read g c =
    let command = c.args.command in
    stopped (verify_after command)
    (laid_slot_reading command.described command.slot.label c.args.geometry) laid_slot_as task_as
    c.in_err-laid.ensures.read c.from_residual.result c.from_residual.ensures.1

pub returns-in_err-slot-clause-read : goal.returns-in_err-slot-clause-read
returns-in_err-slot-clause-read g c =
    let command = c.args.command in
    let laid = laid_slot_as c.in_ok-laid.laid in
    gone_on (verify_after command)
    (laid_slot_reading command.described command.slot.label c.args.geometry) laid_slot_as task_as
    c.in_ok-laid.laid c.in_ok-laid.ensures.read
    (stopped (verify_in_slot command) (reading_of (slot_by laid.slot)) Slot task_as
    (step (slot_by laid.slot) Slot _ c.in_err-slot.ensures.gives)
    c.from_residual-in_err-slot.result c.from_residual-in_err-slot.ensures.1)

pub returns-in_err-image-clause-read : goal.returns-in_err-image-clause-read
returns-in_err-image-clause-read g c =
    let command = c.args.command in
    let laid = laid_slot_as c.in_ok-laid.laid in
    gone_on (verify_after command)
    (laid_slot_reading command.described command.slot.label c.args.geometry) laid_slot_as task_as
    c.in_ok-laid.laid c.in_ok-laid.ensures.read
    (gone_on (verify_in_slot command) (reading_of (slot_by laid.slot)) Slot task_as c.in_ok-slot.slot
    (step (slot_by laid.slot) Slot _ c.in_ok-slot.ensures.gives)
    (stopped (comparing c.in_ok-slot.slot) (image_reading command.slot.image c.in_ok-slot.slot)
    (λ (image : List ℕ). image) task_as c.in_err-image.ensures.read
    c.from_residual-in_err-image.result c.from_residual-in_err-image.ensures.1))

pub returns-clause-read : goal.returns-clause-read
returns-clause-read g c =
    let command = c.args.command in
    let laid = laid_slot_as c.in_ok-laid.laid in
    gone_on (verify_after command)
    (laid_slot_reading command.described command.slot.label c.args.geometry) laid_slot_as task_as
    c.in_ok-laid.laid c.in_ok-laid.ensures.read
    (gone_on (verify_in_slot command) (reading_of (slot_by laid.slot)) Slot task_as c.in_ok-slot.slot
    (step (slot_by laid.slot) Slot _ c.in_ok-slot.ensures.gives)
    (gone_on (comparing c.in_ok-slot.slot) (image_reading command.slot.image c.in_ok-slot.slot)
    (λ (image : List ℕ). image) task_as c.in_ok-image.image c.in_ok-image.ensures.read
    (yielded task_as refl)))

pub returns-clause-planned : goal.returns-clause-planned
returns-clause-planned g c =
    let beside : IfOk {E = SlotError} (Ok c.in_ok-slot.slot) (IsBeside (fields_of c.in_ok-laid.laid.layout)) =
    subst (λ slot. IfOk slot (IsBeside (fields_of c.in_ok-laid.laid.layout)))
    c.in_ok-slot.ensures.same c.in_ok-laid.ensures.beside in
    record {
      stands =
          subst (λ geometry. HasPlace geometry c.in_ok-slot.slot)
          c.in_ok-laid.ensures.same_geometry beside.place;
      fits = c.in_ok-image.ensures.fits;
    }
