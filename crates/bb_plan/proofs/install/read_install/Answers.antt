use Rattle.std.proofs.Common.{◌∙◌, ℕ, List, subst, ap, sym, Ok}
use Rattle.std.specs.Prelude.{IfOk, ◌≤◌, length}
use Rattle.bb_chooser.specs.Binding.{Binding}
use Rattle.bb_flash.specs.declared.region.Region.{Region}
use Rattle.bb_install.specs.Beside.{IsBeside}
use Rattle.bb_install.specs.declared.slot_error.SlotError.{SlotError}
use Rattle.bb_layout.specs.Layout.{fields_of}
use Rattle.bb_plan.specs.FilesRead.{reading_of}
use Rattle.bb_plan.specs.Installing.{digested, image_reading, install_for, install_in_slot, install_of, installing, slot_by, target_by}
use Rattle.bb_plan.specs.PlanSteps.{binding_reading}
use Rattle.bb_plan.specs.Plan.{Work}
use Rattle.bb_plan.proofs.Readings.{gone_on, refused_step, step, stopped}
use Rattle.bb_plan.proofs.install.read_install.Goals as goal

abbrev Targets : Binding → Binding
Targets b = b

abbrev Target : ℕ → ℕ
Target t = t

abbrev Slot : Region → Region
Slot slot = slot

abbrev Bytes : List ℕ → List ℕ
Bytes image = image

abbrev As : Work → Work
As w = w

pub returns-in_err-chooser-clause-read : goal.returns-in_err-chooser-clause-read
returns-in_err-chooser-clause-read g c =
    let command = c.args.command.now in
    let layout = fields_of c.args.keyed.now.layout in
    stopped (install_of command c.args.slot) (binding_reading command.settings layout) Targets As
    c.in_err-chooser.ensures.read c.from_residual.result c.from_residual.ensures.1

pub returns-in_err-target-clause-read : goal.returns-in_err-target-clause-read
returns-in_err-target-clause-read g c =
    let command = c.args.command.now in
    let layout = fields_of c.args.keyed.now.layout in
    let targets = c.in_ok-chooser.chooser in
    gone_on (install_of command c.args.slot) (binding_reading command.settings layout) Targets As
    targets c.in_ok-chooser.ensures.read
    (stopped (install_for command c.args.slot targets)
    (reading_of (target_by command.target targets)) Target As
    (step (target_by command.target targets) Target _ c.in_err-target.ensures.gives)
    c.from_residual-in_err-target.result c.from_residual-in_err-target.ensures.1)

pub returns-in_err-slot-clause-read : goal.returns-in_err-slot-clause-read
returns-in_err-slot-clause-read g c =
    let command = c.args.command.now in
    let layout = fields_of c.args.keyed.now.layout in
    let targets = c.in_ok-chooser.chooser in
    let target = c.in_ok-target.target in
    gone_on (install_of command c.args.slot) (binding_reading command.settings layout) Targets As
    targets c.in_ok-chooser.ensures.read
    (gone_on (install_for command c.args.slot targets)
    (reading_of (target_by command.target targets)) Target As target
    (step (target_by command.target targets) Target _ c.in_ok-target.ensures.gives)
    (stopped (install_in_slot command targets target) (reading_of (slot_by c.args.slot)) Slot As
    (step (slot_by c.args.slot) Slot _ c.in_err-slot.ensures.gives)
    c.from_residual-in_err-slot.result c.from_residual-in_err-slot.ensures.1))

pub returns-in_err-image-clause-read : goal.returns-in_err-image-clause-read
returns-in_err-image-clause-read g c =
    let command = c.args.command.now in
    let layout = fields_of c.args.keyed.now.layout in
    let targets = c.in_ok-chooser.chooser in
    let target = c.in_ok-target.target in
    let slot = c.in_ok-slot.slot in
    gone_on (install_of command c.args.slot) (binding_reading command.settings layout) Targets As
    targets c.in_ok-chooser.ensures.read
    (gone_on (install_for command c.args.slot targets)
    (reading_of (target_by command.target targets)) Target As target
    (step (target_by command.target targets) Target _ c.in_ok-target.ensures.gives)
    (gone_on (install_in_slot command targets target) (reading_of (slot_by c.args.slot)) Slot As
    slot (step (slot_by c.args.slot) Slot _ c.in_ok-slot.ensures.gives)
    (stopped
    (λ (image : List ℕ).
    reading_of (installing targets target slot (digested command.digest image)))
    (image_reading command.slot.image slot) Bytes As c.in_err-image.ensures.read
    c.from_residual-in_err-image.result c.from_residual-in_err-image.ensures.1)))

pub returns-in_err-checked-clause-read : goal.returns-in_err-checked-clause-read
returns-in_err-checked-clause-read g c =
    let command = c.args.command.now in
    let layout = fields_of c.args.keyed.now.layout in
    let targets = c.in_ok-chooser.chooser in
    let target = c.in_ok-target.target in
    let slot = c.in_ok-slot.slot in
    let image = c.in_ok-image.image in
    let expected = installing targets target slot (digested command.digest image) in
    gone_on (install_of command c.args.slot) (binding_reading command.settings layout) Targets As
    targets c.in_ok-chooser.ensures.read
    (gone_on (install_for command c.args.slot targets)
    (reading_of (target_by command.target targets)) Target As target
    (step (target_by command.target targets) Target _ c.in_ok-target.ensures.gives)
    (gone_on (install_in_slot command targets target) (reading_of (slot_by c.args.slot)) Slot As
    slot (step (slot_by c.args.slot) Slot _ c.in_ok-slot.ensures.gives)
    (gone_on
    (λ (bytes : List ℕ).
    reading_of (installing targets target slot (digested command.digest bytes)))
    (image_reading command.slot.image slot) Bytes As image c.in_ok-image.ensures.read
    (step expected As c.from_residual-in_err-checked.result
    (refused_step expected As c.from_residual-in_err-checked.result
    c.from_residual-in_err-checked.ensures.1
    (λ some. ap (λ (d : List ℕ). installing targets target slot (digested d image)) (sym c.as_slice.ensures)
    ∙ ap (installing targets target slot) (c.in_err-checked.ensures.gives some)))))))

pub returns-clause-read : goal.returns-clause-read
returns-clause-read g c =
    let command = c.args.command.now in
    let layout = fields_of c.args.keyed.now.layout in
    let targets = c.in_ok-chooser.chooser in
    let target = c.in_ok-target.target in
    let slot = c.in_ok-slot.slot in
    let image = c.in_ok-image.image in
    gone_on (install_of command c.args.slot) (binding_reading command.settings layout) Targets As
    targets c.in_ok-chooser.ensures.read
    (gone_on (install_for command c.args.slot targets)
    (reading_of (target_by command.target targets)) Target As target
    (step (target_by command.target targets) Target _ c.in_ok-target.ensures.gives)
    (gone_on (install_in_slot command targets target) (reading_of (slot_by c.args.slot)) Slot As
    slot (step (slot_by c.args.slot) Slot _ c.in_ok-slot.ensures.gives)
    (gone_on
    (λ (bytes : List ℕ).
    reading_of (installing targets target slot (digested command.digest bytes)))
    (image_reading command.slot.image slot) Bytes As image c.in_ok-image.ensures.read
    (step (installing targets target slot (digested command.digest image)) As _
    (ap (λ (d : List ℕ). installing targets target slot (digested d image)) (sym c.as_slice.ensures)
    ∙ ap (installing targets target slot) c.in_ok-checked.ensures.gives)))))

pub returns-clause-served : goal.returns-clause-served
returns-clause-served g c =
    let layout = fields_of c.args.keyed.now.layout in
    let beside : IfOk {E = SlotError} (Ok c.in_ok-slot.slot) (IsBeside layout) =
    subst (λ slot. IfOk slot (IsBeside layout)) c.in_ok-slot.ensures.same c.requires in
    record {
      bound = c.in_ok-chooser.ensures.bound;
      there = c.in_ok-target.ensures.there;
      fits = record {
        beside = beside;
        fits =
            subst (λ (bytes : List ℕ). length bytes ≤ c.in_ok-slot.slot.size)
            (sym c.in_ok-checked.ensures.same) c.in_ok-image.ensures.fits;
      };
    }
