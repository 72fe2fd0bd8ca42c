use Rattle.std.proofs.Common.{◌≡◌, ◌∙◌, ℕ, List, Option, Result, Ok, Err, ap, sym, subst}
use Rattle.std.specs.Option.{option_copied}
use Rattle.std.specs.Prelude.{IfOk}
use Rattle.bb_flash.specs.declared.region.Region.{Region}
use Rattle.bb_install.specs.Beside.{IsBeside}
use Rattle.bb_install.specs.Slot.{HasPlace, SharesByte}
use Rattle.bb_install.specs.declared.slot_error.SlotError.{SlotError}
use Rattle.bb_layout.specs.Layout.{Laid, fields_of, layout_from}
use Rattle.bb_layout.specs.Results.{result_and_then}
use Rattle.bb_tree.specs.NodeViews.{branch_of}
use Rattle.bb_plan.specs.Installing.{laid_slot_as, laid_slot_by, laid_slot_in, slot_beside, with_slot}
use Rattle.bb_plan.specs.PlanSteps.{refused_as}
use Rattle.bb_plan.specs.declared.refusal.Refusal.TheVariants.{BadLayout}
use Rattle.bb_plan.proofs.Readings.{refused_step}
use Rattle.bb_plan.proofs.Sizes.{laid_from}
use Rattle.bb_plan.proofs.Sources.{layout_refused}
use Rattle.bb_plan.proofs.slot.laid_slot.Goals as goal

pub returns-in_err-tree-clause-gives : goal.returns-in_err-tree-clause-gives
returns-in_err-tree-clause-gives c =
    let name = option_copied c.args.name in
    let label = c.args.label.now in
    refused_step (laid_slot_in name label c.args.geometry c.args.bytes.now) laid_slot_as
    c.from_residual.result c.from_residual.ensures.1
    (λ some. ap (result_and_then (laid_slot_by name label c.args.geometry))
    (c.in_err-tree.ensures.read some))

pub returns-in_err-layout-clause-gives : goal.returns-in_err-layout-clause-gives
returns-in_err-layout-clause-gives c =
    let name = option_copied c.args.name in
    let label = c.args.label.now in
    let root = branch_of c.in_ok-tree.tree.root in
    refused_step (laid_slot_in name label c.args.geometry c.args.bytes.now) laid_slot_as
    c.from_residual-in_err-layout.result c.from_residual-in_err-layout.ensures.1
    (λ some. ap (result_and_then (laid_slot_by name label c.args.geometry)) c.in_ok-tree.ensures.read
    ∙ ap (result_and_then (with_slot root label c.args.geometry))
    (layout_refused (layout_from root name c.args.geometry) c.in_err-layout.field-0.0
    (λ known. ap (λ (n : Option (List ℕ)). layout_from root n c.args.geometry)
    (sym c.text_of.ensures)
    ∙ c.in_err-layout.ensures.refused known) some))

pub returns-clause-gives : goal.returns-clause-gives
returns-clause-gives c =
    let name = option_copied c.args.name in
    let label = c.args.label.now in
    let root = branch_of c.in_ok-tree.tree.root in
    let layout = fields_of c.in_ok-layout.layout in
    let slot : slot_beside root label c.args.geometry layout ≡ c.slot_of-slot.result =
    ap (λ l. slot_beside root l c.args.geometry layout) (sym c.as_str.ensures)
    ∙ sym c.slot_of-slot.ensures.value in
    ap (result_and_then (laid_slot_by name label c.args.geometry)) c.in_ok-tree.ensures.read
    ∙ ap (λ laid. result_and_then (with_slot root label c.args.geometry) (refused_as BadLayout laid))
    (ap (λ (n : Option (List ℕ)). layout_from root n c.args.geometry) (sym c.text_of.ensures)
    ∙ c.in_ok-layout.ensures.ok)
    ∙ ap (λ s. Ok (record { layout = layout; slot = s })) slot

pub returns-clause-same_geometry : goal.returns-clause-same_geometry
returns-clause-same_geometry c =
    (laid_from (branch_of c.in_ok-tree.tree.root) (option_copied c.text_of.result) c.args.geometry
    (fields_of c.in_ok-layout.layout) c.in_ok-layout.ensures.ok).1

-- a slot that was found, by what its search says of it
found_beside : (layout : Laid) (slot : Result Region SlotError) → IfOk slot (HasPlace layout.geometry) →
    IfOk slot (λ s. SharesByte s layout.region → ⊥) → IfOk slot (IsBeside layout)
found_beside layout (Ok slot) place apart = record { place = place; apart = apart }
found_beside layout (Err e) place apart = tt

pub returns-clause-beside : goal.returns-clause-beside
returns-clause-beside c =
    let layout = fields_of c.in_ok-layout.layout in
    let same = returns-clause-same_geometry c in
    let found = c.slot_of-slot.ensures in
    found_beside layout c.slot_of-slot.result
    (subst (λ geometry. IfOk c.slot_of-slot.result (HasPlace geometry)) (sym same) found.place)
    found.apart
