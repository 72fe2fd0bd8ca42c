use Rattle.std.proofs.Common.{◌∙◌, ℕ, List, Option, ap, sym}
use Rattle.std.specs.Option.{option_copied}
use Rattle.bb_layout.specs.Layout.{fields_of, layout_from}
use Rattle.bb_layout.specs.Results.{result_and_then}
use Rattle.bb_tree.specs.NodeViews.{branch_of}
use Rattle.bb_plan.specs.PlanSteps.{laid_by, layout_by, refused_as}
use Rattle.bb_plan.specs.declared.refusal.Refusal.TheVariants.{BadLayout}
use Rattle.bb_plan.proofs.Readings.{refused_step}
use Rattle.bb_plan.proofs.Sizes.{laid_from}
use Rattle.bb_plan.proofs.Sources.{layout_refused}
use Rattle.bb_plan.proofs.described.described_layout.Goals as goal

pub returns-in_err-tree-clause-gives : goal.returns-in_err-tree-clause-gives
returns-in_err-tree-clause-gives c =
    let name = option_copied c.args.name in
    refused_step (layout_by name c.args.geometry c.args.bytes.now) fields_of c.from_residual.result
    c.from_residual.ensures.1
    (λ some. ap (result_and_then (laid_by name c.args.geometry)) (c.in_err-tree.ensures.read some))

pub returns-in_err-layout_of-clause-gives : goal.returns-in_err-layout_of-clause-gives
returns-in_err-layout_of-clause-gives c =
    let name = option_copied c.args.name in
    let root = branch_of c.in_ok-tree.tree.root in
    refused_step (layout_by name c.args.geometry c.args.bytes.now) fields_of
    c.from_residual-in_err-layout_of.result c.from_residual-in_err-layout_of.ensures.1
    (λ some. ap (result_and_then (laid_by name c.args.geometry)) c.in_ok-tree.ensures.read
    ∙ layout_refused (layout_from root name c.args.geometry) c.in_err-layout_of.field-0.0
    (λ known. ap (λ (n : Option (List ℕ)). layout_from root n c.args.geometry)
    (sym c.text_of.ensures)
    ∙ c.in_err-layout_of.ensures.refused known) some)

pub returns-clause-gives : goal.returns-clause-gives
returns-clause-gives c =
    let name = option_copied c.args.name in
    let root = branch_of c.in_ok-tree.tree.root in
    ap (result_and_then (laid_by name c.args.geometry)) c.in_ok-tree.ensures.read
    ∙ ap (refused_as BadLayout)
    (ap (λ (n : Option (List ℕ)). layout_from root n c.args.geometry) (sym c.text_of.ensures)
    ∙ c.in_ok-layout_of.ensures.ok)

pub returns-clause-same_geometry : goal.returns-clause-same_geometry
returns-clause-same_geometry c =
    (laid_from (branch_of c.in_ok-tree.tree.root) (option_copied c.text_of.result) c.args.geometry
    (fields_of c.in_ok-layout_of.field-0) c.in_ok-layout_of.ensures.ok).1
