use Rattle.std.proofs.Common.{◌≡◌, [], List, ℕ, Err, sym, ap, ◌∙◌}
use Rattle.bb_tree.specs.NodeViews.{branch_of}
use Rattle.bb_layout.specs.Variables.{variables_of}
use Rattle.bb_layout.specs.Walk.{onto, variables_below}
use Rattle.bb_layout.specs.declared.var.Var.{Var}
use Rattle.bb_layout.proofs.Walking.{handed_on, onto_none, variables-walked}
use Rattle.bb_layout.proofs.WellFormed.{all_well_formed}
use Rattle.bb_layout.proofs.variables.variables.Goals as goal

pub returns-in_err-add_variables-clause-refused : goal.returns-in_err-add_variables-clause-refused
returns-in_err-add_variables-clause-refused c =
    let state = branch_of c.args.state.now in
    handed_on (λ e. variables_of state ≡ Err e) c.from_residual.result c.in_err-add_variables.field-0.0 c.from_residual.ensures.1
    (λ told. variables-walked state ∙ ap (λ (above : List (List ℕ)). variables_below above state) (sym c.none.ensures) ∙ c.in_err-add_variables.ensures.refused told)

pub returns-clause-ok : goal.returns-clause-ok
returns-clause-ok c =
    let state = branch_of c.args.state.now in
    variables-walked state ∙ sym (onto_none (variables_below [] state))
    ∙ ap (λ (above : List (List ℕ)). onto [] (variables_below above state)) (sym c.none.ensures)
    ∙ ap (λ (vars : List Var). onto vars (variables_below c.none.result state)) (sym c.none-vars.ensures)
    ∙ c.in_ok-add_variables.ensures.ok

pub returns-clause-well_formed : goal.returns-clause-well_formed
returns-clause-well_formed c =
    let state = branch_of c.args.state.now in
    all_well_formed state c.add_variables-2.new.vars
    (variables-walked state ∙ sym (onto_none (variables_below [] state))
    ∙ ap (λ (above : List (List ℕ)). onto [] (variables_below above state)) (sym c.none.ensures)
    ∙ ap (λ (vars : List Var). onto vars (variables_below c.none.result state)) (sym c.none-vars.ensures)
    ∙ c.in_ok-add_variables.ensures.ok)
