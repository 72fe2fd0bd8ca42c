use Rattle.std.proofs.Common.{◌≡◌, ◌+◌, ◌++◌, ◌∷◌, [], List, ℕ, true, false, Ok, Err, map, drop, append-nil, sym, ap, ◌∙◌, arith}
use Rattle.std.specs.Option.{is_some}
use Rattle.bb_tree.proofs.Nodes.{branch_of_out, branches_of_out, past_all}
use Rattle.bb_tree.specs.Node.{Branch, forest}
use Rattle.bb_tree.specs.NodeViews.{branch_of}
use Rattle.bb_tree.specs.declared.node.Node.{Node}
use Rattle.bb_tree.specs.declared.node.Node.TheViews.{out-Node}
use Rattle.bb_layout.specs.Variables.{has_type}
use Rattle.bb_layout.specs.Walk.{onto, variables_below, variables_in}
use Rattle.bb_layout.specs.declared.var.Var.{Var}
use Rattle.bb_layout.proofs.Places.{not_there, there}
use Rattle.bb_layout.proofs.Walking.{handed_on, onto_refused, typed_refused, typed_taken, untyped_refused, untyped_taken}
use Rattle.bb_layout.proofs.variables.+add_variables.Goals as goal

pub loop-child-init : goal.loop-child-init
loop-child-init t c =
    let above = c.args.above.now in
    let node = c.args.node.now in
    let vars = c.args.vars.now in
    ap (λ (l : List Node). onto vars (variables_in above (forest (map branch_of l)))) c.deref-child-items.ensures.value
    ∙ ap (λ (l : List (Branch (List ℕ))). onto vars (variables_in above (forest l))) (sym (branches_of_out (out-Node node).nodes))
    ∙ ap (λ (b : Branch (List ℕ)). onto vars (variables_below above b)) (sym (branch_of_out node))

pub returns-in_err-variable-clause-refused : goal.returns-in_err-variable-clause-refused
returns-in_err-variable-clause-refused t c =
    let above = c.args.above.now in
    let x = c.child-item.result in
    let below = variables_below above (branch_of c.args.node.now) in
    let named : c.in_ok-path.path ≡ above ++ (branch_of x).name ∷ [] =
    c.in_ok-path.ensures ∙ ap (λ (n : List ℕ). above ++ n ∷ []) (c.as_str.ensures ∙ sym (ap (λ (b : Branch (List ℕ)). b.name) (branch_of_out x))) in
    let typed : has_type (branch_of x) ≡ true = ap is_some (sym c.prop.ensures) ∙ there c.prop.result (sym c.is_some.ensures ∙ c.if-is_some.true) in
    handed_on (λ e. below ≡ Err e) c.from_residual-in_err-variable.result c.in_err-variable.field-0.0 c.from_residual-in_err-variable.ensures.1
    (λ told. onto_refused c.args.vars.now below c.in_err-variable.field-0.0
    (sym c.loop-child.invariant ∙ ap (onto c.loop-child.vars)
    (typed_refused above c.deref-child-items.result.now c.loop-child.child-index x (omega arith) c.child-item.is c.in_ok-path.path c.in_err-variable.field-0.0 named typed (c.in_err-variable.ensures.refused told))))

pub loop-child-preserved-then-is_some : goal.loop-child-preserved-then-is_some
loop-child-preserved-then-is_some t c =
    let above = c.args.above.now in
    let x = c.child-item.result in
    let named : c.in_ok-path.path ≡ above ++ (branch_of x).name ∷ [] =
    c.in_ok-path.ensures ∙ ap (λ (n : List ℕ). above ++ n ∷ []) (c.as_str.ensures ∙ sym (ap (λ (b : Branch (List ℕ)). b.name) (branch_of_out x))) in
    let typed : has_type (branch_of x) ≡ true = ap is_some (sym c.prop.ensures) ∙ there c.prop.result (sym c.is_some.ensures ∙ c.if-is_some.true) in
    let items = c.deref-child-items.result.now in
    let i = c.loop-child.child-index in
    let rest = forest (map branch_of (drop (i + 1) items)) in
    ap (λ (vs : List Var). onto vs (variables_in above rest)) c.in_ok-push.ensures.ok
    ∙ sym (typed_taken above items i x (omega arith) c.child-item.is c.loop-child.vars c.in_ok-path.path c.in_ok-variable.field-0 named typed c.in_ok-variable.ensures.ok)
    ∙ c.loop-child.invariant

pub returns-in_err-add_variables-clause-refused : goal.returns-in_err-add_variables-clause-refused
returns-in_err-add_variables-clause-refused t c =
    let above = c.args.above.now in
    let x = c.child-item.result in
    let named : c.in_ok-path.path ≡ above ++ (branch_of x).name ∷ [] =
    c.in_ok-path.ensures ∙ ap (λ (n : List ℕ). above ++ n ∷ []) (c.as_str.ensures ∙ sym (ap (λ (b : Branch (List ℕ)). b.name) (branch_of_out x))) in
    let untyped : has_type (branch_of x) ≡ false = ap is_some (sym c.prop.ensures ∙ not_there c.prop.result (sym c.is_some.ensures ∙ c.if-is_some.false)) in
    let below = variables_below above (branch_of c.args.node.now) in
    handed_on (λ e. below ≡ Err e) c.from_residual-in_err-add_variables.result c.in_err-add_variables.field-0.0 c.from_residual-in_err-add_variables.ensures.1
    (λ told. onto_refused c.args.vars.now below c.in_err-add_variables.field-0.0
    (sym c.loop-child.invariant ∙ ap (onto c.loop-child.vars)
    (untyped_refused above c.deref-child-items.result.now c.loop-child.child-index x (omega arith) c.child-item.is c.in_ok-path.path c.in_err-add_variables.field-0.0 named untyped (c.in_err-add_variables.ensures.refused told))))

pub loop-child-preserved : goal.loop-child-preserved
loop-child-preserved t c =
    let above = c.args.above.now in
    let x = c.child-item.result in
    let named : c.in_ok-path.path ≡ above ++ (branch_of x).name ∷ [] =
    c.in_ok-path.ensures ∙ ap (λ (n : List ℕ). above ++ n ∷ []) (c.as_str.ensures ∙ sym (ap (λ (b : Branch (List ℕ)). b.name) (branch_of_out x))) in
    let untyped : has_type (branch_of x) ≡ false = ap is_some (sym c.prop.ensures ∙ not_there c.prop.result (sym c.is_some.ensures ∙ c.if-is_some.false)) in
    sym (untyped_taken above c.deref-child-items.result.now c.loop-child.child-index x (omega arith) c.child-item.is c.loop-child.vars c.in_ok-path.path c.add_variables.new.vars named untyped c.in_ok-add_variables.ensures.ok)
    ∙ c.loop-child.invariant

pub returns-clause-ok : goal.returns-clause-ok
returns-clause-ok t c =
    let above = c.args.above.now in
    let items = c.deref-child-items.result.now in
    sym c.loop-child.invariant
    ∙ ap (λ (l : List Node). onto c.loop-child.vars (variables_in above (forest (map branch_of l)))) (past_all items c.loop-child.child-index (omega arith))
    ∙ ap (λ (vs : List Var). Ok vs) (append-nil c.loop-child.vars)
