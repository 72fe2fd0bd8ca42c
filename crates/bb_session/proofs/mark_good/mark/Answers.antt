use Rattle.std.proofs.Common.{◌∙◌, ℕ, IsSome, Some, ap, sym, rules}
use Rattle.bb_chooser.specs.Choosing.{last_chosen_of}
use Rattle.bb_chooser.specs.Counting.{chosen_target, mark_good_of}
use Rattle.bb_plan.specs.declared.refusal.Refusal.TheVariants as refusals
use Rattle.bb_state.specs.State.{laid_of}
use Rattle.bb_session.specs.Acting.{SavesOnce, marks_of, refusal_by_table}
use Rattle.bb_session.proofs.Barred.{chosen_acts, lost_is, lost_unchanged}
use Rattle.bb_session.proofs.mark_good.mark.Goals as goal

pub returns-then-mark_table-clause-put : goal.returns-then-mark_table-clause-put
returns-then-mark_table-clause-put c =
    chosen_acts (laid_of c.args.state.now) c.args.chooser.now c.args.state.now.table
    (c.mark_table.ensures.good.0 (search rules)) ∙ ap (λ t. SavesOnce t) (sym c.mark_table.ensures.marked)

pub returns-clause-put : goal.returns-clause-put
returns-clause-put c =
    let targets = c.args.chooser.now in
    let table = c.args.state.now.table in
    let none : IsSome (chosen_target targets table) → ⊥ = λ some. (let is = c.mark_table.ensures.good.1 some in cc) in
    ap (λ o. refusal_by_table (marks_of o (mark_good_of targets table))) (lost_is targets table none)
    ∙ ap (λ (place : ℕ). Some (refusals.NoGood place))
    (sym
    (c.last_chosen.ensures
    ∙ ap (last_chosen_of targets) (c.mark_table.ensures.marked ∙ lost_unchanged targets table none)))
