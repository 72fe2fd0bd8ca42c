use Rattle.std.proofs.Common.{◌∙◌}
use Rattle.bb_words.proofs.Steps.{raised, read_on, none_on, moved, at_number, at_sessions}
use Rattle.bb_words.proofs.drill.read_drill.Goals as goal

pub returns-in_err-number-clause-refused : goal.returns-in_err-number-clause-refused
returns-in_err-number-clause-refused c =
    raised _ c.from_residual.result c.in_err-number.field-0.0 c.from_residual.ensures.1
    (none_on _ _ _ 1 _ (at_number 1 c.args.words.now) c.in_err-number.ensures.refused)

pub returns-in_err-count-clause-refused : goal.returns-in_err-count-clause-refused
returns-in_err-count-clause-refused c =
    let number = read_on _ _ _ _ _ (at_number 1 c.args.words.now) c.in_ok-number.ensures.ok in
    raised _ c.from_residual-in_err-count.result c.in_err-count.field-0.0 c.from_residual-in_err-count.ensures.1
    (moved _ _ _ number (none_on _ _ _ 2 _ (at_sessions 2 c.in_ok-number.number c.args.words.now) c.in_err-count.ensures.refused))

pub returns-in_err-ends_at-clause-refused : goal.returns-in_err-ends_at-clause-refused
returns-in_err-ends_at-clause-refused c =
    let number = read_on _ _ _ _ _ (at_number 1 c.args.words.now) c.in_ok-number.ensures.ok in
    let count = read_on _ _ _ _ _ (at_sessions 2 c.in_ok-number.number c.args.words.now) c.in_ok-count.ensures.ok in
    raised _ c.from_residual-in_err-ends_at.result c.in_err-ends_at.field-0.0 c.from_residual-in_err-ends_at.ensures.1
    (moved _ _ _ (number ∙ count) (c.in_err-ends_at.ensures.refused _))

pub returns-clause-ok : goal.returns-clause-ok
returns-clause-ok c =
    let number = read_on _ _ _ _ _ (at_number 1 c.args.words.now) c.in_ok-number.ensures.ok in
    let count = read_on _ _ _ _ _ (at_sessions 2 c.in_ok-number.number c.args.words.now) c.in_ok-count.ensures.ok in
    number ∙ count ∙ c.in_ok-ends_at.ensures.ok _
