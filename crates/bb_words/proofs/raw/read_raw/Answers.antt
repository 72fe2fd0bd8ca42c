use Rattle.std.proofs.Common.{◌∙◌}
use Rattle.bb_words.proofs.Steps.{raised, read_on, none_on, moved, at_magic, at_length}
use Rattle.bb_words.proofs.raw.read_raw.Goals as goal

pub returns-in_err-magic-clause-refused : goal.returns-in_err-magic-clause-refused
returns-in_err-magic-clause-refused c =
    raised _ c.from_residual.result c.in_err-magic.field-0.0 c.from_residual.ensures.1
    (none_on _ _ _ 1 _ (at_magic 1 c.args.words.now) c.in_err-magic.ensures.refused)

pub returns-in_err-area_len-clause-refused : goal.returns-in_err-area_len-clause-refused
returns-in_err-area_len-clause-refused c =
    let magic = read_on _ _ _ _ _ (at_magic 1 c.args.words.now) c.in_ok-magic.ensures.ok in
    raised _ c.from_residual-in_err-area_len.result c.in_err-area_len.field-0.0 c.from_residual-in_err-area_len.ensures.1
    (moved _ _ _ magic (none_on _ _ _ 2 _ (at_length 2 c.in_ok-magic.magic c.args.words.now) c.in_err-area_len.ensures.refused))

pub returns-in_err-action-clause-refused : goal.returns-in_err-action-clause-refused
returns-in_err-action-clause-refused c =
    let magic = read_on _ _ _ _ _ (at_magic 1 c.args.words.now) c.in_ok-magic.ensures.ok in
    let len = read_on _ _ _ _ _ (at_length 2 c.in_ok-magic.magic c.args.words.now) c.in_ok-area_len.ensures.ok in
    raised _ c.from_residual-in_err-action.result c.in_err-action.field-0.0 c.from_residual-in_err-action.ensures.1
    (moved _ _ _ (magic ∙ len) (c.in_err-action.ensures.refused c.in_ok-magic.magic))

pub returns-clause-ok : goal.returns-clause-ok
returns-clause-ok c =
    let magic = read_on _ _ _ _ _ (at_magic 1 c.args.words.now) c.in_ok-magic.ensures.ok in
    let len = read_on _ _ _ _ _ (at_length 2 c.in_ok-magic.magic c.args.words.now) c.in_ok-area_len.ensures.ok in
    magic ∙ len ∙ c.in_ok-action.ensures.ok c.in_ok-magic.magic
