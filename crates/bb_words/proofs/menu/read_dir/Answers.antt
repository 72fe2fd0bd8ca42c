use Rattle.std.proofs.Common.{◌≡◌, ◌∙◌, Ok, refl, sym, ap}
use Rattle.bb_words.specs.Words.{DirValue}
use Rattle.bb_words.specs.declared.command.Command.TheVariants.{Menu}
use Rattle.bb_words.proofs.Steps.{raised, moved, missing, dir_value}
use Rattle.bb_words.proofs.menu.read_dir.Goals as goal

pub returns-in_err-dir-clause-refused : goal.returns-in_err-dir-clause-refused
returns-in_err-dir-clause-refused c =
    raised _ c.from_residual.result c.in_err-dir.field-0.0 c.from_residual.ensures.1
    (missing 2 DirValue c.args.words.now _ refl c.in_err-dir.ensures.refused)

pub returns-in_err-ends_at-clause-refused : goal.returns-in_err-ends_at-clause-refused
returns-in_err-ends_at-clause-refused c =
    raised _ c.from_residual-in_err-ends_at.result c.in_err-ends_at.field-0.0 c.from_residual-in_err-ends_at.ensures.1
    (moved _ _ _ (dir_value c.args.words.now _ c.in_ok-dir.ensures.ok) (c.in_err-ends_at.ensures.refused _))

pub returns-clause-ok : goal.returns-clause-ok
returns-clause-ok c =
    dir_value c.args.words.now _ c.in_ok-dir.ensures.ok
    ∙ c.in_ok-ends_at.ensures.ok _
    ∙ ap (λ d. Ok (Menu (record { dir = d }))) (sym c.in_ok-dir-2.ensures)
