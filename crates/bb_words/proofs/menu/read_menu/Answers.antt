use Rattle.std.proofs.Common.{◌≡◌, ◌∙◌, refl, true, false, codes}
use Rattle.std.specs.Str.{bytes_eq}
use Rattle.bb_words.specs.Words.{DirOption}
use Rattle.bb_words.proofs.Steps.{raised, menu_moved, err_moved, missing, dir_option, no_dir_option}
use Rattle.bb_words.proofs.menu.read_menu.Goals as goal

pub returns-in_err-word-clause-refused : goal.returns-in_err-word-clause-refused
returns-in_err-word-clause-refused c =
    raised _ c.from_residual.result c.in_err-word.field-0.0 c.from_residual.ensures.1
    (missing 1 DirOption c.args.words.now _ refl c.in_err-word.ensures.refused)

pub returns-then-eq-clause-ok : goal.returns-then-eq-clause-ok
returns-then-eq-clause-ok c =
    let dir : bytes_eq c.in_ok-word.word.now (codes "--dir") ≡ true = cc in
    menu_moved _ _ _ (dir_option c.args.words.now _ c.in_ok-word.ensures.ok dir) c.read_dir.ensures.ok

pub returns-then-eq-clause-refused : goal.returns-then-eq-clause-refused
returns-then-eq-clause-refused c =
    let dir : bytes_eq c.in_ok-word.word.now (codes "--dir") ≡ true = cc in
    err_moved _ _ _ (dir_option c.args.words.now _ c.in_ok-word.ensures.ok dir) c.read_dir.ensures.refused

pub returns-clause-refused : goal.returns-clause-refused
returns-clause-refused c =
    let other : bytes_eq c.in_ok-word.word.now (codes "--dir") ≡ false = cc in
    no_dir_option c.args.words.now _ c.in_ok-word.ensures.ok other
