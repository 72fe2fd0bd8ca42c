use Rattle.std.proofs.Common.{◌≡◌, ◌∙◌, refl, true, false, codes, Some, None}
use Rattle.std.proofs.lemmas.Option.{slice_get_within}
use Rattle.std.specs.Str.{bytes_eq}
use Rattle.bb_words.specs.Table.{row_of}
use Rattle.bb_words.specs.Words.{Start}
use Rattle.bb_words.proofs.Steps.{raised, moved, ok_moved, err_moved, missing, raw_command, menu_command, drill_command, option_command, no_command}
use Rattle.bb_words.proofs.read.read_words.Goals as goal

pub returns-in_err-name-clause-refused : goal.returns-in_err-name-clause-refused
returns-in_err-name-clause-refused c =
    raised _ c.from_residual.result c.in_err-name.field-0.0 c.from_residual.ensures.1
    (missing 0 Start c.args.words.now _ refl c.in_err-name.ensures.refused)

pub returns-in_err-read_raw-clause-refused : goal.returns-in_err-read_raw-clause-refused
returns-in_err-read_raw-clause-refused c =
    let raw : bytes_eq c.in_ok-name.name.now (codes "raw") ≡ true = cc in
    raised _ c.from_residual-in_err-read_raw.result c.in_err-read_raw.field-0.0 c.from_residual-in_err-read_raw.ensures.1
    (moved _ _ _ (raw_command c.args.words.now _ c.in_ok-name.ensures.ok raw) c.in_err-read_raw.ensures.refused)

pub returns-then-eq-clause-ok : goal.returns-then-eq-clause-ok
returns-then-eq-clause-ok c =
    let raw : bytes_eq c.in_ok-name.name.now (codes "raw") ≡ true = cc in
    raw_command c.args.words.now _ c.in_ok-name.ensures.ok raw ∙ c.in_ok-read_raw.ensures.ok

pub returns-in_err-read_menu-clause-refused : goal.returns-in_err-read_menu-clause-refused
returns-in_err-read_menu-clause-refused c =
    let raw : bytes_eq c.in_ok-name.name.now (codes "raw") ≡ false = cc in
    let menu : bytes_eq c.in_ok-name.name.now (codes "menu") ≡ true = cc in
    raised _ c.from_residual-in_err-read_menu.result c.in_err-read_menu.field-0.0 c.from_residual-in_err-read_menu.ensures.1
    (moved _ _ _ (menu_command c.args.words.now _ c.in_ok-name.ensures.ok raw menu) c.in_err-read_menu.ensures.refused)

pub returns-then-eq-2-clause-ok : goal.returns-then-eq-2-clause-ok
returns-then-eq-2-clause-ok c =
    let raw : bytes_eq c.in_ok-name.name.now (codes "raw") ≡ false = cc in
    let menu : bytes_eq c.in_ok-name.name.now (codes "menu") ≡ true = cc in
    menu_command c.args.words.now _ c.in_ok-name.ensures.ok raw menu ∙ c.in_ok-read_menu.ensures.ok

pub returns-in_err-read_drill-clause-refused : goal.returns-in_err-read_drill-clause-refused
returns-in_err-read_drill-clause-refused c =
    let raw : bytes_eq c.in_ok-name.name.now (codes "raw") ≡ false = cc in
    let menu : bytes_eq c.in_ok-name.name.now (codes "menu") ≡ false = cc in
    let drill : bytes_eq c.in_ok-name.name.now (codes "drill") ≡ true = cc in
    raised _ c.from_residual-in_err-read_drill.result c.in_err-read_drill.field-0.0 c.from_residual-in_err-read_drill.ensures.1
    (moved _ _ _ (drill_command c.args.words.now _ c.in_ok-name.ensures.ok raw menu drill) c.in_err-read_drill.ensures.refused)

pub returns-then-eq-3-clause-ok : goal.returns-then-eq-3-clause-ok
returns-then-eq-3-clause-ok c =
    let raw : bytes_eq c.in_ok-name.name.now (codes "raw") ≡ false = cc in
    let menu : bytes_eq c.in_ok-name.name.now (codes "menu") ≡ false = cc in
    let drill : bytes_eq c.in_ok-name.name.now (codes "drill") ≡ true = cc in
    drill_command c.args.words.now _ c.in_ok-name.ensures.ok raw menu drill ∙ c.in_ok-read_drill.ensures.ok

pub returns-in-Some-clause-ok : goal.returns-in-Some-clause-ok
returns-in-Some-clause-ok c =
    let raw : bytes_eq c.in_ok-name.name.now (codes "raw") ≡ false = cc in
    let menu : bytes_eq c.in_ok-name.name.now (codes "menu") ≡ false = cc in
    let drill : bytes_eq c.in_ok-name.name.now (codes "drill") ≡ false = cc in
    let named : row_of c.in_ok-name.name.now ≡ Some c.in-Some.row = cc (c.of.ensures, c.in-Some.is) in
    ok_moved _ _ _ (option_command c.in-Some.row c.args.words.now _ c.in_ok-name.ensures.ok raw menu drill named) c.read_options.ensures.ok

pub returns-in-Some-clause-refused : goal.returns-in-Some-clause-refused
returns-in-Some-clause-refused c =
    let raw : bytes_eq c.in_ok-name.name.now (codes "raw") ≡ false = cc in
    let menu : bytes_eq c.in_ok-name.name.now (codes "menu") ≡ false = cc in
    let drill : bytes_eq c.in_ok-name.name.now (codes "drill") ≡ false = cc in
    let named : row_of c.in_ok-name.name.now ≡ Some c.in-Some.row = cc (c.of.ensures, c.in-Some.is) in
    err_moved _ _ _ (option_command c.in-Some.row c.args.words.now _ c.in_ok-name.ensures.ok raw menu drill named) c.read_options.ensures.refused

pub returns-in-None-clause-refused : goal.returns-in-None-clause-refused
returns-in-None-clause-refused c =
    let raw : bytes_eq c.in_ok-name.name.now (codes "raw") ≡ false = cc in
    let menu : bytes_eq c.in_ok-name.name.now (codes "menu") ≡ false = cc in
    let drill : bytes_eq c.in_ok-name.name.now (codes "drill") ≡ false = cc in
    let named : row_of c.in_ok-name.name.now ≡ None = cc (c.of.ensures, c.in-None.is) in
    no_command c.args.words.now _ c.in_ok-name.ensures.ok raw menu drill named

pub read_options-requires : goal.read_options-requires
read_options-requires c = slice_get_within c.args.words.now 0 _ c.in_ok-name.ensures.ok
