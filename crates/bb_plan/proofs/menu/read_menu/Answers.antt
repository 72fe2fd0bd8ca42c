use Rattle.std.proofs.Common.{◌≡◌, List, ℕ, None, Some, Ok, Err, subst}
use Rattle.bb_base.specs.declared.files.FileFail.TheVariants.{TooLong}
use Rattle.bb_menu.specs.Menu.{is_menu_fault, menu_answer}
use Rattle.bb_plan.proofs.Sources.{file_given, file_short, given_menu, menu_unread}
use Rattle.bb_plan.specs.FilesRead.{AskedMenu}
use Rattle.bb_plan.proofs.menu.read_menu.Goals as goal

pub returns-in-Ok-clause-read : goal.returns-in-Ok-clause-read
returns-in-Ok-clause-read g c =
    let call = c.in-Ok.ensures in
    file_given (AskedMenu c.args.dir.now) _ _ call.told c.in-Ok.text call.counts
    (λ files told.
    subst (λ (dir : List ℕ). menu_answer files dir ≡ Ok (Some c.in-Ok.text)) c.as_str.ensures
    (call.ok files told))

pub returns-in_err-menu_refusal-in-Err-clause-read :
    goal.returns-in_err-menu_refusal-in-Err-clause-read
returns-in_err-menu_refusal-in-Err-clause-read g c =
    let call = c.in-Err.ensures in
    file_short (AskedMenu c.args.dir.now) _ _ call.told (is_menu_fault (given_menu c.in-Err.fault))
    call.counts c.from_residual.result c.from_residual.ensures.1

pub returns-in_ok-menu_refusal-in-Err-clause-read :
    goal.returns-in_ok-menu_refusal-in-Err-clause-read
returns-in_ok-menu_refusal-in-Err-clause-read g c =
    let call = c.in-Err.ensures in
    menu_unread c.args.dir.now _ _ call.told _ c.in-Err.fault c.in_ok-menu_refusal-in-Err.ensures.is
    call.counts
    (λ e files told.
    subst (λ (d : List ℕ). menu_answer files d ≡ Ok None) c.as_str.ensures
    (call.no_folder e files told))
    (λ e files told.
    subst (λ (d : List ℕ). menu_answer files d ≡ Err TooLong) c.as_str.ensures
    (call.too_long e files told))
