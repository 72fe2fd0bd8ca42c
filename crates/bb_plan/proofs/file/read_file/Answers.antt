use Rattle.std.proofs.Common.{◌≡◌, ◌∙◌, ℕ, Bool, true, false, List, Some, None, Ok, Err, ap, subst}
use Rattle.bb_base.specs.Folder.{file_of, file_read, is_fault}
use Rattle.bb_base.specs.declared.files.FileFail.{FileFail}
use Rattle.bb_base.specs.declared.files.FileFail.TheVariants.{TooLong}
use Rattle.bb_plan.specs.FilesRead.{AskedFile}
use Rattle.bb_plan.specs.declared.refusal.Refusal.TheVariants.{FileMissing}
use Rattle.bb_plan.proofs.Sources.{file_given, file_missing, file_short, file_unread}
use Rattle.bb_plan.proofs.file.read_file.Goals as goal

pub returns-in_err-copy-in-Ok-false-clause-read : goal.returns-in_err-copy-in-Ok-false-clause-read
returns-in_err-copy-in-Ok-false-clause-read g c =
    let call = c.in-Ok-false.ensures in
    file_short (AskedFile c.args.name.now) _ _ call.told false call.counts c.from_residual.result
    c.from_residual.ensures.1

pub returns-in_ok-copy-in-Ok-false-clause-read : goal.returns-in_ok-copy-in-Ok-false-clause-read
returns-in_ok-copy-in-Ok-false-clause-read g c =
    let call = c.in-Ok-false.ensures in
    let name = c.in_ok-copy-in-Ok-false in
    file_missing (AskedFile c.args.name.now) _ _ call.told _ (ap FileMissing name.ensures)
    call.counts
    (λ files told.
    subst (λ (n : List ℕ). file_of files n ≡ Ok None) c.as_str.ensures
    (call.read files told
    ∙ ap (λ (there : Bool). Ok (file_read there c.none-bytes.result c.read.new.out)) {y = false}
    c.in-Ok-false.field-0-test))

pub returns-in_err-file_refusal-in-Err-clause-read :
    goal.returns-in_err-file_refusal-in-Err-clause-read
returns-in_err-file_refusal-in-Err-clause-read g c =
    let call = c.in-Err.ensures in
    let name = c.from_residual-in_err-file_refusal-in-Err in
    file_short (AskedFile c.args.name.now) _ _ call.told (is_fault (Err c.in-Err.fail)) call.counts
    name.result name.ensures.1

pub returns-in_ok-file_refusal-in-Err-clause-read :
    goal.returns-in_ok-file_refusal-in-Err-clause-read
returns-in_ok-file_refusal-in-Err-clause-read g c =
    let call = c.in-Err.ensures in
    file_unread (AskedFile c.args.name.now) _ _ call.told _ c.in-Err.fail
    c.in_ok-file_refusal-in-Err.ensures.is call.counts
    (λ long files told.
    subst (λ (n : List ℕ). file_of files n ≡ Err TooLong) c.as_str.ensures
    (call.too_long (ap (λ (e : FileFail). Err e) long) files told))

pub returns-in-Ok-true-clause-read : goal.returns-in-Ok-true-clause-read
returns-in-Ok-true-clause-read g c =
    let call = c.in-Ok-true.ensures in
    file_given (AskedFile c.args.name.now) _ _ call.told c.read.new.out call.counts
    (λ files told.
    subst (λ (n : List ℕ). file_of files n ≡ Ok (Some c.read.new.out)) c.as_str.ensures
    (call.read files told
    ∙ ap (λ (there : Bool). Ok (file_read there c.none-bytes.result c.read.new.out)) {y = true}
    c.in-Ok-true.field-0-test
    ∙ ap (λ (old : List ℕ). Ok (file_read true old c.read.new.out)) c.none-bytes.ensures))
