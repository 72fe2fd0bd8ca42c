use Rattle.std.proofs.Common.{rules, ◌≡◌, Ok, Err, Some, None, ap, refl}
use Rattle.bb_base.specs.Folder.{file_of}
use Rattle.bb_base.specs.declared.files.FileFail.TheVariants as file_fails
use Rattle.bb_shell.proofs.Reading.{read_refused, read_so}
use Rattle.bb_shell.specs.declared.plan_fault.PlanFault.TheVariants.{NoMemory}
use Rattle.bb_shell.proofs.plans.plan_of_file.Goals as goal

pub returns-in_err-plan_of-in-Ok-true-clause-read : goal.returns-in_err-plan_of-in-Ok-true-clause-read
returns-in_err-plan_of-in-Ok-true-clause-read g c =
    let refused : c.from_residual.result ≡ Err NoMemory = search rules in
    read_refused c.args.target (λ files. file_of files c.args.name.now) (g.F.Files.folder c.args.files.now) c.from_residual.result refused

pub returns-in-Ok-true-clause-read : goal.returns-in-Ok-true-clause-read
returns-in-Ok-true-clause-read g c =
    read_so c.args.target (λ files. file_of files c.args.name.now) (g.F.Files.folder c.args.files.now) (Ok (Some c.as_slice.result.now))
    (Ok c.in_ok-plan_of-in-Ok-true.field-0) (search rules) (ap Ok c.in_ok-plan_of-in-Ok-true.ensures)

pub returns-in-Ok-false-clause-read : goal.returns-in-Ok-false-clause-read
returns-in-Ok-false-clause-read g c =
    read_so c.args.target (λ files. file_of files c.args.name.now) (g.F.Files.folder c.args.files.now) (Ok None) (Ok None) (search rules) refl

pub returns-in-Err-Fault-clause-read : goal.returns-in-Err-Fault-clause-read
returns-in-Err-Fault-clause-read g c =
    read_so c.args.target (λ files. file_of files c.args.name.now) (g.F.Files.folder c.args.files.now) (Err file_fails.Fault) _
    (λ files told. tt) refl

pub returns-in-Err-TooLong-clause-read : goal.returns-in-Err-TooLong-clause-read
returns-in-Err-TooLong-clause-read g c =
    read_so c.args.target (λ files. file_of files c.args.name.now) (g.F.Files.folder c.args.files.now) (Err file_fails.TooLong) _
    (search rules) refl

pub returns-clause-read : goal.returns-clause-read
returns-clause-read g c =
    read_refused c.args.target (λ files. file_of files c.args.name.now) (g.F.Files.folder c.args.files.now) _ refl
