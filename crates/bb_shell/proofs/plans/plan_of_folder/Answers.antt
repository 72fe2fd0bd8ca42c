use Rattle.std.proofs.Common.{rules, ◌≡◌, Ok, Err, None, Option, refl, subst, sym}
use Rattle.bb_flash.specs.declared.plan.Plan.{Plan}
use Rattle.bb_base.specs.declared.files.FileFail.TheVariants as file_fails
use Rattle.bb_menu.specs.declared.fault.MenuFault.TheVariants as menu_faults
use Rattle.bb_shell.proofs.FolderPlans.{folder_fault, folder_read}
use Rattle.bb_shell.proofs.Reading.{read_refused, read_so}
use Rattle.bb_shell.specs.Plans.{IsPlanRead, folder_answer}
use Rattle.bb_shell.proofs.plans.plan_of_folder.Goals as goal

pub returns-in-Ok-clause-read : goal.returns-in-Ok-clause-read
returns-in-Ok-clause-read g c =
    let before = g.F.Files.folder c.args.files.now in
    let dir = c.args.dir.now in
    let menu = c.in-Ok.menu in
    subst (λ (plan : Option Plan). IsPlanRead c.args.target (λ files. folder_answer files dir) before (Ok plan)) (sym c.first_plan.ensures)
    (folder_read before dir c.args.target menu c.in-Ok.ensures.ok c.in-Ok.ensures.read)

pub returns-in-Err-NoFolder-clause-read : goal.returns-in-Err-NoFolder-clause-read
returns-in-Err-NoFolder-clause-read g c =
    let before = g.F.Files.folder c.args.files.now in
    let dir = c.args.dir.now in
    let is : c.read_menu.result ≡ Err menu_faults.NoFolder = search rules in
    read_so c.args.target (λ files. folder_answer files dir) before (Ok None) (Ok None)
    (folder_fault before dir menu_faults.NoFolder (Ok None) (c.read_menu.ensures.no_folder is) (λ files. refl)) refl

pub returns-in-Err-FileFault-clause-read : goal.returns-in-Err-FileFault-clause-read
returns-in-Err-FileFault-clause-read g c =
    read_so c.args.target (λ files. folder_answer files c.args.dir.now) (g.F.Files.folder c.args.files.now) (Err file_fails.Fault) _
    (λ files told. tt) refl

pub returns-in-Err-FileTooLong-clause-read : goal.returns-in-Err-FileTooLong-clause-read
returns-in-Err-FileTooLong-clause-read g c =
    let before = g.F.Files.folder c.args.files.now in
    let dir = c.args.dir.now in
    let is : c.read_menu.result ≡ Err menu_faults.FileTooLong = search rules in
    read_so c.args.target (λ files. folder_answer files dir) before (Err file_fails.TooLong) _
    (folder_fault before dir menu_faults.FileTooLong (Err file_fails.TooLong) (c.read_menu.ensures.too_long is) (λ files. refl)) refl

pub returns-in-Err-NoMemory-clause-read : goal.returns-in-Err-NoMemory-clause-read
returns-in-Err-NoMemory-clause-read g c =
    read_refused c.args.target (λ files. folder_answer files c.args.dir.now) (g.F.Files.folder c.args.files.now) _ refl
