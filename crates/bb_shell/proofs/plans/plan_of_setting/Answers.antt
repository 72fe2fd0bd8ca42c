use Rattle.std.proofs.Common.{Some, None, ap, sym, ◌∙◌}
use Rattle.std.specs.Option.{option_copied}
use Rattle.bb_shell.proofs.FolderPlans.{setting_read}
use Rattle.bb_shell.proofs.plans.plan_of_setting.Goals as goal

pub returns-in-Some-clause-read : goal.returns-in-Some-clause-read
returns-in-Some-clause-read g c =
    let setting = c.args.setting.now in
    setting_read c.args.target setting (Some c.in-Some.dir.now) (g.F.Files.folder c.args.files.now) c.plan_of_folder.result
    (sym (ap option_copied c.in-Some.is) ∙ c.folder_named.ensures) c.plan_of_folder.ensures.read

pub returns-in-None-clause-read : goal.returns-in-None-clause-read
returns-in-None-clause-read g c =
    let setting = c.args.setting.now in
    setting_read c.args.target setting None (g.F.Files.folder c.args.files.now) c.plan_of_file.result
    (sym (ap option_copied c.in-None.is) ∙ c.folder_named.ensures) c.plan_of_file.ensures.read
