use Rattle.std.proofs.Common.{Some, ap, sym, ◌∙◌}
use Rattle.std.specs.Option.{option_copied}
use Rattle.bb_shell.proofs.Reading.{entry_name, plan_names, plan_read}
use Rattle.bb_shell.specs.Plans.{entry_answer}
use Rattle.bb_shell.proofs.plans.read_plan.Goals as goal

pub returns-clause-planned : goal.returns-clause-planned
returns-clause-planned g c =
    let b = c.args.chooser.now in
    let there =
    entry_name b c.args.target (option_copied c.entry.result) c.in-Some.setting.now c.entry.ensures (ap option_copied c.in-Some.is)
    ∙ ap Some (sym c.as_str.ensures) in
    plan_read b c.args.target (g.F.Files.folder c.args.files.now) c.as_str.result.now c.plan_of_setting.result there
    c.plan_of_setting.ensures.read

pub returns-clause-names : goal.returns-clause-names
returns-clause-names g c =
    plan_names c.args.chooser.now c.args.target (λ files. entry_answer files c.as_str.result.now) (g.F.Files.folder c.args.files.now)
    c.plan_of_setting.result c.requires.there c.plan_of_setting.ensures.read
