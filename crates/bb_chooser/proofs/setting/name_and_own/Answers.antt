use Rattle.std.proofs.Common.{rules, lit<, arith}
use Rattle.std.proofs.lemmas.Grind.{common_steps}
use Rattle.bb_chooser.proofs.Reading.{no_sides}
use Rattle.bb_chooser.proofs.setting.name_and_own.Goals as goal

pub returns-in_err-name : goal.returns-in_err-name
returns-in_err-name c =
    let none = no_sides 46 c.args.key.now (c.in_err-name.ensures.byte (lit< tt) (λ w o h. h)) in
    rw none (search rules)

pub returns : goal.returns
returns c = grind (arith, common_steps)
