use Rattle.std.proofs.Common.{rules, ◌≡◌, Ok, IfOk, IfErr, sym, subst}
use Rattle.bb_chooser.proofs.Reading.{behind_front, no_front}
use Rattle.bb_chooser.specs.Faults.{RefusesLine}
use Rattle.bb_chooser.proofs.line.assignment.Goals as goal

pub returns-in_default-clause-refused : goal.returns-in_default-clause-refused
returns-in_default-clause-refused c = λ told. no_front c.args.text.now c.in_default.ensures.cases

pub returns-clause-ok : goal.returns-clause-ok
returns-clause-ok c =
    let is = behind_front c.args.text.now c.in-Some.rest.now (search rules) in
    subst (λ r. IfOk c.pair_setting.result (λ setting. r ≡ Ok setting)) (sym is) c.pair_setting.ensures.ok

pub returns-clause-refused : goal.returns-clause-refused
returns-clause-refused c =
    let is = behind_front c.args.text.now c.in-Some.rest.now (search rules) in
    subst (λ r. IfErr c.pair_setting.result (RefusesLine r)) (sym is) c.pair_setting.ensures.refused
