use Rattle.std.proofs.Common.{rules, lit<}
use Rattle.bb_chooser.proofs.Reading.{no_sides}
use Rattle.bb_chooser.proofs.line.key_and_value.Goals as goal

pub returns-in_err-key : goal.returns-in_err-key
returns-in_err-key c =
    let none = no_sides 61 c.args.text.now (c.in_err-key.ensures.byte (lit< tt) (λ w o h. h)) in
    rw none (search rules)
