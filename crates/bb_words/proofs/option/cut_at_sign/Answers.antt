use Rattle.std.proofs.Common.{◌≡◌, ◌==◌, length, rules}
use Rattle.std.specs.List.{position_or_len}
use Rattle.bb_words.proofs.Signs.{no_sign}
use Rattle.bb_words.proofs.option.cut_at_sign.Goals as goal

pub returns-in_err-before : goal.returns-in_err-before
returns-in_err-before c =
    let past : position_or_len (λ c. c == 61) c.args.text.now ≡ length c.args.text.now = search rules in
    let none = no_sign c.args.text.now past in
    search rules
