use Rattle.std.proofs.Common.{rules, ◌∙◌}
use Rattle.bb_menu.proofs.Numbers.{bytes_decide, length_decides}
use Rattle.bb_menu.proofs.version.compare_numbers.Goals as goal

pub returns-then-is_ne : goal.returns-then-is_ne
returns-then-is_ne c =
    let d = c.without_zeros-digits in
    let o = c.without_zeros-others in
    length_decides d.result.now o.result.now c.args.digits.now c.args.others.now c.cmp-order.result
    d.ensures.digits o.ensures.digits d.ensures.leads o.ensures.leads d.ensures.value o.ensures.value
    (search rules) (search rules)

pub returns : goal.returns
returns c =
    let d = c.without_zeros-digits in
    let o = c.without_zeros-others in
    c.cmp.ensures
    ∙ bytes_decide d.result.now o.result.now c.args.digits.now c.args.others.now c.cmp-order.result
    d.ensures.digits o.ensures.digits d.ensures.leads o.ensures.leads d.ensures.value o.ensures.value
    (search rules) (search rules)
