use Rattle.std.proofs.Common.{rules, sym}
use Rattle.bb_menu.proofs.Orders.{both_lack}
use Rattle.bb_menu.proofs.order.compare_entries.Goals as goal

pub returns-in-true-true : goal.returns-in-true-true
returns-in-true-true c = sym (both_lack c.args.a.now c.args.b.now (search rules) (search rules))
