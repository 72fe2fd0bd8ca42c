use Rattle.bb_menu.proofs.Orders.{before_passes_on, none_before_itself, one_before_other}
use Rattle.bb_menu.proofs.law.law_menu_order.Goals as goal

pub returns-clause-irreflexive : goal.returns-clause-irreflexive
returns-clause-irreflexive c = none_before_itself

pub returns-clause-total : goal.returns-clause-total
returns-clause-total c = one_before_other

pub returns-clause-passes_on : goal.returns-clause-passes_on
returns-clause-passes_on c = before_passes_on
