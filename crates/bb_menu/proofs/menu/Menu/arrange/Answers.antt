use Rattle.std.proofs.Common.{rules}
use Rattle.bb_menu.proofs.Sorting.{arranged}
use Rattle.bb_menu.proofs.menu.Menu.arrange.Goals as goal

pub returns-clause-arranged : goal.returns-clause-arranged
returns-clause-arranged c = arranged _ _ _ c.sort_unstable_by.ensures.sorted (λ f a r f' k. search rules)
