use Rattle.std.proofs.Common.{Some, rules}
use Rattle.bb_menu.proofs.read.read_item.Goals as goal

pub returns-in-Ok-true-clause-ok : goal.returns-in-Ok-true-clause-ok
returns-in-Ok-true-clause-ok g c = record {
  text = Some c.as_slice.result.now;
  gives = c.in_ok-item_of_text-in-Ok-true.ensures;
  told = search rules;
}
