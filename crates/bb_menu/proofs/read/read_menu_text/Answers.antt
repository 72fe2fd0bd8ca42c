use Rattle.std.proofs.Common.{Ok, Some, ap, ◌∙◌, sym}
use Rattle.bb_menu.proofs.Placing.{answer_is}
use Rattle.bb_menu.specs.Menu.{items_of_folder}
use Rattle.bb_menu.proofs.read.read_menu_text.Goals as goal

pub returns-clause-ok : goal.returns-clause-ok
returns-clause-ok g c files told =
    answer_is (items_of_folder files c.args.dir.now) c.in_ok-menu.menu (c.in_ok-menu.ensures.ok files told)
    ∙ ap (λ l. Ok (Some l)) (sym c.in_ok-text.ensures)
