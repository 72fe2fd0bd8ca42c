use Rattle.std.proofs.Common.{◌<◌, arith, rules}
use Rattle.std.proofs.lemmas.Grind.{common_steps}
use Rattle.bb_flash.proofs.Tearing.{page_count_le}
use Rattle.bb_flash.proofs.pages.touched_pages.Goals as goal

pub returns-clause-few : goal.returns-clause-few
returns-clause-few c =
    let some : 0 < c.args.len = omega arith in
    let few = page_count_le c.args.page c.args.at c.args.len c.requires.some some in
    grind (arith, common_steps)

pub returns-clause-value : goal.returns-clause-value
returns-clause-value c = search rules
