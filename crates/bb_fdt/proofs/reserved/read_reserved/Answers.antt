use Rattle.std.proofs.Common.{arith}
use Rattle.std.proofs.lemmas.Grind.{common_steps}
use Rattle.bb_fdt.proofs.PairLemmas.{pairs-cut, pairs-end, pairs-more, push_pair}
use Rattle.bb_fdt.proofs.reserved.read_reserved.Goals as goal

pub loop-rest-preserved : goal.loop-rest-preserved
loop-rest-preserved c =
    let more = pairs-more c.loop-rest.rest.now (omega arith) (grind (arith, common_steps)) in
    grind (arith, common_steps, push_pair)

pub returns-then-is_end-clause-ok : goal.returns-then-is_end-clause-ok
returns-then-is_end-clause-ok c =
    let none = pairs-end c.loop-rest.rest.now (omega arith) (grind (arith, common_steps)) in
    grind (arith, common_steps)

pub returns-clause-none : goal.returns-clause-none
returns-clause-none c =
    let cut = pairs-cut c.loop-rest.rest.now (omega arith) in
    grind (arith, common_steps)
