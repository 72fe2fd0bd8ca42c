use Rattle.std.proofs.Common.{◌^◌, arith, lit≤}
use Rattle.std.proofs.lemmas.Grind.{common_steps}
use Rattle.bb_dts.proofs.NumberLemmas.{number_below_is}
use Rattle.bb_dts.proofs.value.cell.Goals as goal

pub returns-in-Ok : goal.returns-in-Ok
returns-in-Ok c = let e = number_below_is (2 ^ 32) c.args.at c.args.word.now (lit≤ tt) in
    grind (arith, common_steps)

pub returns-in-Err-Malformed : goal.returns-in-Err-Malformed
returns-in-Err-Malformed c = let e = number_below_is (2 ^ 32) c.args.at c.args.word.now (lit≤ tt) in
    grind (arith, common_steps)

pub returns-in-Err-TooLarge : goal.returns-in-Err-TooLarge
returns-in-Err-TooLarge c = let e = number_below_is (2 ^ 32) c.args.at c.args.word.now (lit≤ tt) in
    grind (arith, common_steps)
