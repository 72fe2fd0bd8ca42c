use Rattle.std.proofs.Common.{arith, take}
use Rattle.std.proofs.lemmas.Grind.{common_steps}
use Rattle.std.proofs.lemmas.Int.Digits.{digits_value_more}
use Rattle.std.specs.Str.Parse.{digits_value}
use Rattle.bb_dts.proofs.NumberLemmas.{fits_64-more}
use Rattle.bb_dts.proofs.number.read_digits.Goals as goal

pub loop-c-preserved : goal.loop-c-preserved
loop-c-preserved c =
    let more = digits_value_more c.args.radix c.args.digits.now c.loop-c.c-index (omega arith) in
    let kept = fits_64-more (digits_value c.args.radix (take c.loop-c.c-index c.args.digits.now)) c.args.radix c.in-Some.digit (omega arith) in
    (grind (arith, common_steps), grind (arith, common_steps))
