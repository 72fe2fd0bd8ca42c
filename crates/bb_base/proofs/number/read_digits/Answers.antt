use Rattle.std.proofs.Common.{arith, ap, ◌∙◌, sym, ◌*◌, ◌+◌, ◌^◌, min, get_or}
use Rattle.std.proofs.lemmas.Grind.{common_steps}
use Rattle.std.proofs.lemmas.Int.Digits.{digits_value_more}
use Rattle.bb_base.proofs.Capped.{min-more}
use Rattle.bb_base.proofs.number.read_digits.Goals as goal

pub loop-c-preserved : goal.loop-c-preserved
loop-c-preserved c =
    let more = digits_value_more c.args.radix c.args.digits.now c.loop-c.c-index (omega arith) in
    let capped = min-more (Rattle.std.specs.Str.Parse.digits_value c.args.radix (Rattle.std.proofs.Common.take c.loop-c.c-index c.args.digits.now)) c.args.radix c.in-Some.digit 4294967296 (omega arith) in
    (grind (arith, common_steps), grind (arith, common_steps))
