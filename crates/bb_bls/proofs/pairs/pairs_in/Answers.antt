use Rattle.std.proofs.Common.{◌∙◌, ap, arith, filter_map}
use Rattle.std.proofs.lemmas.Grind.{common_steps}
use Rattle.std.proofs.lemmas.Iterator.Consumers.{YieldsList-end}
use Rattle.std.proofs.lemmas.Iterator.Splits.{YieldsList-from_lines}
use Rattle.bb_bls.proofs.ValueSteps.{pairs_more}
use Rattle.bb_bls.specs.Entry.{pair_of}
use Rattle.bb_bls.proofs.pairs.pairs_in.Goals as goal

pub loop-line-preserved : goal.loop-line-preserved
loop-line-preserved c = grind (arith, common_steps, pairs_more)

pub loop-line-preserved-in-Continue-1 : goal.loop-line-preserved-in-Continue-1
loop-line-preserved-in-Continue-1 c = grind (arith, common_steps, pairs_more)

pub returns : goal.returns
returns c =
    let all = YieldsList-end (YieldsList-from_lines c.args.text.now (cc)) c.loop-line.yielded _ c.loop-line.yielded_by _ _ c.in-None.is c.next.ensures.steps in
    c.loop-line.invariant ∙ ap (filter_map pair_of) all.0
