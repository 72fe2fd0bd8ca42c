use Rattle.std.proofs.Common.{◌≡◌, arith}
use Rattle.std.proofs.lemmas.Grind.{common_steps}
use Rattle.bb_vars.proofs.MacText.{text_from_pairs, pairs_more, colons_stay}
use Rattle.bb_vars.proofs.mac.mac_text.Goals as goal

pub loop-i-preserved : goal.loop-i-preserved
loop-i-preserved c = record {
  long = grind (arith, common_steps);
  pairs = pairs_more _ _ _ _ _ (omega arith) c.loop-i.invariant.long c.digit.ensures c.digit-in-loop-i.ensures c.loop-i.invariant.pairs;
  colons = colons_stay _ _ _ _ c.loop-i.invariant.colons;
}

pub returns : goal.returns
returns c =
    let all : c.loop-i.i ≡ 6 = omega arith in
    text_from_pairs _ _ c.loop-i.invariant.long c.requires (rw all at c.loop-i.invariant.pairs) c.loop-i.invariant.colons
