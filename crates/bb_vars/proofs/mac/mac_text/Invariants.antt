use Rattle.std.proofs.Common.{◌≡◌, length}
use Rattle.bb_vars.proofs.MacText.{HasPairs, HasColons}
use Rattle.bb_vars.proofs.mac.mac_text.Given as goal

-- the pairs so far are written
abbrev pub invariant-loop-i : goal.invariant-loop-i
invariant-loop-i l = record {
  long : length l.text ≡ 17;
  pairs : HasPairs l.text l.bytes l.i;
  colons : HasColons l.text;
}
