use Rattle.bb_vars.proofs.Names.{IsNoneBefore}
use Rattle.bb_vars.proofs.read.read_index.Given as goal

-- none of the names so far is the text
abbrev pub invariant-loop-place : goal.invariant-loop-place
invariant-loop-place l = IsNoneBefore l.names l.text l.place
