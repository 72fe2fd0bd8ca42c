use Rattle.std.proofs.Common.{◌≡◌, ◌++◌, drop, map}
use Rattle.bb_layout.specs.Spans.{span_of}
use Rattle.bb_layout.proofs.ranges.spans_of.Given as goal

-- the spans of the variables so far are there
abbrev pub invariant-loop-var : goal.invariant-loop-var
invariant-loop-var l = l.spans.items ++ map span_of (drop l.var-index l.var-items) ≡ map span_of l.vars
