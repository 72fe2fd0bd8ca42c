use Rattle.std.proofs.Common.{◌≡◌, drop}
use Rattle.bb_layout.specs.Spans.{begins_early, has_meeting_spans}
use Rattle.bb_layout.proofs.ranges.has_meeting_spans.Given as goal

-- none so far begins early
abbrev pub invariant-loop-span : goal.invariant-loop-span
invariant-loop-span l = begins_early l.end (drop l.span-index l.rest) ≡ has_meeting_spans l.spans
