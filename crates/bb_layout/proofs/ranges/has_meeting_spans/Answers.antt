use Rattle.std.proofs.Common.{arith}
use Rattle.std.proofs.lemmas.Grind.{common_steps}
use Rattle.bb_layout.proofs.ranges.has_meeting_spans.Goals as goal

pub returns-then-span-end : goal.returns-then-span-end
returns-then-span-end c = grind (arith, common_steps)

pub loop-span-preserved : goal.loop-span-preserved
loop-span-preserved c = grind (arith, common_steps)

pub returns : goal.returns
returns c = grind (arith, common_steps)
