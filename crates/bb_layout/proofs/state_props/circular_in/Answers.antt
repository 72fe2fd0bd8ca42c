use Rattle.std.proofs.Common.{rules}
use Rattle.bb_layout.proofs.state_props.circular_in.Goals as goal

pub returns-then-eq-2 : goal.returns-then-eq-2
returns-then-eq-2 c = search rules
