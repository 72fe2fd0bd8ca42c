use Rattle.std.proofs.Common.{rules}
use Rattle.bb_layout.proofs.state_props.type_in.Goals as goal

pub returns : goal.returns
returns c = search rules
