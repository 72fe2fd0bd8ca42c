use Rattle.std.proofs.Common.{ap, ◌∙◌}
use Rattle.bb_state.specs.Backed.{Backed}
use Rattle.bb_state.specs.Kinds.{format_of}
use Rattle.bb_state.proofs.backing.Backing.format.Goals as goal

pub returns : goal.returns
returns c = c.format.ensures ∙ c.self.invariant.format_is ∙ ap (λ (b : Backed). format_of b.keyed) c.self.view_is
