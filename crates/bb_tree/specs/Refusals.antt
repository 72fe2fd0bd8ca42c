-- When a draft is refused.
use Rattle.std.specs.Prelude.{Result}
use Rattle.bb_base.specs.Refusals.{RefusesAs}
use Rattle.bb_tree.specs.declared.tree_error.TreeError.{TreeError}
use Rattle.bb_tree.specs.declared.tree_error.TreeError.TheVariants.{NoMemory}

-- a draft is refused as it is expected, but where memory was refused
abbrev pub Refuses : {A : Type 0} → Result A TreeError → TreeError → Type 0
Refuses expected refusal = RefusesAs NoMemory expected refusal
