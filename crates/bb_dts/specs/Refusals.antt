-- When a source is refused.
use Rattle.std.specs.Prelude.{Result}
use Rattle.bb_base.specs.Refusals.{RefusesAs}
use Rattle.bb_dts.specs.declared.error.DtsError.{DtsError}
use Rattle.bb_dts.specs.declared.error.DtsError.TheVariants.{NoMemory}

-- a source is refused as it is expected, but where memory was refused
abbrev pub Refuses : {A : Type 0} → Result A DtsError → DtsError → Type 0
Refuses expected refusal = RefusesAs NoMemory expected refusal
