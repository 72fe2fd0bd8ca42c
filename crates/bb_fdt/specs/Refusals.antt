-- When a blob is refused.
use Rattle.std.specs.Prelude.{Result}
use Rattle.bb_base.specs.Refusals.{RefusesAs}
use Rattle.bb_fdt.specs.declared.error.FdtError.{FdtError}
use Rattle.bb_fdt.specs.declared.error.FdtError.TheVariants.{NoMemory}

-- a blob is refused as it is expected, but where memory was refused
abbrev pub Refuses : {A : Type 0} → Result A FdtError → FdtError → Type 0
Refuses expected refusal = RefusesAs NoMemory expected refusal
