-- What a refusal of one line says.
use Rattle.std.specs.Prelude.{Result}
use Rattle.bb_base.specs.Refusals.{RefusesAs}
use Rattle.bb_chooser.specs.declared.fault.Fault.{Fault}
use Rattle.bb_chooser.specs.declared.fault.Fault.TheVariants.{NoMemory}

-- it is refused as it is expected, unless memory was refused
abbrev pub RefusesLine : {A : Type 0} → Result A Fault → Fault → Type 0
RefusesLine expected fault = RefusesAs NoMemory expected fault
