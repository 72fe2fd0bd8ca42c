-- What a refusal says, and when it comes; that memory was refused may come before it.
use Rattle.std.specs.Prelude.{Result}
use Rattle.bb_base.specs.Refusals as refusals
use Rattle.bb_chooser.specs.declared.settings_error.SettingsError.{SettingsError}
use Rattle.bb_chooser.specs.declared.settings_error.SettingsError.TheVariants.{NoMemory}

-- an answer is refused as it is expected
abbrev pub Refuses : {A : Type 0} → Result A SettingsError → SettingsError → Type 0
Refuses expected refusal = refusals.RefusesAs NoMemory expected refusal

-- it comes exactly where a fact holds
abbrev pub ComesExactly : {A : Type 0} → Result A SettingsError → SettingsError → Type 0 → Type 0
ComesExactly result refusal fact = refusals.ComesExactly NoMemory result refusal fact

-- it comes exactly where it is expected
abbrev pub ComesFrom : {A B : Type 0} → Result A SettingsError → Result B SettingsError
    → SettingsError → Type 0
ComesFrom result expected refusal = refusals.ComesFrom NoMemory result expected refusal
