-- What a refusal says.
use Rattle.std.specs.Prelude.{◌≡◌, Result, Err}
use Rattle.bb_vars.specs.declared.value_error.ValueError.{ValueError}

-- a text is refused for the cause that is expected
abbrev pub Refuses : {A : Type 0} → Result A ValueError → ValueError → Type 0
Refuses expected cause = expected ≡ Err cause
