-- What a refusal says, and when it comes. `no_memory` is the refusal of a call whose memory was
-- refused: it may come in place of any other answer, and no clause says when.
use Rattle.std.specs.Prelude.{◌≡◌, ◌≢◌, ◌⊎◌, Result, Err}

-- a call is refused as it is expected, but where memory was refused
abbrev pub RefusesAs : {A E : Type 0} → E → Result A E → E → Type 0
RefusesAs no_memory expected refusal = refusal ≢ no_memory → expected ≡ Err refusal

-- a refusal comes exactly where a fact holds
pub record ComesExactly
    {A E : Type 0} (no_memory : E) (result : Result A E) (refusal : E) (fact : Type 0)
    : Type 0 where
  pub only : result ≡ Err refusal → fact
  pub always : fact → (result ≡ Err refusal) ⊎ (result ≡ Err no_memory)

-- it comes exactly where it is expected
abbrev pub ComesFrom : {A B E : Type 0} → E → Result A E → Result B E → E → Type 0
ComesFrom no_memory result expected refusal =
    ComesExactly no_memory result refusal (expected ≡ Err refusal)
