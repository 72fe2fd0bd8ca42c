-- What is known of an output.
use Rattle.std.specs.Prelude.{◌≡◌, ℕ, List, ◌++◌, take, Option}
use Rattle.std.specs.Option.{option_map}

-- what was sent so far, where the output tells it, and how often a write failed
pub record SinkRecord : Type 0 where
  pub sent : Option (List ℕ)
  pub faults : ℕ

-- the whole piece was sent
abbrev pub Sends : List ℕ → SinkRecord → SinkRecord → Type 0
Sends piece old new = new.sent ≡ option_map (λ sent. sent ++ piece) old.sent

-- some front of the piece was sent
abbrev pub SendsFront : List ℕ → SinkRecord → SinkRecord → Type 0
SendsFront piece old new = (n : ℕ) × Sends (take n piece) old new
