-- What references to texts refer to.
use Rattle.std.specs.Prelude.{ℕ, List}
use Rattle.std.specs.Borrow.{Bor}

-- the two texts of a pair
abbrev pub text_pair : Bor (List ℕ) × Bor (List ℕ) → List ℕ × List ℕ
text_pair refs = (refs.0.now, refs.1.now)
