-- What references to texts refer to.
use Rattle.std.specs.Prelude.{ℕ, List, map}
use Rattle.std.specs.Borrow.{Bor}

-- the texts of a list of references
abbrev pub texts_of : List (Bor (List ℕ)) → List (List ℕ)
texts_of refs = map (λ r. r.now) refs

-- the two texts of a pair
abbrev pub text_pair : Bor (List ℕ) × Bor (List ℕ) → List ℕ × List ℕ
text_pair refs = (refs.0.now, refs.1.now)
