-- The entries of a map by the texts of their keys.
use Rattle.std.specs.Prelude.{String, ℕ, List, map}
use Rattle.std.specs.HashMap.{HashMap}
use Rattle.std.specs.String.{string_bytes}

-- entries, each with the text of its key
abbrev pub texts_in : {Z X : Type 0} → List (String Z × X) → List (List ℕ × X)
texts_in es = map (λ e. (string_bytes e.0, e.1)) es

-- the entries of a map of labels, each with its path
abbrev pub labels_in : {Z S : Type 0} → HashMap (String Z) (List ℕ) S → List (List ℕ × List ℕ)
labels_in labels = texts_in labels.entries
