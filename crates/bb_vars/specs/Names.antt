-- The names of an enum, which a text may be.
use Rattle.std.specs.Prelude.{ℕ, Bool, false, List, Option, position, slice_get}
use Rattle.std.specs.Option.{option_map_or}
use Rattle.std.specs.Str.{bytes_eq}

-- the place of the first name that is the text, byte for byte
abbrev pub place_of_name : List (List ℕ) → List ℕ → Option ℕ
place_of_name names text = position (λ name. bytes_eq name text) names

-- whether there is such a place, and its name is the text
abbrev pub is_name_at : List (List ℕ) → List ℕ → ℕ → Bool
is_name_at names text i = option_map_or (λ name. bytes_eq name text) (slice_get names i) false
