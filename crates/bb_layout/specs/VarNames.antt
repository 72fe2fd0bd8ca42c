-- Variables by their names.
use Rattle.std.specs.Prelude.{◌≡◌, ℕ, ◌==◌, Bool, true, false, List, [], ◌∷◌, ◌++◌, Option, is_some, if◌then◌else◌, position, slice_get}
use Rattle.std.specs.Map.{lookup}
use Rattle.std.specs.Option.{option_map_or}
use Rattle.std.specs.Str.{bytes_eq}
use Rattle.bb_layout.specs.declared.var.Var.{Var}

-- the place of the first variable of that name
abbrev pub place_of_var : List Var → List ℕ → Option ℕ
place_of_var vars name = position (λ v. bytes_eq name v.name) vars

-- each name has the place of its first variable
abbrev pub AreFirstPlaces : List Var → List (List ℕ × ℕ) → Type 0
AreFirstPlaces vars places = (name : List ℕ) → lookup (bytes_eq name) places ≡ place_of_var vars name

-- a place noted for a name that has none
abbrev pub with_place : List (List ℕ × ℕ) → List ℕ → ℕ → List (List ℕ × ℕ)
with_place places name place = if is_some (lookup (bytes_eq name) places) then places else places ++ (name, place) ∷ []

-- whether no variable before the one at a place has its name
abbrev pub is_first_of_name : List Var → ℕ → Bool
is_first_of_name vars i = option_map_or (λ v. option_map_or (λ k. k == i) (place_of_var vars v.name) false) (slice_get vars i) true
