-- What areas are to a layout: the tables that they show, as it reads them.
use Rattle.std.specs.Prelude.{◌≡◌, ℕ, All, IfSome, List, Option, Some, option_map, slice_get}
use Rattle.bb_layout.specs.Convert.{convert}
use Rattle.bb_layout.specs.Layout.{Laid}

-- a table is one of the layout itself: read as a stored area it is the same
abbrev pub IsOwn : Laid → List ℕ → Type 0
IsOwn layout table = convert layout table ≡ table

-- the area at a place of a list shows this table
abbrev pub ShowsAt : Laid → List (List ℕ) → ℕ → List ℕ → Type 0
ShowsAt layout h place table = option_map (convert layout) (slice_get h place) ≡ Some table

-- a copy passes an area that shows this table, or nothing
abbrev pub ShowsOrNothing : Laid → List ℕ → Option (List ℕ) → Type 0
ShowsOrNothing layout table passes = IfSome passes (λ area. convert layout area ≡ table)

-- each copy does
abbrev pub EachShowsOrNothing : Laid → List ℕ → List (Option (List ℕ)) → Type 0
EachShowsOrNothing layout table passed = All (ShowsOrNothing layout table) passed
