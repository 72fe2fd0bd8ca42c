-- What a history has to do with what the copies of a layout pass.
use Rattle.std.specs.Prelude.{◌≡◌, ℕ, List, [], ◌∷◌, ◌++◌, Some, slice_get}
use Rattle.bb_copies.specs.Passing.{passes_at}
use Rattle.bb_flash.specs.Image.{Image, IsImageOf}
use Rattle.bb_flash.specs.declared.region.Region.{Region}
use Rattle.bb_layout.specs.Convert.{convert}
use Rattle.bb_layout.specs.Kept.{IsLaid}
use Rattle.bb_state.specs.Keyed.{Keyed}
use Rattle.bb_state.specs.Kinds.{laid_form, laid_passings, laid_regions}
use Rattle.bb_history.specs.History.{history_of}

-- a list ends with an item
pub record HasAsLast (areas : List (List ℕ)) (area : List ℕ) : Type 0 where
  pub earlier : List (List ℕ)
  pub is : areas ≡ earlier ++ area ∷ []

-- the copy of that number has a region, and the history of this region ends with an area
pub record HistoryEndsWith (keyed : Keyed) (image : Image) (copy : ℕ) (area : List ℕ) : Type 0 where
  pub region : Region
  pub region_is : slice_get (laid_regions keyed.layout) copy ≡ Some region
  pub last :
      HasAsLast
      (history_of keyed.layout (laid_form keyed) keyed.layout.geometry.page region image)
      area

-- where a copy of a layout passes an area, the copy's history ends with that area, as the layout
-- reads it
abbrev pub NewestIsLast : Type 0
NewestIsLast =
    (keyed : Keyed) (image : Image) (copy : ℕ) (area : List ℕ) →
    IsLaid keyed.layout → IsImageOf keyed.layout.geometry image →
    passes_at (laid_passings keyed image) copy ≡ Some area →
    HistoryEndsWith keyed image copy (convert keyed.layout area)
