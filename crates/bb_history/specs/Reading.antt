-- What the steps of a reading find of a log, and what they add of it.
use Rattle.std.specs.Prelude.{◌≡◌, ◌≢◌, ℕ, ◌+◌, ◌-◌, ◌/◌, ◌≤◌, ◌<◌, List, [], ◌∷◌, ◌++◌, Bool, false, drop, filter_map, is_some, length, map, take, Option, IfSome, IsSome, option_and_then, option_map, if◌then◌else◌}
use Rattle.std.specs.List.{AllByRecursion}
use Rattle.std.specs.Option.{option_map_or}
use Rattle.bb_base.specs.Form.{Form}
use Rattle.bb_circular.specs.declared.kept.Entry.{Entry}
use Rattle.bb_flash.specs.Image.{Image, health_of}
use Rattle.bb_flash.specs.declared.health.Health.TheVariants.{Lost}
use Rattle.bb_layout.specs.Convert.{convert}
use Rattle.bb_layout.specs.Layout.{Laid}
use Rattle.bb_history.specs.Entries.{entry_area, entries_within, entry_at, log_areas}
use Rattle.bb_history.specs.Lines.{copy_text, numbered_text}
use Rattle.bb_history.specs.declared.entry.Ended.{Ended}
use Rattle.bb_history.specs.declared.room.PageRoom.{PageRoom}

-- memory for a page of this size, some bytes of a record, and the longest area, of that length
pub record HasPageRoom (page longest : ℕ) (memory : PageRoom) : Type 0 where
  pub page_is : length memory.page.items ≡ page
  pub piece : 0 < length memory.piece.items
  pub area : length memory.area.items ≡ longest

-- ---- one entry

-- the last page of an entry was read, and isn't Lost
pub record IsLastRead (page : ℕ) (block : Image) (entry : Entry) (last : List ℕ) : Type 0 where
  pub alive : health_of page block (entry.at + (entry.len - page)) page ≢ Lost
  pub bytes : last ≡ take page (drop (entry.at + (entry.len - page)) block.bytes)

-- an entry was read, if there is one: how many pages stand before it, and how many bytes the area
-- has that its record passes as, if it does, which is then in front of what is left
pub record IsEndedBy (form : Form) (page : ℕ) (block : Image) (entry : Option Entry)
    (left : List ℕ) (ended : Option Ended) : Type 0 where
  pub before : option_map (λ e. e.before) ended ≡ option_map (λ e. e.at / page) entry
  pub passes :
      IfSome ended
      (λ e. option_map (λ len. take len left) e.passed ≡ option_and_then (entry_area form block) entry)

-- the one that so many first pages of a block end with
abbrev pub IsEndedAt : Form → ℕ → Image → ℕ → List ℕ → Option Ended → Type 0
IsEndedAt form page block pages left ended =
    IsEndedBy form page block (entry_at page block pages) left ended

-- its area stands in memory of this length
abbrev pub FitsRoom : ℕ → Ended → Type 0
FitsRoom longest ended = IfSome ended.passed (λ len. len ≤ longest)

-- the area that it passes, if it is there and passes one
abbrev pub area_at : Form → ℕ → Image → ℕ → Option (List ℕ)
area_at form page block pages = option_and_then (entry_area form block) (entry_at page block pages)

-- ---- all entries

-- whether there is one that passes
abbrev pub passes_in : Option Ended → Bool
passes_in ended = option_map_or (λ e. is_some e.passed) ended false

-- the places after one was read
abbrev pub kept_places : ℕ → Option Ended → List ℕ → List ℕ
kept_places pages ended places = if passes_in ended then pages ∷ places else places

-- and how many pages are to be read yet
abbrev pub pages_left : ℕ → Option Ended → ℕ
pages_left pages ended = option_map_or (λ e. e.before) ended (pages - 1)

-- places lie in a block of so many pages
abbrev pub AreWithin : ℕ → List ℕ → Type 0
AreWithin count places = AllByRecursion (λ place. (1 ≤ place) × (place ≤ count)) places

-- an entry that passes ends at each place
abbrev pub AllPass : Form → ℕ → Image → List ℕ → Type 0
AllPass form page block places =
    AllByRecursion (λ place. IsSome (area_at form page block place)) places

-- the pages after the first ones of a block were read: the entries that pass there end at these
-- places
pub record AreFound (form : Form) (page : ℕ) (block : Image) (all pages : ℕ) (places : List ℕ)
    : Type 0 where
  pub found :
      filter_map (entry_area form block) (entries_within page block all 0)
      ≡ filter_map (entry_area form block) (entries_within page block pages 0)
      ++ filter_map (area_at form page block) places
  pub pass : AllPass form page block places

-- all entries of a block that pass end at these places
pub record ArePlaces (form : Form) (page : ℕ) (block : Image) (places : List ℕ) : Type 0 where
  pub areas : log_areas form page block ≡ filter_map (area_at form page block) places
  pub pass : AllPass form page block places

-- ---- what is added

-- the lines of the entry of a number, by the area that its record passes
abbrev pub entry_lines : Laid → ℕ → List ℕ → List ℕ
entry_lines layout number area = numbered_text layout.vars number (convert layout area)

-- those of a copy, by the areas that its records pass
abbrev pub shown_text : Laid → ℕ → List (List ℕ) → List ℕ
shown_text layout copy areas = copy_text layout.vars copy (map (convert layout) areas)

-- of an entry that passes an area of so many bytes, in front of what is left, or passes nothing
abbrev pub passing_text : Laid → ℕ → List ℕ → Option ℕ → List ℕ
passing_text layout number left passed =
    option_map_or (λ len. entry_lines layout number (take len left)) passed []

-- of one that was read
abbrev pub ended_text : Laid → ℕ → List ℕ → Option Ended → List ℕ
ended_text layout number left ended =
    option_map_or (λ e. passing_text layout number left e.passed) ended []

-- of the entry at a place
abbrev pub place_text : Laid → Form → ℕ → Image → ℕ → ℕ → List ℕ
place_text layout form page block number place =
    option_map_or (λ area. entry_lines layout number area) (area_at form page block place) []

-- of those at these places, from a number on
abbrev pub places_text : Laid → Form → ℕ → Image → ℕ → List ℕ → List ℕ
places_text layout form page block number [] = []
places_text layout form page block number (place ∷ places) =
    place_text layout form page block number place
    ++ places_text layout form page block (number + 1) places
