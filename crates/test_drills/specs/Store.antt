-- The small store, as a drill sees it: its table is one number below 100.
use Rattle.std.specs.Prelude.{◌≡◌, ℕ, ◌+◌, ◌-◌, ◌*◌, ◌%◌, ◌≤◌, ◌==◌, ◌&&◌, ⊤, Bool, true, false, nat_lt, length, List, [], ◌∷◌, take, drop, slice_get, Option, Some, None, option_map, unwrap_or, if◌then◌else◌}
use Rattle.std.specs.List.{list_all}
use Rattle.bb_flash.specs.declared.health.Health.{Health}
use Rattle.bb_flash.specs.declared.health.Health.TheVariants.{Fine, Worn, Lost}
use Rattle.bb_flash.specs.Image.{Image}
use Rattle.bb_flash.specs.Memory.{Memory}
use Rattle.bb_drill.specs.declared.command.DrillCommand.{DrillCommand}
use Rattle.bb_drill.specs.declared.command.DrillCommand.TheVariants.{Priority, Boot, MarkGood, Show}
use Rattle.bb_drill.specs.declared.sessions.SessionEnd.{SessionEnd}
use Rattle.bb_drill.specs.declared.sessions.SessionEnd.TheVariants.{Whole, Unread, Unwritten, NoMemory}
use Rattle.bb_drill.specs.Tables.{TableRules}

abbrev pub is_page_lost : Option Health → Bool
is_page_lost None = false
is_page_lost (Some Fine) = false
is_page_lost (Some Worn) = false
is_page_lost (Some Lost) = true

-- the number that a page has in each of its bytes, if it is below 100
abbrev pub number_of_page : List ℕ → Option ℕ
number_of_page [] = None
number_of_page (number ∷ more) =
    if nat_lt number 100 && list_all (λ byte. byte == number) more then Some number else None

-- what a copy passes as
unfoldable pub passed_by : ℕ → Image → Option ℕ
passed_by copy image =
    if is_page_lost (slice_get image.health (copy * 4))
    then None
    else number_of_page (take 64 (drop (copy * 256) image.bytes))

abbrev pub or_else : Option ℕ → Option ℕ → Option ℕ
or_else None other = other
or_else (Some number) other = Some number

-- the number of the first copy that passes
abbrev pub number_stored : Image → Option ℕ
number_stored image = or_else (passed_by 0 image) (or_else (passed_by 1 image) (passed_by 2 image))

-- the number that a load gives
abbrev pub number_on : Image → ℕ
number_on image = unwrap_or (number_stored image) 10

abbrev pub number_of_table : List ℕ → ℕ
number_of_table [] = 10
number_of_table (number ∷ more) = number

abbrev pub number_made : DrillCommand → ℕ → ℕ
number_made (Priority value) number = value % 100
number_made Boot number = number - 1
number_made MarkGood number = 50
number_made Show number = number

abbrev pub store_rules : TableRules
store_rules = record {
  found = λ image. option_map (λ number. number ∷ []) (number_stored image);
  defaults = 10 ∷ [];
  made = λ command table. number_made command (number_of_table table) ∷ [];
}

-- the board keeps its geometry, and so many starts are made at most
pub record StartsAtMost (most : ℕ) (before after : Memory) : Type 0 where
  pub geometry : after.geometry ≡ before.geometry
  pub starts : length after.told.starts ≤ length before.told.starts + most

-- how a session ends in which nothing failed, by the number that it was to make
abbrev pub EndsAsMade : ℕ → Image → SessionEnd → Type 0
EndsAsMade made image Whole = number_on image ≡ made
EndsAsMade made image Unread = ⊥
EndsAsMade made image Unwritten = ⊥
EndsAsMade made image NoMemory = ⊤
