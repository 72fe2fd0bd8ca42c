-- What a look at a block finds.
use Rattle.std.specs.Prelude.{◌≡◌, ◌≢◌, ℕ, ◌+◌, ◌-◌, ◌≤◌, Bool, false, List, Option, Some, IfSome, option_map, option_and_then, unwrap_or}
use Rattle.bb_flash.specs.declared.health.Health.TheVariants.{Lost}
use Rattle.bb_flash.specs.Image.{Image, health_of}
use Rattle.bb_bucket.specs.Front.{is_worn}
use Rattle.bb_circular.specs.declared.kept.Entry.{Entry}
use Rattle.bb_circular.specs.declared.kept.Kept.{Kept}
use Rattle.bb_circular.specs.declared.last_page.LastPage.{LastPage}
use Rattle.bb_circular.specs.Circular.{newest_of, next_place, readable}
use Rattle.bb_circular.specs.Entries.{closed_entry}
use Rattle.bb_circular.specs.Pages.{page_at, written_pages}

-- the last page that isn't blank, where there is one: its number from 1, its health, and its bytes
-- where it isn't Lost
pub record IsLastPage (page : ℕ) (old : Image) (out : List ℕ) (last : LastPage) : Type 0 where
  pub pages : last.pages ≡ written_pages page old
  pub health : 1 ≤ last.pages → last.health ≡ (page_at page old (last.pages - 1)).health
  pub bytes : 1 ≤ last.pages → last.health ≢ Lost → out ≡ (page_at page old (last.pages - 1)).bytes

-- the entry that the last of so many first pages says it ends, and where it ends one, its bytes
pub record IsEndOf (page pages : ℕ) (old : Image) (out : List ℕ) (entry : Option Entry) : Type 0 where
  pub entry_is : entry ≡ closed_entry page pages (page_at page old (pages - 1))
  pub bytes : IfSome entry (λ e. out ≡ (page_at page old (pages - 1)).bytes)

-- what there is to keep, but that a page of the newest entry may be Lost
pub record IsKnown (page : ℕ) (old : Image) (kept : Kept) : Type 0 where
  pub next : kept.next ≡ next_place page old
  pub newest : option_and_then (readable page old) kept.newest ≡ newest_of page old

-- whether a page of an entry is Worn, if there is one
abbrev pub worn_of : ℕ → Image → Option Entry → Bool
worn_of page old newest =
    unwrap_or (option_map (λ entry. is_worn (health_of page old entry.at entry.len)) newest) false

-- what there is to keep once an entry of this length was written at a place
abbrev pub kept_at : ℕ → ℕ → Kept
kept_at at len = record { next = at + len; newest = Some (record { at = at; len = len }) }
