-- The pages of a block, and the last of them that isn't blank.
use Rattle.std.specs.Prelude.{ℕ, ◌-◌, ◌*◌, ◌/◌, ◌==◌, Bool, ◌&&◌, not, List, length, take, drop, map}
use Rattle.std.specs.List.{list_all, range_with_len, suffix_len}
use Rattle.bb_flash.specs.declared.health.Health.{Health}
use Rattle.bb_flash.specs.Image.{Image, health_of}
use Rattle.bb_bucket.specs.Front.{is_lost}

-- one page: its bytes and its health
pub record Page : Type 0 where
  pub bytes : List ℕ
  pub health : Health

-- the page of a number, counted from 0
abbrev pub page_at : ℕ → Image → ℕ → Page
page_at page block number = record {
  bytes = take page (drop (number * page) block.bytes);
  health = health_of page block (number * page) page;
}

-- all of them, in their order
abbrev pub pages_of : ℕ → Image → List Page
pages_of page block = map (page_at page block) (range_with_len 0 (length block.bytes / page))

-- as after an erase: each byte is 0xFF, and the page isn't Lost
abbrev pub is_erased : Page → Bool
is_erased page = not (is_lost page.health) && list_all (λ byte. byte == 255) page.bytes

-- how many pages there are up to the last one that isn't blank: all but the blank ones at the end
unfoldable pub written_pages : ℕ → Image → ℕ
written_pages page block = length (pages_of page block) - suffix_len is_erased (pages_of page block)
