-- The entries that the log of a block still holds, oldest first. Pages are taken away from the
-- block's end: one that ends no entry goes alone, a blank one too, and one that ends an entry goes
-- with all pages of it. So an entry that is torn, or has a Lost page, is passed over page by page.
use Rattle.std.specs.Prelude.{ℕ, zero, suc, ◌-◌, ◌/◌, List, [], ◌++◌, filter_map, length, Option, option_and_then, option_to_list}
use Rattle.std.specs.Option.{option_map_or}
use Rattle.bb_base.specs.Form.{Form}
use Rattle.bb_flash.specs.Image.{Image}
use Rattle.bb_circular.specs.declared.kept.Entry.{Entry}
use Rattle.bb_circular.specs.Circular.{readable, record_of}
use Rattle.bb_circular.specs.Entries.{closed_entry}
use Rattle.bb_circular.specs.Pages.{page_at}

-- the entry that a block's first pages end with, so many of them, if they do: the last one's
-- closing words say so, and none of the entry's pages is Lost
abbrev pub entry_at : ℕ → Image → ℕ → Option Entry
entry_at page block pages =
    option_and_then (readable page block) (closed_entry page pages (page_at page block (pages - 1)))

-- how many pages an entry has before its last one
abbrev pub pages_over : ℕ → Option Entry → ℕ
pages_over page entry = option_map_or (λ e. e.len / page - 1) entry 0

-- the entries in a block's first pages, the last `over` of which are of an entry that was taken
unfoldable pub entries_within : ℕ → Image → ℕ → ℕ → List Entry
entries_within page block zero over = []
entries_within page block (suc pages) (suc over) = entries_within page block pages over
entries_within page block (suc pages) zero =
    let last = entry_at page block (suc pages) in
    entries_within page block pages (pages_over page last) ++ option_to_list last

-- in all of its pages
abbrev pub held_entries : ℕ → Image → List Entry
held_entries page block = entries_within page block (length block.bytes / page) 0

-- the area that the record of an entry passes, if it passes one
abbrev pub entry_area : Form → Image → Entry → Option (List ℕ)
entry_area form block entry = form.passes (record_of block entry)

-- those that the entries of a block pass; what passes nothing is left out
abbrev pub log_areas : Form → ℕ → Image → List (List ℕ)
log_areas form page block = filter_map (entry_area form block) (held_entries page block)
