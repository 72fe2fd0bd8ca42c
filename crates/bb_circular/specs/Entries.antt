-- The entries of a block: a record, 0xFF up to the closing words, and these, the words 0x14fa2d02
-- and the entry's whole length, both of 4 bytes and little endian. An entry has whole pages, as few
-- as hold record and words (barebox User Manual, State Framework, the backend storage type
-- `circular`; the closing words are this project's profile).
use Rattle.std.specs.Prelude.{ℕ, ◌+◌, ◌-◌, ◌*◌, ◌%◌, ◌==◌, Bool, ◌&&◌, not, nat_le, List, ◌++◌, length, drop, Option, Some, None, if◌then◌else◌}
use Rattle.byteorder.specs.Endian.{little_bytes, little_number}
use Rattle.bb_bucket.specs.Blocks.{filled_len, filled_to}
use Rattle.bb_bucket.specs.Front.{is_lost}
use Rattle.bb_circular.specs.declared.kept.Entry.{Entry}
use Rattle.bb_circular.specs.Pages.{Page}

-- how many bytes the closing words have
abbrev pub closing_len : ℕ
closing_len = 8

-- how many bytes the entry of a record of `len` bytes has
abbrev pub entry_len : ℕ → ℕ → ℕ
entry_len page len = filled_len page (len + closing_len)

-- the words that close an entry of this length
abbrev pub closing_words : ℕ → List ℕ
closing_words len = little_bytes 4 0x14fa2d02 ++ little_bytes 4 len

-- what is programmed for a record
abbrev pub log_entry : ℕ → List ℕ → List ℕ
log_entry page rec =
    filled_to (entry_len page (length rec) - closing_len) rec
    ++ closing_words (entry_len page (length rec))

-- the entry's length, as its closing words say
abbrev pub closing_len_of : List ℕ → ℕ
closing_len_of words = little_number 4 (drop 4 words)

-- the closing words of an entry that ends at a place of its block: they begin with the magic one,
-- and give a positive multiple of the page that doesn't reach before the block's start
abbrev pub closes : ℕ → ℕ → List ℕ → Bool
closes page end words =
    little_number 4 words == 0x14fa2d02
    && (closing_len_of words % page == 0 && (nat_le 1 (closing_len_of words) && nat_le (closing_len_of words) end))

-- the last bytes of a page, where closing words stand
abbrev pub last_words : ℕ → Page → List ℕ
last_words page last = drop (page - closing_len) last.bytes

-- the entry that the last page says it ends, where it is the page before this number and isn't Lost
abbrev pub closed_entry : ℕ → ℕ → Page → Option Entry
closed_entry page pages last =
    if nat_le 1 pages
    && (not (is_lost last.health) && closes page (pages * page) (last_words page last))
    then Some (record {
      at = pages * page - closing_len_of (last_words page last);
      len = closing_len_of (last_words page last);
    })
    else None
