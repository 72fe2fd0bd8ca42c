-- The flash calls that write an image to a slot, by the ranges that they touch. All blocks of the
-- slot are erased in rising order. Then the image is programmed from the slot's start in rising
-- order, one program for each block, or for 65,536 bytes of a device without blocks. A last page
-- that the image fills only in part is programmed by itself. (This project's profile.)
use Rattle.std.specs.Prelude.{ℕ, ◌+◌, ◌-◌, ◌*◌, ◌/◌, ◌%◌, ◌==◌, min, List, [], ◌∷◌, ◌++◌, map, if◌then◌else◌}
use Rattle.std.specs.Int.{div_ceil}
use Rattle.std.specs.List.{range_with_len}
use Rattle.bb_flash.specs.declared.geometry.Geometry.{Geometry}
use Rattle.bb_flash.specs.declared.region.Region.{Region}

-- a block of the slot, counted from 0
abbrev pub slot_block : ℕ → Region → ℕ → Region
slot_block block slot k = record { at = slot.at + k * block; size = block }

-- the first so many of them; a device without blocks has none
abbrev pub block_ranges : ℕ → Region → ℕ → List Region
block_ranges block slot count = map (slot_block block slot) (range_with_len 0 count)

-- how many bytes are programmed at once
abbrev pub program_len : Geometry → ℕ
program_len geometry = if geometry.block == 0 then 65536 else geometry.block

-- a piece of the slot's first `all` bytes, cut from the slot's start on in pieces of a length
abbrev pub slot_piece : ℕ → ℕ → Region → ℕ → Region
slot_piece len all slot k = record { at = slot.at + k * len; size = min len (all - k * len) }

abbrev pub piece_ranges : ℕ → ℕ → Region → ℕ → List Region
piece_ranges len all slot count = map (slot_piece len all slot) (range_with_len 0 count)

-- how many bytes of an image fill whole pages
abbrev pub paged_len : ℕ → ℕ → ℕ
paged_len page len = len - len % page

-- the page of the bytes after them, where there are any
abbrev pub last_range : ℕ → Region → ℕ → List Region
last_range page slot len =
    if len % page == 0 then []
    else record { at = slot.at + paged_len page len; size = page } ∷ []

-- all calls that write an image of a length
abbrev pub slot_ranges : Geometry → Region → ℕ → List Region
slot_ranges geometry slot len =
    let all = paged_len geometry.page len in
    block_ranges geometry.block slot (slot.size / geometry.block)
    ++ (piece_ranges (program_len geometry) all slot (div_ceil all (program_len geometry))
    ++ last_range geometry.page slot len)
