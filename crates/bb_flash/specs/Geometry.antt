-- The geometries of the devices: overwritten in place, or written in pages and erased in blocks.
use Rattle.std.specs.Prelude.{◌≡◌, ℕ, ◌<◌, ◌≤◌, ◌%◌, ◌==◌, ◌&&◌, nat_le, nat_eq, List, drop, codes, Option, Some, None, option_map, option_and_then, if◌then◌else◌}
use Rattle.std.specs.Result.{result_ok}
use Rattle.std.specs.List.{starts_with, before_first, after_first}
use Rattle.bb_base.specs.Number.{number_of}
use Rattle.bb_flash.specs.declared.geometry.Geometry.{Geometry}

-- the most bytes that a device may have
abbrev pub size_limit : ℕ
size_limit = 268435456

-- a device that is erased in blocks: its blocks hold whole pages, and the device holds whole blocks
pub record HasBlocks (geometry : Geometry) : Type 0 where
  pub page_least : 16 ≤ geometry.page
  pub page_most : geometry.page ≤ 16384
  pub block_most : geometry.block ≤ 4194304
  pub block_pages : geometry.block % geometry.page ≡ 0
  pub size_blocks : geometry.size % geometry.block ≡ 0

-- the geometries that a word can give: block 0 stands for a device that is overwritten in place,
-- byte by byte
pub record IsGeometry (geometry : Geometry) : Type 0 where
  pub page_some : 1 ≤ geometry.page
  pub size_some : 1 ≤ geometry.size
  pub size_most : geometry.size ≤ size_limit
  pub in_place : geometry.block ≡ 0 → geometry.page ≡ 1
  pub blocks : 0 < geometry.block → HasBlocks geometry

-- a multiple of a unit between two bounds, both included
pub record IsMultiple (unit low high number : ℕ) : Type 0 where
  pub least : low ≤ number
  pub most : number ≤ high
  pub whole : number % unit ≡ 0

-- the number that a text spells, where it is such a multiple
abbrev pub multiple_of : ℕ → ℕ → ℕ → List ℕ → Option ℕ
multiple_of unit low high text =
    option_and_then
    (λ n. if (nat_le low n && nat_le n high) && (n % unit == 0) then Some n else None)
    (result_ok (number_of text))

-- a device that is overwritten in place
abbrev pub in_place_of : ℕ → Geometry
in_place_of size = record { page = 1; block = 0; size = size }

-- what stands before the first colon, and what after it
abbrev pub first_part : List ℕ → List ℕ
first_part text = before_first (λ c. c == 58) text

abbrev pub other_parts : List ℕ → List ℕ
other_parts text = after_first (λ c. c == 58) text

-- `PAGE:BLOCK:SIZE`
abbrev pub blocks_from : List ℕ → Option Geometry
blocks_from text =
    option_and_then
    (λ page.
    option_and_then
    (λ block.
    option_map (λ size. record { page = page; block = block; size = size })
    (multiple_of block 1 size_limit (other_parts (other_parts text))))
    (multiple_of page 1 4194304 (first_part (other_parts text))))
    (multiple_of 1 16 16384 (first_part text))

-- the geometry that a word gives: `ov:SIZE` or `er:PAGE:BLOCK:SIZE`
abbrev pub geometry_from : List ℕ → Option Geometry
geometry_from word =
    if starts_with nat_eq word (codes "ov:")
    then option_map in_place_of (multiple_of 1 1 size_limit (drop 3 word))
    else (if starts_with nat_eq word (codes "er:") then blocks_from (drop 3 word) else None)
