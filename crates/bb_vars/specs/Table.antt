-- A table of bytes and its ranges.
use Rattle.std.specs.Prelude.{ℕ, ◌+◌, List, ◌++◌, length, take, drop}

-- the table with these bytes from a place on, and every other byte as it was
abbrev pub table_with : List ℕ → ℕ → List ℕ → List ℕ
table_with table at bytes = take at table ++ bytes ++ drop (at + length bytes) table
