-- What setting one range of a table leaves.
use Rattle.std.proofs.Common.{◌≡◌, ℕ, ◌+◌, ◌<◌, ◌≤◌, ◌⊎◌, inl, inr, List, length, get_or, arith}
use Rattle.std.proofs.lemmas.Grind.{common_steps}
use Rattle.std.specs.List.{slice_range}
use Rattle.bb_vars.specs.Table.{table_with}

pub length-table_with : (table : List ℕ) (at : ℕ) (bytes : List ℕ) → at + length bytes ≤ length table → length (table_with table at bytes) ≡ length table
length-table_with table at bytes inside = grind (arith, common_steps)

pub slice_range-table_with : (table : List ℕ) (at : ℕ) (bytes : List ℕ) → at + length bytes ≤ length table
    → slice_range (table_with table at bytes) at (at + length bytes) ≡ bytes
slice_range-table_with table at bytes inside = grind (arith, common_steps)

pub get_or-table_with : (table : List ℕ) (at : ℕ) (bytes : List ℕ) → at + length bytes ≤ length table
    → (k : ℕ) → (k < at) ⊎ (at + length bytes ≤ k) → get_or (table_with table at bytes) k 0 ≡ get_or table k 0
get_or-table_with table at bytes inside k (inl before) = grind (arith, common_steps)
get_or-table_with table at bytes inside k (inr after) = grind (arith, common_steps)
