-- What bytes are as a blob: its tree, or the first refusal. What follows the blob's length, and
-- what follows FDT_END, isn't looked at.
use Rattle.std.specs.Prelude.{ℕ, ◌+◌, suc, zero, ◌==◌, ◌&&◌, List, [], ◌∷◌, length, take, drop, nat_lt, Option, Some, None, Result, Ok, Err, if◌then◌else◌}
use Rattle.std.specs.Option.{option_map}
use Rattle.byteorder.specs.Endian.{big_number}
use Rattle.bb_tree.specs.Blob.{Devicetree}
use Rattle.bb_fdt.specs.declared.error.FdtError.{FdtError}
use Rattle.bb_fdt.specs.declared.error.FdtError.TheVariants.{OutOfBounds}
use Rattle.bb_fdt.specs.declared.error.Field.TheVariants.{Reserve}
use Rattle.bb_fdt.specs.declared.header.Header.{Header}
use Rattle.bb_fdt.specs.Header.{header_of}
use Rattle.bb_fdt.specs.Walk.{WalkResult, Before, walk}

-- the number of 64 bits at a place
unfoldable pub double_word_at : ℕ → List ℕ → ℕ
double_word_at at bytes = big_number 8 (drop at bytes)

-- the pair that a text begins with, before those after it, none of which come where both numbers
-- are zero
abbrev pub pair_before : List ℕ → Option (List (ℕ × ℕ)) → Option (List (ℕ × ℕ))
pair_before text behind =
    if nat_lt (length text) 16 then None else (
    let address = double_word_at 0 text in
    let len = double_word_at 8 text in
    if (address == 0) && (len == 0)
    then Some []
    else option_map (λ pairs. (address, len) ∷ pairs) behind)

-- the pairs of a reservation list up to the pair of zeros, or none where the text ends before that.
-- The first `skip` bytes belong to a pair that was read
unfoldable pub pairs_in : ℕ → List ℕ → Option (List (ℕ × ℕ))
pairs_in skip [] = None
pairs_in (suc skip) (b ∷ tail) = pairs_in skip tail
pairs_in zero (b ∷ tail) = pair_before (b ∷ tail) (pairs_in 15 tail)

-- a part of a blob
abbrev pub part : List ℕ → ℕ → ℕ → List ℕ
part blob at len = take len (drop at blob)

-- the root, by the structure block and the strings block
abbrev pub root_in : Header → List ℕ → WalkResult
root_in h blob =
    let strings = part blob h.strings_at h.strings_len in
    let structure = part blob h.struct_at h.struct_len in
    walk strings (h.struct_at + h.struct_len) zero structure Before []

-- a tree of that root with these reserved pairs
abbrev pub with_reserved : List (ℕ × ℕ) → WalkResult → Result Devicetree FdtError
with_reserved reserved (Ok root) = Ok (record { root = root; reserved = reserved })
with_reserved reserved (Err e) = Err e

-- the reservation list is looked at before the structure block
abbrev pub blob_tree : Header → List ℕ → Option (List (ℕ × ℕ)) → Result Devicetree FdtError
blob_tree h blob None = Err (OutOfBounds Reserve)
blob_tree h blob (Some reserved) = with_reserved reserved (root_in h blob)

-- the tree after a header
abbrev pub read_from : List ℕ → Result Header FdtError → Result Devicetree FdtError
read_from bytes (Err e) = Err e
read_from bytes (Ok h) =
    let blob = take h.total bytes in blob_tree h blob (pairs_in zero (drop h.reserve_at blob))

-- the tree of a blob, or the first refusal
abbrev pub blob_of : List ℕ → Result Devicetree FdtError
blob_of bytes = read_from bytes (header_of bytes)
