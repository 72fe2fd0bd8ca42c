-- Phandles (Devicetree Specification v0.4, section 2.3.3): a node's is its property `phandle` of 4
-- bytes, a big-endian number other than 0 and 0xFFFFFFFF. Of properties of one name the first
-- counts.
use Rattle.std.specs.Prelude.{ℕ, ◌==◌, Bool, false, ◌&&◌, not, List, Option, Some, None, length, codes, option_and_then, if◌then◌else◌}
use Rattle.std.specs.Option.{option_map_or}
use Rattle.std.specs.List.{find, filter_map}
use Rattle.std.specs.Int.{from_be_bytes, w32}
use Rattle.bb_tree.specs.Node.{Branch, preorder}
use Rattle.bb_tree.specs.Paths.{prop_of}

-- the phandle that a value gives
abbrev pub phandle_in : List ℕ → Option ℕ
phandle_in bytes =
    let n = from_be_bytes w32 bytes in
    if (length bytes == 4) && not (n == 0) && not (n == 0xFFFFFFFF) then Some n else None

module _ {V : Type 0} (read : V → List ℕ) where
  -- a node's phandle, where `read` gives a value's bytes
  abbrev pub phandle_by : Branch V → Option ℕ
  phandle_by b = option_and_then (λ v. phandle_in (read v)) (prop_of (codes "phandle") b)

  -- the phandles of a node and all nodes in it, in preorder
  abbrev pub phandles_by : Branch V → List ℕ
  phandles_by b = filter_map phandle_by (preorder b)

-- a node's phandle in a finished tree
abbrev pub phandle_of : Branch (List ℕ) → Option ℕ
phandle_of = phandle_by (λ bytes. bytes)

abbrev pub has_phandle : ℕ → Branch (List ℕ) → Bool
has_phandle n b = option_map_or (λ m. n == m) (phandle_of b) false

-- the first node in preorder that has this phandle
abbrev pub node_with : ℕ → Branch (List ℕ) → Option (Branch (List ℕ))
node_with n b = find (has_phandle n) (preorder b)
