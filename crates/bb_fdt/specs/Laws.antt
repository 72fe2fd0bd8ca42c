-- Which trees are read back from their blob.
use Rattle.std.specs.Prelude.{◌≡◌, ℕ, ◌+◌, ◌<◌, ◌≤◌, ◌^◌, ◌==◌, ◌&&◌, true, false, List, [], ◌∷◌, length}
use Rattle.bb_tree.specs.Depth.{depth_limit}
use Rattle.bb_tree.specs.Node.{Forest, empty, node}
use Rattle.bb_tree.specs.Blob.{Devicetree, blob_text}
use Rattle.bb_fdt.specs.Tokens.{is_name}

-- each property has a name
abbrev pub HaveNames : List (List ℕ × List ℕ) → Type 0
HaveNames [] = Unit {0}
HaveNames (p ∷ props) = (is_name p.0 ≡ true) × HaveNames props

-- nodes of this level: each has a name, as has each property, and none is deeper than a reader
-- takes
abbrev pub CanStand : ℕ → Forest (List ℕ) → Type 0
CanStand level empty = Unit {0}
CanStand level (node name props nodes rest) =
    (is_name name ≡ true) × (level ≤ depth_limit) × HaveNames props
    × CanStand (level + 1) nodes × CanStand level rest

-- no pair is two zeros, and each number has 64 bits
abbrev pub AreReserved : List (ℕ × ℕ) → Type 0
AreReserved [] = Unit {0}
AreReserved (p ∷ pairs) =
    (p.0 < 2 ^ 64) × (p.1 < 2 ^ 64) × (((p.0 == 0) && (p.1 == 0)) ≡ false) × AreReserved pairs

-- a tree that is read back from its blob
pub record IsWritable (tree : Devicetree) : Type 0 where
  pub root : tree.root.name ≡ []
  pub props : HaveNames tree.root.props
  pub nodes : CanStand 2 tree.root.nodes
  pub reserved : AreReserved tree.reserved
  pub short : length (blob_text tree) < 4294967296
