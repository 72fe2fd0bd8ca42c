-- The one blob of a tree: a flattened devicetree (Devicetree Specification v0.4, chapter 5) of
-- version 17. A word has 32 bits, and every number is big endian.
--
--   header            ten words
--   reservation list  pairs of an address and a length of 64 bits each, and a pair of zeros
--   structure block   tokens, each of whole words
--   strings block     the names of the properties, each with its zero byte
use Rattle.std.specs.Prelude.{ℕ, ◌+◌, ◌-◌, ◌*◌, ◌/◌, ◌^◌, Bool, List, [], ◌∷◌, ◌++◌, length, map, take, fold, min, if◌then◌else◌}
use Rattle.std.specs.Int.{bytes_high_first}
use Rattle.std.specs.List.{flat_map, list_any}
use Rattle.std.specs.Str.{bytes_eq}
use Rattle.bb_tree.specs.Node.{Forest, empty, node, Branch, grow}
use Rattle.bb_tree.specs.NodeViews.{branch_of}
use Rattle.bb_tree.specs.declared.tree.Tree.{Tree}

-- a tree as clauses see it: its root, and the reserved pairs
pub record Devicetree : Type 0 where
  pub root : Branch (List ℕ)
  pub reserved : List (ℕ × ℕ)

-- what a clause sees of a finished tree
abbrev pub devicetree_of : Tree → Devicetree
devicetree_of tree = record { root = branch_of tree.root; reserved = tree.reserved }

-- the low 32 and the low 64 bits of a number
unfoldable pub word : ℕ → List ℕ
word n = bytes_high_first 4 n

unfoldable pub double_word : ℕ → List ℕ
double_word n = bytes_high_first 8 n

-- the next multiple of 4, and the zero bytes that lead to it
abbrev pub whole_words : ℕ → ℕ
whole_words n = 4 * ((n + 3) / 4)

abbrev pub filling : ℕ → List ℕ
filling n = take (whole_words n - n) (0 ∷ 0 ∷ 0 ∷ [])

-- the names of all properties, a node's before those of the nodes in it
abbrev pub prop_names : Forest (List ℕ) → List (List ℕ)
prop_names empty = []
prop_names (node name props nodes rest) =
    map (λ p. p.0) props ++ (prop_names nodes ++ prop_names rest)

-- whether the name is among the names
abbrev pub has_name : List (List ℕ) → List ℕ → Bool
has_name names name = list_any (bytes_eq name) names

-- the names with one more last, or as they are where it is there
abbrev pub with_name : List (List ℕ) → List ℕ → List (List ℕ)
with_name names name = if has_name names name then names else names ++ name ∷ []

-- each name of a property once, in the order of first use
abbrev pub names_used : Branch (List ℕ) → List (List ℕ)
names_used root = fold with_name [] (prop_names (grow root empty))

-- the strings block of these names
abbrev pub strings_block : List (List ℕ) → List ℕ
strings_block names = flat_map (λ name. name ++ 0 ∷ []) names

-- where a name begins in the strings block
abbrev pub offset_of : List (List ℕ) → List ℕ → ℕ
offset_of [] name = 0
offset_of (first ∷ names) name =
    if bytes_eq name first then 0 else length first + 1 + offset_of names name

-- the token FDT_BEGIN_NODE with a node's name
abbrev pub begin_text : List ℕ → List ℕ
begin_text name = word 1 ++ (name ++ 0 ∷ filling (length name + 1))

-- the token FDT_PROP with a property's value, and where its name begins
abbrev pub prop_text : (List ℕ → ℕ) → List ℕ × List ℕ → List ℕ
prop_text offset p =
    word 3 ++ (word (length p.1) ++ (word (offset p.0) ++ (p.1 ++ filling (length p.1))))

-- each node from FDT_BEGIN_NODE to FDT_END_NODE: its properties, then its nodes
abbrev pub nodes_text : (List ℕ → ℕ) → Forest (List ℕ) → List ℕ
nodes_text offset empty = []
nodes_text offset (node name props nodes rest) =
    begin_text name
    ++ (flat_map (prop_text offset) props
    ++ (nodes_text offset nodes ++ (word 2 ++ nodes_text offset rest)))

-- the root, and the token FDT_END
abbrev pub structure_block : (List ℕ → ℕ) → Branch (List ℕ) → List ℕ
structure_block offset root = nodes_text offset (grow root empty) ++ word 9

-- the reserved pairs, and the pair of zeros
abbrev pub reservation_list : List (ℕ × ℕ) → List ℕ
reservation_list pairs =
    flat_map (λ p. double_word p.0 ++ double_word p.1) pairs ++ (double_word 0 ++ double_word 0)

-- the header before blocks of these lengths
abbrev pub header_text : ℕ → ℕ → ℕ → List ℕ
header_text reservations structure strings =
    let struct_at = 40 + reservations in
    let strings_at = struct_at + structure in
    flat_map word
    (0xD00DFEED ∷ (strings_at + strings) ∷ struct_at ∷ strings_at ∷ 40 ∷ 17 ∷ 16 ∷ 0 ∷ strings
    ∷ structure ∷ [])

-- the blob
unfoldable pub blob_text : Devicetree → List ℕ
blob_text tree =
    let reservations = reservation_list tree.reserved in
    let structure = structure_block (offset_of (names_used tree.root)) tree.root in
    let strings = strings_block (names_used tree.root) in
    header_text (length reservations) (length structure) (length strings)
    ++ (reservations ++ (structure ++ strings))

-- a length as 64 bits hold it
abbrev pub length_in_64_bits : ℕ → ℕ
length_in_64_bits n = min n (2 ^ 64 - 1)
