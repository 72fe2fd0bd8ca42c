-- Trees of records by computation.
use Rattle.std.specs.Prelude.{◌≡◌, ℕ, List, [], ◌∷◌, ◌++◌, codes, drop, length, map, take, refl}
use Rattle.bb_tree.specs.Blob.{blob_text, double_word, word}
use Rattle.bb_tree.specs.Node.{Branch, forest}
use Rattle.bb_vars.specs.declared.kind.Kind.TheVariants.{Uint8, Uint32, Enum32, Mac, Chars}
use Rattle.bb_layout.specs.Formats.{record_len}
use Rattle.bb_layout.specs.Record.{Recorded, grown_of, record_tree_of, value_in}
use Rattle.bb_layout.specs.declared.format_kind.FormatKind.TheVariants.{Dtb, Raw}
use Rattle.bb_layout.specs.declared.var.Var.{Var}

abbrev byte : List (List ℕ) → ℕ → Var
byte path at = record { name = []; path = path; at = at; size = 1; kind = Uint8; default = 0 ∷ [] }

abbrev Node : Type 0
Node = Branch (List ℕ)

abbrev holder : List ℕ → List Node → Node
holder name nodes = record { name = name; props = []; nodes = forest nodes }

abbrev valued : List ℕ → ℕ → List Node → Node
valued name value nodes = record { name = name; props = (codes "value", 0 ∷ 0 ∷ 0 ∷ value ∷ []) ∷ []; nodes = forest nodes }

-- ---- values

small : value_in Uint8 (7 ∷ []) ≡ 0 ∷ 0 ∷ 0 ∷ 7 ∷ []
small = refl

number : value_in Uint32 (4 ∷ 3 ∷ 2 ∷ 1 ∷ []) ≡ 1 ∷ 2 ∷ 3 ∷ 4 ∷ []
number = refl

index : value_in (Enum32 []) (1 ∷ 0 ∷ 0 ∷ 0 ∷ []) ≡ 0 ∷ 0 ∷ 0 ∷ 1 ∷ []
index = refl

address : value_in Mac (0 ∷ 17 ∷ 34 ∷ 51 ∷ 68 ∷ 85 ∷ []) ≡ 0 ∷ 17 ∷ 34 ∷ 51 ∷ 68 ∷ 85 ∷ []
address = refl

string : value_in (Chars 4) (97 ∷ 98 ∷ 0 ∷ 0 ∷ []) ≡ 97 ∷ 98 ∷ 0 ∷ 0 ∷ []
string = refl

-- ---- nodes

nodes : List (List (List ℕ)) → List Node
nodes paths = (grown_of (7 ∷ []) (map (λ path. byte path 0) paths)).nodes

shared : nodes ((codes "a" ∷ codes "b" ∷ []) ∷ (codes "a" ∷ codes "c" ∷ []) ∷ (codes "d" ∷ []) ∷ [])
    ≡ holder (codes "a") (valued (codes "b") 7 [] ∷ valued (codes "c") 7 [] ∷ []) ∷ valued (codes "d") 7 [] ∷ []
unfolding nodes
shared = refl

-- only with the variable before
apart : nodes ((codes "a" ∷ codes "b" ∷ []) ∷ (codes "d" ∷ []) ∷ (codes "a" ∷ codes "c" ∷ []) ∷ [])
    ≡ holder (codes "a") (valued (codes "b") 7 [] ∷ []) ∷ valued (codes "d") 7 [] ∷ holder (codes "a") (valued (codes "c") 7 [] ∷ []) ∷ []
unfolding nodes
apart = refl

-- also the node of a variable, and then none inside of it
own_node : nodes ((codes "a" ∷ codes "b" ∷ codes "c" ∷ []) ∷ (codes "a" ∷ []) ∷ (codes "a" ∷ codes "b" ∷ codes "d" ∷ []) ∷ [])
    ≡ valued (codes "a") 7 (holder (codes "b") (valued (codes "c") 7 [] ∷ []) ∷ holder (codes "b") (valued (codes "d") 7 [] ∷ []) ∷ []) ∷ []
unfolding nodes
own_node = refl

-- ---- a record of one variable

one : Recorded
one = record {
  node = codes "state";
  magic = 0x4d433230;
  vars = byte (codes "a@0" ∷ []) 0 ∷ [];
}

one_tree : record_tree_of one (7 ∷ []) ≡ record {
  name = [];
  props = (codes "bb,crc32", 0 ∷ 0 ∷ 0 ∷ 0 ∷ []) ∷ [];
  nodes = forest (record {
    name = codes "state";
    props = (codes "compatible", codes "barebox,state" ++ 0 ∷ []) ∷ (codes "magic", codes "MC20") ∷ [];
    nodes = forest (valued (codes "a@0") 7 [] ∷ []);
  } ∷ []);
}
unfolding one
one_tree = refl

one_blob : List ℕ
one_blob = blob_text (record { root = record_tree_of one (7 ∷ []); reserved = [] })

one_len : length one_blob ≡ 208
unfolding one one_blob blob_text word double_word
one_len = refl

-- also over a zero byte, as a layout counts it
dtb_len : record_len Dtb one 1 ≡ 208
unfolding one blob_text word double_word
dtb_len = refl

raw_len : record_len Raw one 1 ≡ 17
raw_len = refl

-- FDT_BEGIN_NODE of the root, and FDT_PROP of its CRC, whose 4 bytes begin at 76
crc_at_76 : take 20 (drop 56 one_blob) ≡ 0 ∷ 0 ∷ 0 ∷ 1 ∷ 0 ∷ 0 ∷ 0 ∷ 0 ∷ 0 ∷ 0 ∷ 0 ∷ 3 ∷ 0 ∷ 0 ∷ 0 ∷ 4 ∷ 0 ∷ 0 ∷ 0 ∷ 0 ∷ []
unfolding one one_blob blob_text word double_word
crc_at_76 = refl
