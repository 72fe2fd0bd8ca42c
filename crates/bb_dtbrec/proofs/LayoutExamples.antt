-- The worked record as that of a layout, by computation alone, and a layout whose variables share a
-- node.
use Rattle.std.proofs.Common.{◌≡◌, [], ◌∷◌, ◌++◌, codes, refl}
use Rattle.bb_base.specs.Crc.{after_bit, after_eight_bits, after_byte}
use Rattle.bb_tree.specs.Blob.{double_word, word}
use Rattle.bb_tree.specs.Node.{empty, node}
use Rattle.bb_vars.specs.declared.kind.Kind.TheVariants.{Chars, Uint32, Uint8}
use Rattle.bb_layout.specs.Record.{Recorded}
use Rattle.bb_dtbrec.specs.declared.piece.Piece.TheVariants.{Fixed, Value}
use Rattle.bb_dtbrec.specs.declared.piece.Spelling.TheVariants.{AsIs, NumberAsCell}
use Rattle.bb_dtbrec.specs.Dtb.{dtb_text, pieces_len, pieces_text}
use Rattle.bb_dtbrec.specs.Layouts.{template_of}
use Rattle.bb_dtbrec.specs.Trees.{pattern_of, root_with_crc}
use Rattle.bb_dtbrec.proofs.Examples.{after_value, before_value, front, worked}
use Rattle.bb_dtbrec.proofs.TreeExamples.{one_byte_tree}

-- the variable `a@0`, of one byte, in the state node `state`
one_byte : Recorded
one_byte = record {
  node = codes "state";
  magic = 0x12345678;
  vars =
      record {
        name = codes "a";
        path = codes "a@0" ∷ [];
        at = 0;
        size = 1;
        kind = Uint8;
        default = 0 ∷ [];
      }
      ∷ [];
}

its_template : template_of one_byte ≡ one_byte_tree
unfolding one_byte one_byte_tree
its_template = refl

its_record : dtb_text (pattern_of (template_of one_byte) 1) (5 ∷ []) ≡ worked
unfolding after_byte after_eight_bits after_bit pieces_len pieces_text word double_word front before_value after_value worked one_byte
its_record = refl

-- a number and a string in the node `group`
group : Recorded
group = record {
  node = codes "state";
  magic = 0x12345678;
  vars =
      record {
        name = codes "group.n";
        path = codes "group" ∷ codes "n@0" ∷ [];
        at = 0;
        size = 4;
        kind = Uint32;
        default = 0 ∷ 0 ∷ 0 ∷ 0 ∷ [];
      }
      ∷ record {
        name = codes "group.s";
        path = codes "group" ∷ codes "s@4" ∷ [];
        at = 4;
        size = 5;
        kind = Chars 5;
        default = 0 ∷ 0 ∷ 0 ∷ 0 ∷ 0 ∷ [];
      }
      ∷ [];
}

shared_node : template_of group ≡ root_with_crc []
    (node (codes "state")
    ((codes "compatible", Fixed (codes "barebox,state" ++ 0 ∷ []))
    ∷ (codes "magic", Fixed (18 ∷ 52 ∷ 86 ∷ 120 ∷ [])) ∷ [])
    (node (codes "group") []
    (node (codes "n@0")
    ((codes "value", Value (record { at = 0; size = 4; spelling = NumberAsCell })) ∷ [])
    empty
    (node (codes "s@4")
    ((codes "value", Value (record { at = 4; size = 5; spelling = AsIs })) ∷ [])
    empty empty))
    empty)
    empty)
unfolding group
shared_node = refl
