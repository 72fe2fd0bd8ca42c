-- The pieces of a layout's records in the order in which they are written, and the bytes before
-- their CRC. The names of properties begin at the same places in all records.
use Rattle.std.specs.Prelude.{ℕ, List, [], ◌∷◌, ◌++◌, codes, length, replicate}
use Rattle.bb_tree.specs.Blob.{begin_text, filling, header_text, word}
use Rattle.bb_layout.specs.Record.{Recorded, cell, grown_by}
use Rattle.bb_dtbrec.specs.declared.piece.Piece.{Piece}
use Rattle.bb_dtbrec.specs.declared.piece.Piece.TheVariants.{Fixed}
use Rattle.bb_dtbrec.specs.Layouts.{field_for}
use Rattle.bb_dtbrec.specs.Spine.{begin_piece, end_piece, nodes_written}

-- a property of these bytes, whose name begins at that place
abbrev pub fixed_prop : ℕ → List ℕ → List Piece
fixed_prop offset value =
    Fixed (word 3 ++ (word (length value) ++ word offset)) ∷ Fixed value
    ∷ Fixed (filling (length value)) ∷ []

-- after the CRC, of the state node what stands before the nodes in it, by the places of two names
abbrev pub begun_at : ℕ → ℕ → Recorded → List Piece
begun_at compatible magic recorded =
    Fixed (filling 4) ∷ begin_piece recorded.node
    ∷ (fixed_prop compatible (codes "barebox,state" ++ 0 ∷ [])
    ++ fixed_prop magic (cell recorded.magic))

-- and the structure block after these, with nodes in the state node
abbrev pub structure_at : ℕ → ℕ → Recorded → List Piece → List Piece
structure_at compatible magic recorded nodes =
    (((begun_at compatible magic recorded ++ nodes) ++ end_piece ∷ []) ++ end_piece ∷ [])
    ++ Fixed (word 9) ∷ []

abbrev pub state_begun : Recorded → List Piece
state_begun recorded = begun_at 9 20 recorded

abbrev pub structure_behind : Recorded → List Piece
structure_behind recorded =
    structure_at 9 20 recorded (nodes_written (grown_by field_for recorded.vars).nodes)

-- the bytes before the CRC, by the lengths of both blocks
abbrev pub front_with : ℕ → ℕ → List ℕ
front_with structure strings =
    header_text 16 structure strings
    ++ (replicate 16 0 ++ (begin_text [] ++ (word 3 ++ (word 4 ++ word 0))))
