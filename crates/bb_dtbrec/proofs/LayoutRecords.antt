-- The records of a layout: that they have a pattern, as long as the layout says, and what they are.
use Rattle.std.proofs.Common.{◌≡◌, ℕ, ◌+◌, ◌-◌, ◌*◌, ◌%◌, ◌≤◌, true, List, [], length, replicate, refl, sym, ap, ◌∙◌, arith, drop, take}
use Rattle.std.specs.List.{AllByRecursion}
use Rattle.std.proofs.lemmas.Bool.{and_from, eq-eqb, le-leb}
use Rattle.std.proofs.lemmas.List.{length-replicate}
use Rattle.std.proofs.lemmas.List.Elements.{recursion_from_All}
use Rattle.bb_flash.specs.declared.geometry.Geometry.{Geometry}
use Rattle.bb_tree.specs.Node.{Branch, Forest, empty, grow}
use Rattle.bb_tree.specs.Blob.{blob_text}
use Rattle.bb_vars.specs.declared.kind.Kind.{Kind}
use Rattle.bb_vars.specs.declared.kind.Kind.TheVariants.{Uint8, Uint32, Enum32, Mac, Chars}
use Rattle.bb_layout.specs.Copies.{room_for, spacing}
use Rattle.bb_layout.specs.Facts.{AreVars}
use Rattle.bb_layout.specs.Kept.{IsLaid}
use Rattle.bb_layout.specs.Formats.{blob_len, record_len}
use Rattle.bb_layout.specs.Layout.{Laid, laid_len, recorded_of}
use Rattle.bb_layout.specs.Ranges.{end_of}
use Rattle.bb_layout.specs.Record.{Recorded, record_tree_of, state_by, value_in, value_of}
use Rattle.bb_layout.specs.Variables.{IsWellFormed}
use Rattle.bb_layout.specs.declared.format_kind.FormatKind.TheVariants.{Dtb}
use Rattle.bb_layout.specs.declared.storage.Storage.{Storage}
use Rattle.bb_layout.specs.declared.storage.Storage.TheVariants.{Stride, OneBlock, Circular}
use Rattle.bb_dtbrec.specs.declared.piece.Piece.{Piece}
use Rattle.bb_dtbrec.specs.declared.piece.Piece.TheVariants.{Fixed}
use Rattle.bb_dtbrec.specs.Dtb.{are_pieces, dtb_length, dtb_text, field_of, is_pattern, piece_text}
use Rattle.bb_dtbrec.specs.Layouts.{field_for, layout_pattern, place_in_area, spelling_of, template_of}
use Rattle.bb_dtbrec.specs.Trees.{blob_with_crc, pattern_of, pieces_behind_crc, tree_at, tree_values}
use Rattle.bb_dtbrec.proofs.GrownValues.{values_of_template}
use Rattle.bb_dtbrec.proofs.Insertions.{pieces_inserted}
use Rattle.bb_dtbrec.proofs.TreeBlobs.{length_blob_at, length_front, record_is_blob}
use Rattle.bb_dtbrec.proofs.TreeShapes.{tree_as}
use Rattle.bb_dtbrec.proofs.TreeValues.{tree_decides}
use Rattle.bb_dtbrec.proofs.VarPlaces.{apart_from_none, vars_apart, vars_led, vars_sized}

-- ---- the tree

value_spelt : (kind : Kind) (bytes : List ℕ) →
    field_of (spelling_of kind) bytes ≡ value_in kind bytes
value_spelt Uint8 bytes = refl
value_spelt Uint32 bytes = refl
value_spelt (Enum32 names) bytes = refl
value_spelt Mac bytes = refl
value_spelt (Chars size) bytes = refl

-- over each area, the tree of a record is what became of the template
pub tree_of_template : (recorded : Recorded) (area : List ℕ) →
    tree_at area (template_of recorded) ≡ record_tree_of recorded area
tree_of_template recorded area =
    tree_as (λ (piece : Piece). piece_text piece area) (λ bytes. Fixed bytes) (λ bytes. bytes)
    field_for (value_of area) (λ bytes. refl)
    (λ v. value_spelt v.kind (take v.size (drop v.at area))) recorded

-- ---- the pieces

no_pieces : (n : ℕ) → are_pieces [] n ≡ true
unfolding are_pieces
no_pieces n = refl

-- the nodes below the root
abbrev nodes_below : Recorded → Forest Piece
nodes_below recorded = grow (state_by (λ bytes. Fixed bytes) field_for recorded) empty

pub template_pieces : (recorded : Recorded) (area_len : ℕ) → AreVars area_len recorded.vars →
    are_pieces (pieces_behind_crc (template_of recorded)) area_len ≡ true
template_pieces recorded area_len vars =
    let formed : AllByRecursion IsWellFormed recorded.vars =
    recursion_from_All IsWellFormed recorded.vars vars.each in
    let inside : AllByRecursion (λ v. end_of v ≤ area_len) recorded.vars =
    recursion_from_All (λ v. end_of v ≤ area_len) recorded.vars vars.inside in
    tree_decides [] (nodes_below recorded) area_len
    ∙ pieces_inserted place_in_area area_len [] (tree_values (grow (template_of recorded) empty))
    recorded.vars (values_of_template recorded (vars_led recorded.vars formed))
    (vars_sized area_len recorded.vars formed inside)
    (vars_apart recorded.vars formed vars.apart) (apart_from_none recorded.vars)
    (no_pieces area_len)

-- ---- the length

length_of_template : (recorded : Recorded) (area_len : ℕ) → AreVars area_len recorded.vars →
    dtb_length (pattern_of (template_of recorded) area_len) ≡ blob_len recorded area_len
length_of_template recorded area_len vars =
    let zeros : List ℕ = replicate area_len 0 in
    let are : are_pieces (pieces_behind_crc (template_of recorded)) (length zeros) ≡ true =
    ap (are_pieces (pieces_behind_crc (template_of recorded))) (length-replicate area_len 0)
    ∙ template_pieces recorded area_len vars
    in
    sym (length_blob_at [] (nodes_below recorded) zeros are)
    ∙ ap (λ (tree : Branch (List ℕ)). length (blob_text (record { root = tree; reserved = [] })))
    (tree_of_template recorded zeros)

-- records have the length that the layout says
pub layout_length : (layout : Laid) → layout.format ≡ Dtb →
    AreVars layout.area_len layout.vars → dtb_length (layout_pattern layout) ≡ laid_len layout
layout_length layout e vars =
    length_of_template (recorded_of layout) layout.area_len vars
    ∙ sym (ap (λ format. record_len format (recorded_of layout) layout.area_len) e)

-- ---- the pattern

and_more : (n more : ℕ) → n ≤ (n + 8) + more
and_more n more = omega arith

room_least : (geometry : Geometry) (storage : Storage) (len : ℕ) →
    len ≤ room_for geometry storage len
room_least geometry (Stride stride) len = omega arith
room_least geometry OneBlock len = omega arith
room_least geometry Circular len =
    and_more len ((geometry.page - (len + 8) % geometry.page) % geometry.page)

-- a record is shorter than a device may be
pub laid_len_most : (layout : Laid) → IsLaid layout → laid_len layout ≤ 0xffffffff
laid_len_most layout laid =
    let copied = laid.copied in
    let size : ℕ = spacing layout.geometry layout.storage in
    let first = copied.inside 0 (omega (arith, copied.least)) in
    let none : 0 * size ≡ 0 = omega arith in
    omega (
      arith,
      room_least layout.geometry layout.storage (laid_len layout),
      copied.room,
      first.to,
      copied.on_device,
      laid.geometry_is.size_most,
    )

pub layout_is_pattern : (layout : Laid) → layout.format ≡ Dtb → IsLaid layout →
    is_pattern (layout_pattern layout) ≡ true
layout_is_pattern layout e laid =
    let recorded : Recorded = recorded_of layout in
    let length_is : dtb_length (layout_pattern layout) ≡ laid_len layout =
    layout_length layout e laid.vars_are in
    let most : laid_len layout ≤ 0xffffffff = laid_len_most layout laid in
    and_from _ _
    (and_from _ _ (eq-eqb _ _ (length_front (template_of recorded)))
    (le-leb _ _ laid.area_most))
    (and_from _ _ (le-leb _ _ (omega arith))
    (template_pieces recorded layout.area_len laid.vars_are))

-- ---- the record

-- the record of an area is the blob of its tree with its CRC
pub layout_text : (layout : Laid) (area : List ℕ) → layout.format ≡ Dtb → IsLaid layout →
    length area ≡ layout.area_len →
    dtb_text (layout_pattern layout) area
    ≡ blob_with_crc
    (blob_text (record { root = record_tree_of (recorded_of layout) area; reserved = [] }))
layout_text layout area e laid whole =
    let recorded : Recorded = recorded_of layout in
    record_is_blob [] (nodes_below recorded) area
    (ap (λ n. is_pattern (pattern_of (template_of recorded) n)) whole
    ∙ layout_is_pattern layout e laid)
    ∙ ap
    (λ (tree : Branch (List ℕ)).
    blob_with_crc (blob_text (record { root = tree; reserved = [] })))
    (tree_of_template recorded area)
