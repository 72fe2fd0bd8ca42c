-- The pieces that are written for a layout are those of its pattern.
use Rattle.std.proofs.Common.{◌≡◌, ℕ, ◌+◌, ◌≤◌, List, [], ◌∷◌, ◌++◌, codes, length, replicate, refl, sym, ap, ◌∙◌, arith}
use Rattle.std.specs.List.{AllByRecursion}
use Rattle.std.proofs.lemmas.List.Elements.{recursion_from_All}
use Rattle.bb_tree.specs.Node.{forest}
use Rattle.bb_tree.specs.Blob.{begin_text, double_word, header_text, offset_of, reservation_list, strings_block, word}
use Rattle.bb_layout.specs.Kept.{IsLaid}
use Rattle.bb_layout.specs.Layout.{Laid, laid_len, recorded_of}
use Rattle.bb_layout.specs.Record.{Recorded, grown_by}
use Rattle.bb_layout.specs.Variables.{IsWellFormed}
use Rattle.bb_layout.specs.declared.format_kind.FormatKind.TheVariants.{Dtb}
use Rattle.bb_dtbrec.specs.declared.piece.Piece.{Piece}
use Rattle.bb_dtbrec.specs.declared.piece.Piece.TheVariants.{Fixed}
use Rattle.bb_dtbrec.specs.Dtb.{Pattern, dtb_length, pieces_len}
use Rattle.bb_dtbrec.specs.LayoutPieces.{front_with, structure_at, structure_behind}
use Rattle.bb_dtbrec.specs.Layouts.{field_for, layout_pattern, template_of}
use Rattle.bb_dtbrec.specs.Names.{record_names}
use Rattle.bb_dtbrec.specs.Trees.{crc_prop, front_of, nodes_pieces, pieces_behind_crc, prop_token_bytes, structure_pieces, template_names, template_offset}
use Rattle.bb_dtbrec.proofs.GrownValues.{IsLed}
use Rattle.bb_dtbrec.proofs.LayoutRecords.{laid_len_most, layout_length}
use Rattle.bb_dtbrec.proofs.Offsets.{compatible_offset, crc_offset, magic_offset, names_of_template, vars_written}
use Rattle.bb_dtbrec.proofs.VarPlaces.{vars_led}

-- ---- the structure block after the CRC

-- by the names of all properties
abbrev structure_by : List (List ℕ) → Recorded → List Piece
structure_by names recorded =
    structure_at (offset_of names (codes "compatible")) (offset_of names (codes "magic")) recorded
    (nodes_pieces (offset_of names) (forest (grown_by field_for recorded.vars).nodes))

structure_is : (recorded : Recorded) → AllByRecursion IsLed recorded.vars →
    structure_by (template_names (template_of recorded)) recorded ≡ structure_behind recorded
structure_is recorded led =
    let names : List (List ℕ) = record_names recorded.vars in
    let nodes : List Piece =
    nodes_pieces (offset_of names) (forest (grown_by field_for recorded.vars).nodes) in
    ap (λ l. structure_by l recorded) (names_of_template recorded led)
    ∙ ap (λ n. structure_at n (offset_of names (codes "magic")) recorded nodes)
    (compatible_offset recorded.vars)
    ∙ ap (λ n. structure_at 9 n recorded nodes) (magic_offset recorded.vars)
    ∙ ap (structure_at 9 20 recorded) (vars_written recorded.vars led)

behind_crc : (recorded : Recorded) →
    pieces_behind_crc (template_of recorded)
    ≡ structure_by (template_names (template_of recorded)) recorded
    ++ Fixed (strings_block (template_names (template_of recorded))) ∷ []
behind_crc recorded = refl

pub pieces_written : (recorded : Recorded) → AllByRecursion IsLed recorded.vars →
    structure_behind recorded ++ Fixed (strings_block (record_names recorded.vars)) ∷ []
    ≡ pieces_behind_crc (template_of recorded)
pieces_written recorded led =
    sym
    (behind_crc recorded
    ∙ ap (λ l. l ++ Fixed (strings_block (template_names (template_of recorded))) ∷ [])
    (structure_is recorded led)
    ∙ ap (λ names. structure_behind recorded ++ Fixed (strings_block names) ∷ [])
    (names_of_template recorded led))

-- ---- the bytes before the CRC

whole_structure : (recorded : Recorded) →
    structure_pieces (template_of recorded)
    ≡ Fixed (begin_text []) ∷ Fixed (prop_token_bytes (template_offset (template_of recorded)) crc_prop)
    ∷ Fixed (0 ∷ 0 ∷ 0 ∷ 0 ∷ [])
    ∷ structure_by (template_names (template_of recorded)) recorded
whole_structure recorded = refl

first_lengths : (offset : ℕ) (rest : List Piece) →
    pieces_len
    (Fixed (begin_text []) ∷ Fixed (word 3 ++ (word 4 ++ word offset))
    ∷ Fixed (0 ∷ 0 ∷ 0 ∷ 0 ∷ []) ∷ rest)
    ≡ 24 + pieces_len rest
unfolding pieces_len word
first_lengths offset rest = omega arith

structure_length : (recorded : Recorded) → AllByRecursion IsLed recorded.vars →
    pieces_len (structure_pieces (template_of recorded))
    ≡ 24 + pieces_len (structure_behind recorded)
structure_length recorded led =
    let names : List (List ℕ) = template_names (template_of recorded) in
    ap pieces_len (whole_structure recorded)
    ∙ first_lengths (offset_of names (codes "bb,crc32")) (structure_by names recorded)
    ∙ ap (λ l. 24 + pieces_len l) (structure_is recorded led)

no_reservations : reservation_list [] ≡ replicate 16 0
unfolding double_word
no_reservations = refl

pub front_written : (recorded : Recorded) → AllByRecursion IsLed recorded.vars →
    front_with (24 + pieces_len (structure_behind recorded))
    (length (strings_block (record_names recorded.vars)))
    ≡ front_of (template_of recorded)
front_written recorded led =
    let strings : ℕ = length (strings_block (record_names recorded.vars)) in
    let pairs : List ℕ = reservation_list [] in
    let start : List ℕ → ℕ → List ℕ = λ l n.
    l ++ (begin_text [] ++ (word 3 ++ (word 4 ++ word n))) in
    sym
    (ap
    (λ n. header_text (length pairs) n
    (length (strings_block (template_names (template_of recorded))))
    ++ start pairs (template_offset (template_of recorded) (codes "bb,crc32")))
    (structure_length recorded led)
    ∙ ap
    (λ names. header_text (length pairs) (24 + pieces_len (structure_behind recorded))
    (length (strings_block names))
    ++ start pairs (offset_of names (codes "bb,crc32")))
    (names_of_template recorded led)
    ∙ ap
    (λ n. header_text (length pairs) (24 + pieces_len (structure_behind recorded)) strings
    ++ start pairs n)
    (crc_offset recorded.vars)
    ∙ ap
    (λ (l : List ℕ). header_text (length l) (24 + pieces_len (structure_behind recorded)) strings
    ++ start l 0)
    no_reservations)

-- ---- lengths

len_beside : (xs ys : List Piece) → pieces_len (xs ++ ys) ≡ pieces_len xs + pieces_len ys
unfolding pieces_len
len_beside [] ys = omega arith
len_beside (x ∷ xs) ys = omega (arith, len_beside xs ys)

-- the whole record is short enough
pub structure_most : (layout : Laid) → layout.format ≡ Dtb → IsLaid layout →
    80 + (pieces_len (structure_behind (recorded_of layout))
    + length (strings_block (record_names layout.vars)))
    ≤ 0xffffffff
unfolding pieces_len
structure_most layout e laid =
    let recorded : Recorded = recorded_of layout in
    let strings : List ℕ = strings_block (record_names layout.vars) in
    let led : AllByRecursion IsLed layout.vars =
    vars_led layout.vars (recursion_from_All IsWellFormed layout.vars laid.vars_are.each) in
    let length_is : dtb_length (layout_pattern layout) ≡ laid_len layout =
    layout_length layout e laid.vars_are in
    let all : pieces_len (structure_behind recorded ++ Fixed strings ∷ [])
    ≡ pieces_len (pieces_behind_crc (template_of recorded)) =
    ap pieces_len (pieces_written recorded led) in
    omega (
      arith,
      all,
      length_is,
      laid_len_most layout laid,
      len_beside (structure_behind recorded) (Fixed strings ∷ []),
    )

-- ---- the whole pattern

-- what was written so is the layout's pattern
pub pattern_written : (layout : Laid) (front : List ℕ) (behind pieces : List Piece)
    (strings : List ℕ) (structure_len strings_len : ℕ) → IsLaid layout →
    behind ≡ structure_behind (recorded_of layout) →
    strings ≡ strings_block (record_names layout.vars) → strings_len ≡ length strings →
    structure_len ≡ 24 + pieces_len behind → front ≡ front_with structure_len strings_len →
    pieces ≡ behind ++ Fixed strings ∷ [] →
    record { front = front; pieces = pieces; area_len = layout.area_len } ≡ layout_pattern layout
pattern_written layout front behind pieces strings structure_len strings_len laid e1 e2 e3 e4 e5 e6 =
    let recorded : Recorded = recorded_of layout in
    let led : AllByRecursion IsLed layout.vars =
    vars_led layout.vars (recursion_from_All IsWellFormed layout.vars laid.vars_are.each) in
    let made : List ℕ → List Piece → Pattern = λ f ps.
    record { front = f; pieces = ps; area_len = layout.area_len } in
    ap (λ f. made f pieces)
    (e5
    ∙ ap (λ n. front_with n strings_len) (e4 ∙ ap (λ l. 24 + pieces_len l) e1)
    ∙ ap (front_with (24 + pieces_len (structure_behind recorded))) (e3 ∙ ap length e2)
    ∙ front_written recorded led)
    ∙ ap (made (front_of (template_of recorded)))
    (e6
    ∙ ap (λ l. l ++ Fixed strings ∷ []) e1
    ∙ ap (λ l. structure_behind recorded ++ Fixed l ∷ []) e2
    ∙ pieces_written recorded led)
