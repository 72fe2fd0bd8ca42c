-- The areas that fit the records of a layout: those whose bytes outside the variables are 0.
use Rattle.std.proofs.Common.{◌≡◌, ℕ, ◌<◌, ◌≤◌, ◌⊎◌, true, List, [], ◌∷◌, length, map, refl, sym, ◌∙◌, subst}
use Rattle.std.specs.List.{AllByRecursion}
use Rattle.std.proofs.lemmas.List.Elements.{All-from_recursion, recursion_from_All}
use Rattle.bb_tree.specs.Node.{Forest, empty, grow}
use Rattle.bb_layout.specs.Facts.{AreVars}
use Rattle.bb_layout.specs.Kept.{IsLaid}
use Rattle.bb_layout.specs.Layout.{Laid, recorded_of}
use Rattle.bb_layout.specs.Outside.{ChangesVarsAlone, HoldsVarsAlone, IsOutside}
use Rattle.bb_layout.specs.Ranges.{end_of}
use Rattle.bb_layout.specs.Record.{Recorded, state_by}
use Rattle.bb_layout.specs.Variables.{IsWellFormed}
use Rattle.bb_layout.specs.declared.format_kind.FormatKind.TheVariants.{Dtb}
use Rattle.bb_layout.specs.declared.var.Var.{Var}
use Rattle.bb_dtbrec.specs.declared.piece.Piece.{Piece}
use Rattle.bb_dtbrec.specs.declared.piece.Piece.TheVariants.{Fixed, Value}
use Rattle.bb_dtbrec.specs.Dtb.{dtb_fits}
use Rattle.bb_dtbrec.specs.Laws.{fit}
use Rattle.bb_dtbrec.specs.Layouts.{IsPatternOf, field_for, layout_pattern, template_of}
use Rattle.bb_dtbrec.specs.Trees.{pieces_behind_crc, pieces_of, root_with_crc, tree_values, values_among}
use Rattle.bb_dtbrec.proofs.Fillings.{IsOutsidePiece, fits_where, zero_outside}
use Rattle.bb_dtbrec.proofs.GrownValues.{values_of_template}
use Rattle.bb_dtbrec.proofs.Insertions.{all_inserted, all_put}
use Rattle.bb_dtbrec.proofs.LayoutRecords.{layout_is_pattern, layout_length, layout_text}
use Rattle.bb_dtbrec.proofs.TreeValues.{values_of_pieces}
use Rattle.bb_dtbrec.proofs.VarPlaces.{vars_led}

-- ---- a byte outside all pieces is outside all variables

all_values : (P : Piece → Type 0) (pieces : List Piece) → AllByRecursion P pieces →
    AllByRecursion P (values_among pieces)
all_values P [] all = tt
all_values P (Fixed bytes ∷ pieces) all = all_values P pieces all.1
all_values P (Value place ∷ pieces) all = (all.0, all_values P pieces all.1)

-- the pieces before the CRC are no values
same_values : (props : List (List ℕ × Piece)) (nodes : Forest Piece) →
    values_among (pieces_behind_crc (root_with_crc props nodes))
    ≡ values_among (pieces_of (root_with_crc props nodes))
same_values props nodes = refl

all_of_template : (P : Piece → Type 0) (recorded : Recorded) →
    AllByRecursion P (pieces_behind_crc (template_of recorded)) →
    AllByRecursion P (tree_values (grow (template_of recorded) empty))
all_of_template P recorded all =
    subst (AllByRecursion P)
    (same_values [] (grow (state_by (λ bytes. Fixed bytes) field_for recorded) empty)
    ∙ values_of_pieces (template_of recorded))
    (all_values P (pieces_behind_crc (template_of recorded)) all)

all_vars : (k : ℕ) (vars : List Var) →
    AllByRecursion (IsOutsidePiece k) (map field_for vars) →
    AllByRecursion (λ v. (k < v.at) ⊎ (end_of v ≤ k)) vars
all_vars k [] all = tt
all_vars k (v ∷ vs) all = (all.0, all_vars k vs all.1)

outside_vars : (layout : Laid) (k : ℕ) → AreVars layout.area_len layout.vars →
    AllByRecursion (IsOutsidePiece k) (layout_pattern layout).pieces → IsOutside layout.vars k
outside_vars layout k vars all =
    let recorded : Recorded = recorded_of layout in
    let led =
    vars_led layout.vars (recursion_from_All IsWellFormed layout.vars vars.each) in
    All-from_recursion (λ v. (k < v.at) ⊎ (end_of v ≤ k)) layout.vars
    (all_vars k layout.vars
    (all_inserted (IsOutsidePiece k) [] (map field_for layout.vars)
    (tree_values (grow (template_of recorded) empty)) (values_of_template recorded led)
    (all_of_template (IsOutsidePiece k) recorded all)))

-- ---- and the other way round

of_values : (k : ℕ) (pieces : List Piece) → AllByRecursion (IsOutsidePiece k) (values_among pieces) →
    AllByRecursion (IsOutsidePiece k) pieces
of_values k [] all = tt
of_values k (Fixed bytes ∷ pieces) all = (tt, of_values k pieces all)
of_values k (Value place ∷ pieces) all = (all.0, of_values k pieces all.1)

of_template : (k : ℕ) (recorded : Recorded) →
    AllByRecursion (IsOutsidePiece k) (tree_values (grow (template_of recorded) empty)) →
    AllByRecursion (IsOutsidePiece k) (pieces_behind_crc (template_of recorded))
of_template k recorded all =
    of_values k (pieces_behind_crc (template_of recorded))
    (subst (AllByRecursion (IsOutsidePiece k))
    (sym
    (same_values [] (grow (state_by (λ bytes. Fixed bytes) field_for recorded) empty)
    ∙ values_of_pieces (template_of recorded)))
    all)

of_vars : (k : ℕ) (vars : List Var) → AllByRecursion (λ v. (k < v.at) ⊎ (end_of v ≤ k)) vars →
    AllByRecursion (IsOutsidePiece k) (map field_for vars)
of_vars k [] all = tt
of_vars k (v ∷ vs) all = (all.0, of_vars k vs all.1)

outside_pieces : (layout : Laid) (k : ℕ) → AreVars layout.area_len layout.vars →
    IsOutside layout.vars k → AllByRecursion (IsOutsidePiece k) (layout_pattern layout).pieces
outside_pieces layout k vars outside =
    let recorded : Recorded = recorded_of layout in
    let led =
    vars_led layout.vars (recursion_from_All IsWellFormed layout.vars vars.each) in
    of_template k recorded
    (all_put (IsOutsidePiece k) [] (map field_for layout.vars)
    (tree_values (grow (template_of recorded) empty)) (values_of_template recorded led) tt
    (of_vars k layout.vars
    (recursion_from_All (λ v. (k < v.at) ⊎ (end_of v ≤ k)) layout.vars outside)))

-- ---- areas

-- an area that holds variables alone fits
pub holding_fits : (layout : Laid) (area : List ℕ) → layout.format ≡ Dtb → IsLaid layout →
    length area ≡ layout.area_len → HoldsVarsAlone layout.vars area →
    dtb_fits (layout_pattern layout) area ≡ true
holding_fits layout area e laid whole holds =
    fits_where (layout_pattern layout) area (layout_is_pattern layout e laid) whole
    (λ k within outside. holds k within (outside_vars layout k laid.vars_are outside))

-- and no other does
fits_hold : (layout : Laid) (area : List ℕ) → AreVars layout.area_len layout.vars →
    dtb_fits (layout_pattern layout) area ≡ true → HoldsVarsAlone layout.vars area
fits_hold layout area vars h k within outside =
    zero_outside (layout_pattern layout) area k h (outside_pieces layout k vars outside)

-- one that fits still does so when variables alone change
pub changed_fits : (layout : Laid) (before after : List ℕ) →
    AreVars layout.area_len layout.vars → ChangesVarsAlone layout.vars before after →
    dtb_fits (layout_pattern layout) before ≡ true →
    dtb_fits (layout_pattern layout) after ≡ true
changed_fits layout before after vars changes h =
    let known = fit (layout_pattern layout) before h in
    fits_where (layout_pattern layout) after known.made (changes.same_length ∙ known.whole)
    (λ k within outside. changes.bytes k (outside_vars layout k vars outside)
    ∙ zero_outside (layout_pattern layout) before k h outside)

-- what the pattern of a layout means
pub layout_blobs : (layout : Laid) → layout.format ≡ Dtb → IsLaid layout →
    IsPatternOf layout (layout_pattern layout)
layout_blobs layout e laid = record {
  len = layout_length layout e laid.vars_are;
  text = λ area whole. layout_text layout area e laid whole;
  fits = λ area whole holds. holding_fits layout area e laid whole holds;
  only = λ area h. fits_hold layout area laid.vars_are h;
}
