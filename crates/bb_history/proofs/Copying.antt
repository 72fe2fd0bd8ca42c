-- The texts of regions, one after another.
use Rattle.std.proofs.Common.{◌≡◌, ℕ, ◌+◌, List, [], ◌∷◌, ◌++◌, append-nil, append_assoc, drop, length, take, Some, sym, ap, ◌∙◌, arith}
use Rattle.std.specs.Prelude.{slice_get}
use Rattle.std.proofs.lemmas.List.{length-take-le, take-append-drop}
use Rattle.std.proofs.lemmas.Option.{slice_get_within}
use Rattle.bb_base.specs.Form.{Form}
use Rattle.bb_flash.specs.Image.{Image}
use Rattle.bb_flash.specs.declared.region.Region.{Region}
use Rattle.bb_layout.specs.Layout.{Laid}
use Rattle.bb_state.proofs.Lists.{drop_next, take_next}
use Rattle.bb_history.specs.History.{history_of, regions_text}
use Rattle.bb_history.specs.Lines.{copy_text}

module _ (layout : Laid) (form : Form) (page : ℕ) (image : Image) where
  abbrev pub CopyText : ℕ → Region → List ℕ
  CopyText copy region = copy_text layout.vars copy (history_of layout form page region image)

  abbrev pub CopyTexts : ℕ → List Region → List ℕ
  CopyTexts copy regions = regions_text layout form page copy regions image

  texts_joined : (one two : List Region) (copy : ℕ) →
      CopyTexts copy (one ++ two) ≡ CopyTexts copy one ++ CopyTexts (copy + length one) two
  texts_joined [] two copy =
      ap (λ n. CopyTexts n two) (let none : copy ≡ copy + 0 = omega arith in none)
  texts_joined (region ∷ one) two copy =
      let count : copy + 1 + length one ≡ copy + length (region ∷ one) = omega arith in
      ap (λ l. CopyText copy region ++ l) (texts_joined one two (copy + 1))
      ∙ sym (append_assoc (CopyText copy region) (CopyTexts (copy + 1) one) (CopyTexts (copy + 1 + length one) two))
      ∙ ap (λ n. (CopyText copy region ++ CopyTexts (copy + 1) one) ++ CopyTexts n two) count

  module _ (regions : List Region) (copy : ℕ) (region : Region) (there : slice_get regions copy ≡ Some region) where
    count : 0 + length (take copy regions) ≡ copy
    count =
        let inside = slice_get_within regions copy region there in
        omega (arith, length-take-le copy regions (omega (arith, inside)))

    -- with one more
    pub copies_next : CopyTexts 0 (take (copy + 1) regions) ≡ CopyTexts 0 (take copy regions) ++ CopyText copy region
    copies_next =
        ap (CopyTexts 0) (take_next regions copy region there)
        ∙ texts_joined (take copy regions) (region ∷ []) 0
        ∙ ap (λ n. CopyTexts 0 (take copy regions) ++ CopyTexts n (region ∷ [])) count
        ∙ ap (λ l. CopyTexts 0 (take copy regions) ++ l) (append-nil (CopyText copy region))

    -- and those after it
    abbrev pub CopiesBehind : List ℕ
    CopiesBehind = CopyTexts (copy + 1) (drop (copy + 1) regions)

    pub copies_split : CopyTexts 0 regions ≡ CopyTexts 0 (take copy regions) ++ (CopyText copy region ++ CopiesBehind)
    copies_split =
        ap (CopyTexts 0) (sym (take-append-drop copy regions))
        ∙ texts_joined (take copy regions) (drop copy regions) 0
        ∙ ap (λ n. CopyTexts 0 (take copy regions) ++ CopyTexts n (drop copy regions)) count
        ∙ ap (λ rs. CopyTexts 0 (take copy regions) ++ CopyTexts copy rs) (drop_next regions copy region there)
