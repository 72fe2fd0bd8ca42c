-- The text of a region that holds one record at most.
use Rattle.std.proofs.Common.{◌≡◌, ℕ, ◌≤◌, List, ◌++◌, append-nil, length, take, Option, Some, None, IfSome, option_map, option_to_list, refl, sym, ap, subst, ◌∙◌}
use Rattle.std.specs.Option.{option_map_or}
use Rattle.bb_base.specs.Form.{Form}
use Rattle.bb_copies.specs.Passing.{FitsFront}
use Rattle.bb_copies.specs.declared.read.PassingCopy.{PassingCopy}
use Rattle.bb_layout.specs.Layout.{Laid}
use Rattle.bb_history.specs.Lines.{count_line}
use Rattle.bb_history.specs.Reading.{entry_lines, passing_text, shown_text}

-- its count and its entry, if it passes
pub single_text : (layout : Laid) (copy : ℕ) (left : List ℕ) (passed : Option ℕ) →
    shown_text layout copy (option_to_list (option_map (λ len. take len left) passed))
    ≡ count_line copy (option_map_or (λ _. 1) passed 0) ++ passing_text layout 1 left passed
single_text layout copy left None = refl
single_text layout copy left (Some len) =
    ap (λ l. count_line copy 1 ++ l) (append-nil (entry_lines layout 1 (take len left)))

-- what was read of a copy says what it passes
pub reading_is : (out left : List ℕ) (passing : Option (List ℕ)) (passed : Option ℕ)
    (reading : Option PassingCopy) → passed ≡ option_map (λ (found : PassingCopy). found.len) reading →
    left ≡ out → option_map (λ (found : PassingCopy). take found.len out) reading ≡ passing →
    option_map (λ len. take len left) passed ≡ passing
reading_is out left passing passed reading is same read =
    ap (λ (o : Option ℕ). option_map (λ len. take len left) o) is
    ∙ ap (λ (l : List ℕ). option_map (λ len. take len l) (option_map (λ (found : PassingCopy). found.len) reading)) same
    ∙ taken reading ∙ read
  where
    taken : (r : Option PassingCopy) →
        option_map (λ len. take len out) (option_map (λ (found : PassingCopy). found.len) r)
        ≡ option_map (λ (found : PassingCopy). take found.len out) r
    taken None = refl
    taken (Some found) = refl

-- and that the area stands inside it
pub reading_fits : (form : Form) (out left : List ℕ) (passed : Option ℕ) (reading : Option PassingCopy) →
    passed ≡ option_map (λ (found : PassingCopy). found.len) reading → left ≡ out →
    IfSome reading (λ found. FitsFront form found.len out) → IfSome passed (λ len. len ≤ length left)
reading_fits form out left passed reading is same fits =
    subst (λ (l : List ℕ). IfSome passed (λ len. len ≤ length l)) (sym same)
    (subst (λ (o : Option ℕ). IfSome o (λ len. len ≤ length out)) (sym is) (inside reading fits))
  where
    inside : (r : Option PassingCopy) → IfSome r (λ found. FitsFront form found.len out) →
        IfSome (option_map (λ (found : PassingCopy). found.len) r) (λ len. len ≤ length out)
    inside None fits = tt
    inside (Some found) fits = fits.inside
