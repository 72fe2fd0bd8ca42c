-- Which areas are tables of a layout: they have its length, and can be kept as a record.
use Rattle.std.proofs.Common.{◌≡◌, ◌⊎◌, ℕ, List, [], IsTrue, arith, inl, inr, length, refl, subst, sym, ◌∙◌}
use Rattle.std.proofs.lemmas.Bool.{and_from, and_parts, eq-eqb, eqb-true, le-leb}
use Rattle.bb_layout.specs.Convert.{convert}
use Rattle.bb_layout.specs.Defaults.{defaults_of}
use Rattle.bb_layout.specs.Outside.{ChangesVarsAlone}
use Rattle.bb_layout.specs.declared.format_kind.FormatKind.{FormatKind}
use Rattle.bb_layout.specs.declared.format_kind.FormatKind.TheVariants.{Dtb, Raw, RawHmac}
use Rattle.bb_layout.proofs.Converting.{convert_length, convert_same, empty_converted}
use Rattle.bb_layout.proofs.Outside.{defaults_hold, defaults_length}
use Rattle.bb_dtbrec.specs.Laws.{fit}
use Rattle.bb_dtbrec.specs.Layouts.{layout_pattern}
use Rattle.bb_dtbrec.proofs.LayoutAreas as areas
use Rattle.bb_layout.specs.Kept.{IsLaid}
use Rattle.bb_state.specs.Keyed.{Keyed}
use Rattle.bb_state.specs.Kinds.{any_form, format_for, is_table, laid_form}
use Rattle.bb_state.proofs.Mounting.{area_short}

-- an area is kept by records of that format
abbrev Fits : FormatKind → Keyed → List ℕ → Type 0
Fits format keyed table = IsTrue ((any_form (format_for format keyed)).fits table)

-- ---- tables

pub fits_sized : (keyed : Keyed) (table : List ℕ) → IsTrue (is_table keyed table) → length table ≡ keyed.layout.area_len
fits_sized keyed table is = eqb-true _ _ (and_parts _ _ is).0

pub table_fits : (keyed : Keyed) (table : List ℕ) → IsTrue (is_table keyed table) → IsTrue ((laid_form keyed).fits table)
table_fits keyed table is = (and_parts _ _ is).1

pub table_from : (keyed : Keyed) (table : List ℕ) → length table ≡ keyed.layout.area_len → IsTrue ((laid_form keyed).fits table) → IsTrue (is_table keyed table)
table_from keyed table sized fits = and_from _ _ (eq-eqb _ _ sized) fits

-- each area of the layout's length can be kept as a raw record: there is room for it
raw_at : (format : FormatKind) (keyed : Keyed) (table : List ℕ) → keyed.layout.format ≡ format → IsLaid keyed.layout → (format ≡ Dtb → ⊥) → length table ≡ keyed.layout.area_len → Fits format keyed table
raw_at Raw keyed table is facts raw sized = let most = area_short Raw keyed is facts in le-leb _ _ (omega (arith, most, sized))
raw_at RawHmac keyed table is facts raw sized = let most = area_short RawHmac keyed is facts in le-leb _ _ (omega (arith, most, sized))
raw_at Dtb keyed table is facts raw sized = absurd (raw refl)

raw_or_not : Raw ≡ Dtb → ⊥
raw_or_not e = absurd cc

pub raw_fits : (keyed : Keyed) (table : List ℕ) → IsLaid keyed.layout → keyed.layout.format ≡ Raw → length table ≡ keyed.layout.area_len → IsTrue (is_table keyed table)
raw_fits keyed table facts raw sized =
    table_from keyed table sized
    (raw_at keyed.layout.format keyed table refl facts (λ e. raw_or_not (sym raw ∙ e)) sized)

-- ---- variables alone were written

changed_at : (format : FormatKind) (keyed : Keyed) (before after : List ℕ) → keyed.layout.format ≡ format → IsLaid keyed.layout
    → length after ≡ keyed.layout.area_len → Fits format keyed before → ChangesVarsAlone keyed.layout.vars before after → Fits format keyed after
changed_at Raw keyed before after is facts sized fits changes = let most = area_short Raw keyed is facts in le-leb _ _ (omega (arith, most, sized))
changed_at RawHmac keyed before after is facts sized fits changes = let most = area_short RawHmac keyed is facts in le-leb _ _ (omega (arith, most, sized))
changed_at Dtb keyed before after is facts sized fits changes = areas.changed_fits keyed.layout before after facts.vars_are changes fits

pub changed_fits : (keyed : Keyed) (before after : List ℕ) → IsLaid keyed.layout → IsTrue (is_table keyed before)
    → ChangesVarsAlone keyed.layout.vars before after → IsTrue (is_table keyed after)
changed_fits keyed before after facts is changes =
    let sized : length after ≡ keyed.layout.area_len = changes.same_length ∙ fits_sized keyed before is in
    table_from keyed after sized
    (changed_at keyed.layout.format keyed before after refl facts sized (table_fits keyed before is) changes)

-- ---- the defaults

defaults_at : (format : FormatKind) (keyed : Keyed) → keyed.layout.format ≡ format → IsLaid keyed.layout
    → Fits format keyed (defaults_of keyed.layout.area_len keyed.layout.vars)
defaults_at Raw keyed is facts =
    let sized = defaults_length keyed.layout.area_len keyed.layout.vars facts.vars_are in
    let most = area_short Raw keyed is facts in le-leb _ _ (omega (arith, most, sized))
defaults_at RawHmac keyed is facts =
    let sized = defaults_length keyed.layout.area_len keyed.layout.vars facts.vars_are in
    let most = area_short RawHmac keyed is facts in le-leb _ _ (omega (arith, most, sized))
defaults_at Dtb keyed is facts =
    let layout = keyed.layout in
    areas.holding_fits layout (defaults_of layout.area_len layout.vars) is facts
    (defaults_length layout.area_len layout.vars facts.vars_are) (defaults_hold layout.area_len layout.vars facts.vars_are)

pub defaults_fit : (keyed : Keyed) → IsLaid keyed.layout → IsTrue (is_table keyed (defaults_of keyed.layout.area_len keyed.layout.vars))
defaults_fit keyed facts =
    table_from keyed (defaults_of keyed.layout.area_len keyed.layout.vars)
    (defaults_length keyed.layout.area_len keyed.layout.vars facts.vars_are)
    (defaults_at keyed.layout.format keyed refl facts)

-- ---- an area that was stored, or the empty one, as the layout reads it

converted_at : (format : FormatKind) (keyed : Keyed) (stored : List ℕ) → keyed.layout.format ≡ format → IsLaid keyed.layout
    → (stored ≡ []) ⊎ Fits format keyed stored → Fits format keyed (convert keyed.layout stored)
converted_at Raw keyed stored is facts fits =
    let sized = convert_length keyed.layout.area_len keyed.layout.vars stored facts.vars_are in
    let most = area_short Raw keyed is facts in le-leb _ _ (omega (arith, most, sized))
converted_at RawHmac keyed stored is facts fits =
    let sized = convert_length keyed.layout.area_len keyed.layout.vars stored facts.vars_are in
    let most = area_short RawHmac keyed is facts in le-leb _ _ (omega (arith, most, sized))
converted_at Dtb keyed stored is facts (inl none) =
    subst (Fits Dtb keyed) (sym (empty_converted keyed.layout.area_len keyed.layout.vars stored facts.vars_are none))
    (defaults_at Dtb keyed is facts)
converted_at Dtb keyed stored is facts (inr fits) =
    subst (Fits Dtb keyed)
    (sym (convert_same keyed.layout.area_len keyed.layout.vars stored facts.vars_are (fit (layout_pattern keyed.layout) stored fits).whole))
    fits

pub converted_fits : (keyed : Keyed) (stored : List ℕ) → IsLaid keyed.layout → (stored ≡ []) ⊎ IsTrue ((laid_form keyed).fits stored)
    → IsTrue (is_table keyed (convert keyed.layout stored))
converted_fits keyed stored facts fits =
    table_from keyed (convert keyed.layout stored)
    (convert_length keyed.layout.area_len keyed.layout.vars stored facts.vars_are)
    (converted_at keyed.layout.format keyed stored refl facts fits)
