-- The layout of raw records, where it is accepted.
use Rattle.std.proofs.Common.{◌≡◌, ℕ, ◌+◌, ◌/◌, ◌≤◌, Bool, true, false, ◌||◌, Result, Ok, Err, refl, sym, ap, ◌∙◌, arith, min}
use Rattle.std.specs.Prelude.{◌==◌, if◌then◌else◌, codes, nat_lt}
use Rattle.std.proofs.lemmas.Bool.Decides.{nat_tests}
use Rattle.bb_flash.specs.declared.geometry.Geometry.{Geometry}
use Rattle.bb_layout.specs.Copies.{copies_of}
use Rattle.bb_layout.specs.Formats.{raw_len}
use Rattle.bb_layout.specs.Layout.{Laid}
use Rattle.bb_layout.specs.Steps.{result_then}
use Rattle.bb_layout.specs.Storage.{check_room}
use Rattle.bb_layout.specs.Thirds.{laid_thirds, raw_layout, thirds_of, whole_device}
use Rattle.bb_layout.specs.declared.layout_error.LayoutError.{LayoutError}
use Rattle.bb_layout.specs.declared.layout_error.LayoutError.TheVariants.{BadProp, TooSmall}

abbrev laid_if : Bool → Result (Unit {0}) LayoutError → LayoutError → Laid → Result Laid LayoutError
laid_if in_place fit blocks laid = if in_place then result_then fit (λ _. Ok laid) else Err blocks

accepted : (in_place : Bool) (fit : Result (Unit {0}) LayoutError) (blocks : LayoutError) (laid layout : Laid) → laid_if in_place fit blocks laid ≡ Ok layout → (fit ≡ Ok tt) × (laid ≡ layout)
accepted true (Ok done) blocks laid layout h = (refl, let same : laid ≡ layout = cc in same)
accepted true (Err e) blocks laid layout h = absurd cc
accepted false fit blocks laid layout h = absurd cc

abbrev fit_if : Bool → Result (Unit {0}) LayoutError
fit_if tight = if tight then Err TooSmall else Ok tt

loose : (tight : Bool) → fit_if tight ≡ Ok tt → tight ≡ false
loose true h = absurd cc
loose false h = refl

roomy : (few tight : Bool) → (few || tight) ≡ false → tight ≡ false
roomy true tight h = absurd cc
roomy false tight h = h

three_fit : (size : ℕ) → 24 ≤ size / 3 → min 3 (size / (size / 3)) ≡ 3
three_fit size some = grind (arith)

-- it has three copies, and the area that was asked for
pub raw_three : (magic area_len : ℕ) (geometry : Geometry) (layout : Laid) → raw_layout magic area_len geometry ≡ Ok layout → (layout.area_len ≡ area_len) × (layout.copies ≡ 3)
raw_three magic area_len geometry layout is =
    let storage = thirds_of geometry in
    let good = accepted (geometry.block == 0) (check_room geometry storage (whole_device geometry) (raw_len area_len)) (BadProp (codes "backend-storage-type")) (laid_thirds magic area_len geometry) layout is in
    let tight : nat_lt (geometry.size / 3) (raw_len area_len + 8) ≡ false =
    roomy (nat_lt (copies_of geometry storage (whole_device geometry)) 2) _ (loose _ good.0) in
    let some : 24 ≤ geometry.size / 3 = grind (arith, nat_tests) in
    (ap (λ (l : Laid). l.area_len) (sym good.1), ap (λ (l : Laid). l.copies) (sym good.1) ∙ three_fit geometry.size some)
