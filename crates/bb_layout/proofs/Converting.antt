-- Areas that are converted: one variable more, the area of the layout's own length, and none.
use Rattle.std.proofs.Common.{◌≡◌, ℕ, ◌+◌, ◌-◌, ◌<◌, ◌≤◌, false, List, [], ◌∷◌, ◌++◌, Some, append-nil, ap, arith, cond, inl, inr, length, length-append, nat_le, refl, replicate, slice_get, subst, sym, take, take_all, ◌∙◌}
use Rattle.std.specs.List.{AllByRecursion}
use Rattle.std.proofs.lemmas.Bool.{cases_lt, le-leb}
use Rattle.std.proofs.lemmas.Bool.Decides.{leb_tells}
use Rattle.std.proofs.lemmas.List.{length-replicate, length-take-le}
use Rattle.std.proofs.lemmas.List.Elements.{recursion_from_All}
use Rattle.std.proofs.lemmas.List.Sums.{fold_more}
use Rattle.std.proofs.lemmas.Option.{get_or_from_slice_get, slice_get_within}
use Rattle.std.proofs.Math.Seq.{take-nil}
use Rattle.std.specs.List.{fold}
use Rattle.bb_vars.proofs.TableRanges.{length-table_with}
use Rattle.bb_vars.specs.Table.{table_with}
use Rattle.bb_layout.specs.Convert.{convert_of, kept_or_default, resized}
use Rattle.bb_layout.specs.Defaults.{defaults_of}
use Rattle.bb_layout.specs.Facts.{AreVars}
use Rattle.bb_layout.specs.Ranges.{end_of}
use Rattle.bb_layout.specs.Variables.{IsWellFormed}
use Rattle.bb_layout.specs.declared.var.Var.{Var}

-- one variable more
pub convert_more : (len : ℕ) (vars : List Var) (stored : List ℕ) (i : ℕ) (v : Var) →
    slice_get vars i ≡ Some v →
    convert_of len (take (i + 1) vars) stored
    ≡ kept_or_default (length stored) (convert_of len (take i vars) stored) v
convert_more len vars stored i v h =
    let put : List ℕ → Var → List ℕ = kept_or_default (length stored) in
    fold_more put (resized len stored) vars i v (slice_get_within vars i v h)
    ∙ ap (put (convert_of len (take i vars) stored)) (get_or_from_slice_get vars i v v h)

-- ---- one variable

pub is_kept : (m : ℕ) (area : List ℕ) (v : Var) → end_of v ≤ m → kept_or_default m area v ≡ area
is_kept m area v h =
    ap (λ b. cond b area (table_with area v.at v.default)) (le-leb (end_of v) m h)

past_end : (m n : ℕ) → n < m → nat_le m n ≡ false
past_end m n h = elim (leb_tells m n)
    [ inl enough ↦ absurd (omega (arith, enough.1)) | inr few ↦ few.0 ]

pub is_default : (m : ℕ) (area : List ℕ) (v : Var) → m < end_of v →
    kept_or_default m area v ≡ table_with area v.at v.default
is_default m area v h =
    ap (λ b. cond b area (table_with area v.at v.default)) (past_end (end_of v) m h)

-- ---- the first bytes

pub longer_resized : (len : ℕ) (area : List ℕ) → len ≤ length area →
    resized len area ≡ take len area
longer_resized len area h =
    let none : len - length area ≡ 0 = omega arith in
    ap (λ k. take len area ++ replicate k 0) none ∙ append-nil (take len area)

pub shorter_resized : (len : ℕ) (area : List ℕ) → length area ≤ len →
    resized len area ≡ area ++ replicate (len - length area) 0
shorter_resized len area h =
    ap (λ l. l ++ replicate (len - length area) 0) (take_all len area h)

pub resized_length : (len : ℕ) (area : List ℕ) → length (resized len area) ≡ len
resized_length len area = elim (cases_lt (length area) len) [
  | inl shorter ↦
      let zeros = length-replicate {A = ℕ} (len - length area) 0 in
      ap length (shorter_resized len area (omega arith))
      ∙ length-append area (replicate (len - length area) 0) ∙ omega (arith, zeros)
  | inr longer ↦
      ap length (longer_resized len area longer) ∙ length-take-le len area longer
]

-- ---- all variables

put_length : (m len : ℕ) (area : List ℕ) (v : Var) → IsWellFormed v → end_of v ≤ len →
    length area ≡ len → length (kept_or_default m area v) ≡ len
put_length m len area v formed inside e = elim (cases_lt m (end_of v)) [
  | inl past ↦
      let size : length v.default ≡ v.size = formed.default ∙ sym formed.size in
      ap length (is_default m area v past)
      ∙ length-table_with area v.at v.default (omega arith) ∙ e
  | inr within ↦ ap length (is_kept m area v within) ∙ e
]

all_length : (m len : ℕ) (area : List ℕ) (vars : List Var) → AllByRecursion IsWellFormed vars →
    AllByRecursion (λ v. end_of v ≤ len) vars → length area ≡ len →
    length (fold (kept_or_default m) area vars) ≡ len
all_length m len area [] formed inside e = e
all_length m len area (v ∷ vars) formed inside e =
    all_length m len (kept_or_default m area v) vars formed.1 inside.1
    (put_length m len area v formed.0 inside.0 e)

pub convert_length : (len : ℕ) (vars : List Var) (stored : List ℕ) → AreVars len vars →
    length (convert_of len vars stored) ≡ len
convert_length len vars stored are =
    all_length (length stored) len (resized len stored) vars
    (recursion_from_All IsWellFormed vars are.each)
    (recursion_from_All (λ v. end_of v ≤ len) vars are.inside)
    (resized_length len stored)

all_kept : (m : ℕ) (area : List ℕ) (vars : List Var) →
    AllByRecursion (λ v. end_of v ≤ m) vars → fold (kept_or_default m) area vars ≡ area
all_kept m area [] inside = refl
all_kept m area (v ∷ vars) inside =
    ap (λ a. fold (kept_or_default m) a vars) (is_kept m area v inside.0)
    ∙ all_kept m area vars inside.1

-- an area of the layout's own length is left as it is
pub convert_same : (len : ℕ) (vars : List Var) (stored : List ℕ) → AreVars len vars →
    length stored ≡ len → convert_of len vars stored ≡ stored
convert_same len vars stored are e =
    let inside : AllByRecursion (λ v. end_of v ≤ length stored) vars =
    subst (λ (n : ℕ). AllByRecursion (λ v. end_of v ≤ n) vars) (sym e)
    (recursion_from_All (λ v. end_of v ≤ len) vars are.inside) in
    all_kept (length stored) (resized len stored) vars inside
    ∙ longer_resized len stored (omega arith) ∙ take_all len stored (omega arith)

all_default : (area : List ℕ) (vars : List Var) → AllByRecursion IsWellFormed vars →
    fold (kept_or_default 0) area vars ≡ fold (λ a v. table_with a v.at v.default) area vars
all_default area [] formed = refl
all_default area (v ∷ vars) formed =
    let some = formed.0.some in
    ap (λ a. fold (kept_or_default 0) a vars) (is_default 0 area v (omega arith))
    ∙ all_default (table_with area v.at v.default) vars formed.1

-- where nothing is stored the area is that of the defaults
pub convert_empty : (len : ℕ) (vars : List Var) → AreVars len vars →
    convert_of len vars [] ≡ defaults_of len vars
convert_empty len vars are =
    let rest : len - 0 ≡ len = omega arith in
    let front : resized len [] ≡ replicate len 0 =
    ap (λ k. take len [] ++ replicate k 0) rest ∙ ap (λ l. l ++ replicate len 0) (take-nil len) in
    ap (λ a. fold (kept_or_default 0) a vars) front
    ∙ all_default (replicate len 0) vars (recursion_from_All IsWellFormed vars are.each)

pub empty_converted : (len : ℕ) (vars : List Var) (stored : List ℕ) → AreVars len vars →
    stored ≡ [] → convert_of len vars stored ≡ defaults_of len vars
empty_converted len vars stored are e = ap (convert_of len vars) e ∙ convert_empty len vars are
