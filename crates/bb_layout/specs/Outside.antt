-- The bytes of an area that belong to no variable.
use Rattle.std.specs.Prelude.{◌≡◌, ℕ, ◌<◌, ◌≤◌, ◌⊎◌, All, List, length, slice_index}
use Rattle.bb_layout.specs.Ranges.{end_of}
use Rattle.bb_layout.specs.declared.var.Var.{Var}

-- none of these variables has this byte
abbrev pub IsOutside : List Var → ℕ → Type 0
IsOutside vars k = All (λ v. (k < v.at) ⊎ (end_of v ≤ k)) vars

-- an area became another that is as long and has the same bytes outside these variables
pub record ChangesVarsAlone (vars : List Var) (before after : List ℕ) : Type 0 where
  pub same_length : length after ≡ length before
  pub bytes : (k : ℕ) → IsOutside vars k → slice_index after k ≡ slice_index before k

-- the bytes of an area outside these variables are 0
abbrev pub HoldsVarsAlone : List Var → List ℕ → Type 0
HoldsVarsAlone vars area =
    (k : ℕ) → k < length area → IsOutside vars k → slice_index area k ≡ 0
