-- The variables of a layout in its area.
use Rattle.std.proofs.Common.{◌≡◌, ℕ, ◌≤◌, List, Some, slice_get, subst}
use Rattle.std.proofs.lemmas.Option.{get_or_from_slice_get, slice_get_within}
use Rattle.bb_layout.specs.Facts.{AreVars}
use Rattle.bb_layout.specs.Ranges.{end_of}
use Rattle.bb_layout.specs.Variables.{IsWellFormed}
use Rattle.bb_layout.specs.declared.var.Var.{Var}
use Rattle.bb_state.specs.Room.{VarHasRoom}

pub room_at : (len : ℕ) (vars : List Var) (i : ℕ) (v : Var) → AreVars len vars → slice_get vars i ≡ Some v → VarHasRoom len v
room_at len vars i v are h =
    let within = slice_get_within vars i v h in
    let same = get_or_from_slice_get vars i v v h in
    record {
      inside = subst (λ (w : Var). end_of w ≤ len) same (are.inside i v within);
      sized = (subst IsWellFormed same (are.each i v within)).size;
      few_names = (subst IsWellFormed same (are.each i v within)).few_names;
    }
