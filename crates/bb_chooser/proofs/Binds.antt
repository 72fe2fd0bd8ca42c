-- Targets that are bound one after the other.
use Rattle.std.proofs.Common.{◌≡◌, ℕ, List, [], ◌∷◌, ◌++◌, Result, Ok, Err, append_assoc, map, refl, sym, ap}
use Rattle.bb_layout.specs.Results.{all_ok, result_and_then}
use Rattle.bb_layout.specs.declared.var.Var.{Var}
use Rattle.bb_chooser.specs.Binding.{attempts_name, bound_of, priority_name, uint32_at}
use Rattle.bb_chooser.specs.declared.bound_target.BoundTarget.{BoundTarget}
use Rattle.bb_chooser.specs.declared.settings_error.SettingsError.{SettingsError}
use Rattle.bb_chooser.specs.declared.target.Target.{Target}

-- targets that are bound, and after them the rest
abbrev pub onto_bound : List BoundTarget → Result (List BoundTarget) SettingsError → Result (List BoundTarget) SettingsError
onto_bound bound more = result_and_then (λ rest. Ok (bound ++ rest)) more

onto_more : (bound : List BoundTarget) (next : BoundTarget) (r : Result (List BoundTarget) SettingsError)
    → onto_bound bound (result_and_then (λ xs. Ok (next ∷ xs)) r) ≡ onto_bound (bound ++ next ∷ []) r
onto_more bound next (Ok xs) = ap Ok (sym (append_assoc bound (next ∷ []) xs))
onto_more bound next (Err e) = refl

pub bound_next : (f : Target → Result BoundTarget SettingsError) (bound : List BoundTarget) (target : Target) (rest : List Target) (next : BoundTarget) → f target ≡ Ok next
    → onto_bound bound (all_ok (map f (target ∷ rest))) ≡ onto_bound (bound ++ next ∷ []) (all_ok (map f rest))
bound_next f bound target rest next h = rw h (onto_more bound next (all_ok (map f rest)))

-- a target whose priority isn't there as it has to be
pub no_priority : (layout : List ℕ) (vars : List Var) (prefix : List ℕ) (target : Target) (at : ℕ) (e : SettingsError)
    → uint32_at layout vars (attempts_name prefix target.name) ≡ Ok at → uint32_at layout vars (priority_name prefix target.name) ≡ Err e
    → bound_of layout vars prefix target ≡ Err e
no_priority layout vars prefix target at e h g = rw h (rw g refl)
