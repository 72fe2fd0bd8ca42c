-- Refusals of what doesn't fit.
use Rattle.std.proofs.Common.{◌≡◌, ℕ, List, None, Err, ap, sym, ◌∙◌}
use Rattle.std.specs.Option.{ok_or}
use Rattle.bb_layout.specs.VarNames.{place_of_var}
use Rattle.bb_layout.specs.declared.var.Var.{Var}
use Rattle.bb_state.proofs.NamedVars.{var_of_none}
use Rattle.bb_state.specs.declared.error.StateError.{StateError}
use Rattle.bb_state.specs.declared.error.StateError.TheVariants.{NoSuchVariable}
use Rattle.bb_actions.specs.Actions.{Bound, IsMisfit, Refuses, var_named}
use Rattle.bb_actions.specs.declared.error.ActionError.{ActionError}
use Rattle.bb_actions.specs.declared.error.ActionError.TheVariants.{Misfit, NoMemory}

-- the refusal that names a variable and a cause
pub misfit_refuses : {A : Type 0} (name : List ℕ) (cause : StateError) (e : ActionError) (expected : Bound A)
    → IsMisfit name cause e → expected ≡ Err (name, cause) → Refuses expected e
misfit_refuses name cause (Misfit named for) expected is expects =
    expects ∙ ap (λ n. Err (n, cause)) (sym is.0) ∙ ap (λ c. Err (named, c)) (sym is.1)
misfit_refuses name cause NoMemory expected is expects = tt

-- no variable has the name
pub name_refuses : (vars : List Var) (name : List ℕ) (e : ActionError) → place_of_var vars name ≡ None
    → IsMisfit name NoSuchVariable e → Refuses (var_named vars name) e
name_refuses vars name e none is =
    misfit_refuses name NoSuchVariable e (var_named vars name) is
    (ap (λ found. ok_or found (name, NoSuchVariable)) (var_of_none name vars none))
