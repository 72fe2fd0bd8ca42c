-- One action more.
use Rattle.std.proofs.Common.{◌≡◌, ℕ, ◌+◌, ◌≤◌, List, [], ◌∷◌, ◌++◌, Some, Ok, Err, append_assoc, append-nil, ap, length, refl, sym, ◌∙◌, drop, take, fold, slice_get}
use Rattle.std.proofs.lemmas.List.{drop_all}
use Rattle.bb_layout.specs.Results.{result_and_then}
use Rattle.bb_layout.specs.declared.var.Var.{Var}
use Rattle.bb_state.proofs.Lists.{drop_next, take_next}
use Rattle.bb_words.specs.declared.command.Action.{Action}
use Rattle.bb_actions.specs.Actions.{Bound, Refuses, after, after_all, read_action, read_actions}
use Rattle.bb_actions.specs.declared.bound_action.BoundAction.{BoundAction}
use Rattle.bb_actions.specs.declared.error.ActionError.{ActionError}
use Rattle.bb_actions.specs.declared.error.ActionError.TheVariants.{Misfit, NoMemory}

-- ---- of those that are read

-- actions that are bound, and after them the rest
abbrev pub onto_bound : List BoundAction → Bound (List BoundAction) → Bound (List BoundAction)
onto_bound bound more = result_and_then (λ rest. Ok (bound ++ rest)) more

onto_more : (bound : List BoundAction) (next : BoundAction) (more : Bound (List BoundAction))
    → onto_bound bound (result_and_then (λ rest. Ok (next ∷ rest)) more) ≡ onto_bound (bound ++ next ∷ []) more
onto_more bound next (Ok rest) = ap Ok (sym (append_assoc bound (next ∷ []) rest))
onto_more bound next (Err misfit) = refl

-- the next doesn't fit
pub misfit_next : (vars : List Var) (bound : List BoundAction) (actions : List Action) (i : ℕ) (a : Action) (e : ActionError)
    → slice_get actions i ≡ Some a → read_actions vars actions ≡ onto_bound bound (read_actions vars (drop i actions))
    → Refuses (read_action vars a) e → Refuses (read_actions vars actions) e
misfit_next vars bound actions i a (Misfit name cause) there from refused =
    from ∙ ap (λ (l : List Action). onto_bound bound (read_actions vars l)) (drop_next actions i a there) ∙ rw refused refl
misfit_next vars bound actions i a NoMemory there from refused = tt

-- it fits
pub bound_next : (vars : List Var) (bound : List BoundAction) (actions : List Action) (i : ℕ) (a : Action) (next : BoundAction)
    → slice_get actions i ≡ Some a → read_action vars a ≡ Ok next
    → onto_bound bound (read_actions vars (drop i actions)) ≡ onto_bound (bound ++ next ∷ []) (read_actions vars (drop (i + 1) actions))
bound_next vars bound actions i a next there is =
    ap (λ (l : List Action). onto_bound bound (read_actions vars l)) (drop_next actions i a there)
    ∙ rw is (onto_more bound next (read_actions vars (drop (i + 1) actions)))

-- none is left
pub bound_all : (vars : List Var) (bound : List BoundAction) (actions : List Action) (i : ℕ) → length actions ≤ i
    → read_actions vars actions ≡ onto_bound bound (read_actions vars (drop i actions)) → read_actions vars actions ≡ Ok bound
bound_all vars bound actions i ends from =
    let all : onto_bound bound (Ok []) ≡ Ok bound = ap Ok (append-nil bound) in
    from ∙ ap (λ (l : List Action). onto_bound bound (read_actions vars l)) (drop_all i actions ends) ∙ all

-- ---- of those whose values are put

fold_more : (table : List ℕ) (actions : List BoundAction) (a : BoundAction) →
    fold after table (actions ++ a ∷ []) ≡ after (fold after table actions) a
fold_more table [] a = refl
fold_more table (b ∷ actions) a = fold_more (after table b) actions a

pub after_next : (table : List ℕ) (actions : List BoundAction) (i : ℕ) (a : BoundAction) → slice_get actions i ≡ Some a
    → after (after_all table (take i actions)) a ≡ after_all table (take (i + 1) actions)
after_next table actions i a there =
    sym (ap (after_all table) (take_next actions i a there) ∙ fold_more table (take i actions) a)
