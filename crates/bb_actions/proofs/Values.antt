-- The values that actions put.
use Rattle.std.proofs.Common.{◌≡◌, ℕ, ◌≤◌, List, [], ◌∷◌, All, Option, Some, None, Result, Ok, Err, IfOk, arith, ap, length, refl, slice_get, subst, sym, ◌∙◌}
use Rattle.std.proofs.lemmas.List.Elements.{All-cons, All-contains, All-head, All-nil, All-tail, All-weaker}
use Rattle.std.proofs.lemmas.List.Folds.{find_at}
use Rattle.std.proofs.lemmas.Option.{get_or_from_slice_get, slice_get-get_or, slice_get_within}
use Rattle.std.specs.List.{Contains, position_or_len}
use Rattle.std.specs.Option.{IsSome, ok_or, option_map_or}
use Rattle.std.specs.Result.{result_map_both, result_unwrap_or}
use Rattle.std.specs.Str.{bytes_eq}
use Rattle.bb_layout.proofs.Outside.{changes_joined, changes_none, put_changes}
use Rattle.bb_layout.specs.Facts.{AreVars}
use Rattle.bb_layout.specs.Outside.{ChangesVarsAlone}
use Rattle.bb_layout.specs.Ranges.{end_of}
use Rattle.bb_layout.specs.Results.{result_and_then}
use Rattle.bb_layout.specs.Variables.{IsWellFormed}
use Rattle.bb_layout.specs.declared.var.Var.{Var}
use Rattle.bb_state.specs.Named.{after_set, var_of}
use Rattle.bb_state.specs.declared.error.StateError.{StateError}
use Rattle.bb_state.specs.declared.error.StateError.TheVariants.{NoSuchVariable, Value}
use Rattle.bb_vars.proofs.Laws.{read_sized}
use Rattle.bb_vars.specs.Setting.{with_value}
use Rattle.bb_vars.specs.Table.{table_with}
use Rattle.bb_vars.specs.Value.{bytes_of}
use Rattle.bb_vars.specs.declared.value_error.ValueError.{ValueError}
use Rattle.bb_words.specs.declared.command.Action.{Action}
use Rattle.bb_words.specs.declared.command.Action.TheVariants as actions
use Rattle.bb_actions.specs.Actions.{AreBoundTo, Bound, FitsArea, IsBoundTo, after, after_all, put_into, read_action, read_actions}
use Rattle.bb_actions.specs.declared.bound_action.BoundAction.{BoundAction}
use Rattle.bb_actions.specs.declared.bound_action.BoundAction.TheVariants.{Put, Get, Dump, DumpShell}

-- ---- they are values of the layout's variables

var_among : (vars : List Var) (name : List ℕ) (v : Var) → var_of vars name ≡ Some v → Contains vars v
var_among vars name v is =
    let place = position_or_len (λ (w : Var). bytes_eq name w.name) vars in
    let there : slice_get vars place ≡ Some v = sym (find_at (λ (w : Var). bytes_eq name w.name) vars) ∙ is in
    (place, slice_get_within vars place v there, get_or_from_slice_get vars place v v there)

module _ (len : ℕ) (vars : List Var) (are : AreVars len vars) where
  put_bound : (name text : List ℕ) (v : Var) → Contains vars v → IfOk (put_into name text v) (IsBoundTo vars)
  put_bound name text v among = by (bytes_of v.kind text) refl
    where
      by : (r : Result (List ℕ) ValueError) → bytes_of v.kind text ≡ r
          → IfOk {E = List ℕ × StateError} (result_map_both (λ bytes. Put v.at bytes) (λ cause. (name, Value cause)) r) (IsBoundTo vars)
      by (Ok bytes) read =
          let formed : IsWellFormed v = All-contains IsWellFormed vars v are.each among in
          record { var = v; among = among; at_is = refl; sized = read_sized v.kind text bytes read ∙ sym formed.size }
      by (Err cause) read = tt

  action_bound : (action : Action) → IfOk (read_action vars action) (IsBoundTo vars)
  action_bound (actions.Set name text) = by (var_of vars name) refl
    where
      by : (o : Option Var) → var_of vars name ≡ o
          → IfOk {E = List ℕ × StateError} (result_and_then (put_into name text) (ok_or o (name, NoSuchVariable))) (IsBoundTo vars)
      by (Some v) is = put_bound name text v (var_among vars name v is)
      by None is = tt
  action_bound (actions.Get name) = by (var_of vars name) refl
    where
      by : (o : Option Var) → var_of vars name ≡ o
          → IfOk {E = List ℕ × StateError} (result_and_then (λ var. Ok (Get name)) (ok_or o (name, NoSuchVariable))) (IsBoundTo vars)
      by (Some v) is = subst (λ (o : Option Var). IsSome o) (sym is) refl
      by None is = tt
  action_bound actions.Dump = tt
  action_bound actions.DumpShell = tt

  onto : (r : Bound BoundAction) (rest : Bound (List BoundAction)) → IfOk r (IsBoundTo vars) → IfOk rest (AreBoundTo vars)
      → IfOk (result_and_then (λ x. result_and_then (λ xs. Ok (x ∷ xs)) rest) r) (AreBoundTo vars)
  onto (Ok x) (Ok xs) first later = All-cons (IsBoundTo vars) x xs first later
  onto (Ok x) (Err e) first later = tt
  onto (Err e) rest first later = tt

  all_bound : (actions : List Action) → IfOk (read_actions vars actions) (AreBoundTo vars)
  all_bound [] = All-nil (IsBoundTo vars)
  all_bound (a ∷ actions) =
      let later = all_bound actions in
      onto (read_action vars a) (read_actions vars actions) (action_bound a) later

  pub are_bound : (actions : List Action) (bound : List BoundAction) → read_actions vars actions ≡ Ok bound → AreBoundTo vars bound
  are_bound actions bound is = subst (λ r. IfOk r (AreBoundTo vars)) is (all_bound actions)

  -- so they end in the area
  bound_fits : (action : BoundAction) → IsBoundTo vars action → FitsArea len action
  bound_fits (Put at bytes) value =
      let inside : end_of value.var ≤ len = All-contains (λ (w : Var). end_of w ≤ len) vars value.var are.inside value.among in
      let at_is = value.at_is in
      let sized = value.sized in
      omega (arith, inside, at_is, sized)
  bound_fits (Get name) known = tt
  bound_fits Dump known = tt
  bound_fits DumpShell known = tt

  pub are_fitting : (actions : List BoundAction) → AreBoundTo vars actions → All (FitsArea len) actions
  are_fitting actions bound = All-weaker (IsBoundTo vars) (FitsArea len) bound_fits actions bound

-- ---- they change variables alone

put_alone : (vars : List Var) (area : List ℕ) (action : BoundAction) → IsBoundTo vars action → FitsArea (length area) action
    → ChangesVarsAlone vars area (after area action)
put_alone vars area (Put at bytes) value room =
    let place = value.among.0 in
    let there : slice_get vars place ≡ Some value.var =
    slice_get-get_or vars place value.var value.among.1 ∙ ap (λ v. Some v) value.among.2 in
    let at_is = value.at_is in
    let sized = value.sized in
    subst (λ n. ChangesVarsAlone vars area (table_with area n bytes)) (sym at_is)
    (put_changes vars place value.var area bytes there sized (omega (arith, room, at_is, sized)))
put_alone vars area (Get name) known room = changes_none vars area
put_alone vars area Dump known room = changes_none vars area
put_alone vars area DumpShell known room = changes_none vars area

pub put_all_alone : (vars : List Var) (area : List ℕ) (actions : List BoundAction) → AreBoundTo vars actions → All (FitsArea (length area)) actions
    → ChangesVarsAlone vars area (after_all area actions)
put_all_alone vars area [] bound room = changes_none vars area
put_all_alone vars area (a ∷ actions) bound room =
    let next = after area a in
    let first = put_alone vars area a (All-head (IsBoundTo vars) a actions bound) (All-head (FitsArea (length area)) a actions room) in
    let later =
    put_all_alone vars next actions (All-tail (IsBoundTo vars) a actions bound)
    (subst (λ n. All (FitsArea n) actions) (sym first.same_length) (All-tail (FitsArea (length area)) a actions room)) in
    changes_joined vars area next (after_all next actions) first later

-- ---- they are those of sets by name and text

pub put_is_set : (vars : List Var) (name text table : List ℕ)
    → IfOk (read_action vars (actions.Set name text)) (λ bound. after table bound ≡ after_set vars name text table)
put_is_set vars name text table = by_var (var_of vars name)
  where
    by_text : (at : ℕ) (r : Result (List ℕ) ValueError)
        → IfOk {E = List ℕ × StateError} (result_map_both (λ bytes. Put at bytes) (λ cause. (name, Value cause)) r)
        (λ bound. after table bound ≡ result_unwrap_or (result_map_both (λ bytes. table_with table at bytes) (λ cause. cause) r) table)
    by_text at (Ok bytes) = refl
    by_text at (Err cause) = tt

    by_var : (o : Option Var)
        → IfOk {E = List ℕ × StateError} (result_and_then (put_into name text) (ok_or o (name, NoSuchVariable)))
        (λ bound. after table bound ≡ option_map_or (λ v. result_unwrap_or (with_value v.kind v.at text table) table) o table)
    by_var (Some v) = by_text v.at (bytes_of v.kind text)
    by_var None = tt
