-- Names of a state's variables, and what they hold.
use Rattle.std.proofs.Common.{◌≡◌, ◌≢◌, ℕ, ◌<◌, ◌≤◌, ◌&&◌, suc, zero, true, false, List, [], ◌∷◌, ◌++◌, drop, length, take, Option, Some, None, Result, Ok, Err, IfErr, OnErr, OnOk, IsUtf8, ap, arith, cond, is_ok, inl, inr, refl, subst, sym, ◌∙◌}
use Rattle.std.proofs.lemmas.Bool.{cases_Bool, false≢true}
use Rattle.std.proofs.lemmas.Slice.Eq.{bytes_eq-Decides}
use Rattle.std.proofs.lemmas.Str.{IsUtf8-from_is_utf8, is_utf8-from_IsUtf8}
use Rattle.std.specs.Option.{option_map_or}
use Rattle.std.specs.Prelude.{is_none}
use Rattle.std.specs.Result.{result_map_both}
use Rattle.std.specs.Str.{bytes_eq, is_utf8}
use Rattle.bb_layout.specs.declared.var.Var.{Var}
use Rattle.bb_state.specs.Lines.{printed_value}
use Rattle.bb_state.specs.Named.{Refuses, after_set, refusal_for, text_for, var_of}
use Rattle.bb_state.specs.declared.error.StateError.{StateError}
use Rattle.bb_state.specs.declared.error.StateError.TheVariants.{NoMemory, NoSuchVariable}
use Rattle.bb_script_commands.specs.StateNames.{after_dot, below_layout, table_set, value_text}

-- a text that is no UTF-8
pub not_utf8 : (text : List ℕ) → (IsUtf8 text → ⊥) → is_utf8 text ≡ false
not_utf8 text h = elim (cases_Bool (is_utf8 text)) [
  | inl e ↦ absurd (h (IsUtf8-from_is_utf8 text e))
  | inr e ↦ e
]

-- ---- names

take_short : (n : ℕ) (xs : List ℕ) → length xs < n → length (take n xs) < n
take_short n xs h = omega (arith, h, take_most n xs)
  where
    take_most : (k : ℕ) (ys : List ℕ) → length (take k ys) ≤ length ys
    take_most zero ys = omega arith
    take_most (suc k) [] = omega arith
    take_most (suc k) (y ∷ ys) = omega (arith, take_most k ys)

-- a name that is shorter than the layout's
pub too_short : (layout name : List ℕ) → length name < length layout → below_layout layout name ≡ None
too_short layout name h =
    elim (cases_Bool (bytes_eq (take (length layout) name) layout)) [
      | inl e ↦
          let same : take (length layout) name ≡ layout = (bytes_eq-Decides (take (length layout) name) layout).0 e in
          let short = take_short (length layout) name h in
          let len : length (take (length layout) name) ≡ length layout = ap (λ (l : List ℕ). length l) same in
          absurd (omega (arith, short, len))
      | inr e ↦ ap (λ b. cond b (after_dot (drop (length layout) name)) None) e
    ]

pub below_other : (layout name : List ℕ) → bytes_eq (take (length layout) name) layout ≡ false → below_layout layout name ≡ None
below_other layout name e = ap (λ b. cond b (after_dot (drop (length layout) name)) None) e

pub below_same : (layout name : List ℕ) → bytes_eq (take (length layout) name) layout ≡ true → below_layout layout name ≡ after_dot (drop (length layout) name)
below_same layout name e = ap (λ b. cond b (after_dot (drop (length layout) name)) None) e

-- ---- values

pub value_no_text : (vars : List Var) (table name : List ℕ) → is_utf8 name ≡ false → value_text vars table name ≡ []
value_no_text vars table name e = ap (λ b. option_map_or (λ v. printed_value table v) (cond b (var_of vars name) None) []) e

value_var : (vars : List Var) (table name : List ℕ) → is_utf8 name ≡ true
    → value_text vars table name ≡ option_map_or (λ v. printed_value table v) (var_of vars name) []
value_var vars table name e = ap (λ b. option_map_or (λ v. printed_value table v) (cond b (var_of vars name) None) []) e

ok_is : (one two : List ℕ) → ◌≡◌ {A = Result (List ℕ) StateError} (Ok one) (Ok two) → one ≡ two
ok_is one two p = cc

pub value_got : (vars : List Var) (table name old new : List ℕ) → IsUtf8 name → old ≡ []
    → result_map_both (λ text. old ++ text) (λ (e : StateError). e) (text_for vars name table) ≡ Ok new → new ≡ value_text vars table name
value_got vars table name old new utf8 none is = by (var_of vars name) refl is
  where
    by : (v : Option Var) → var_of vars name ≡ v
        → result_map_both (λ text. old ++ text) (λ (e : StateError). e) (option_map_or (λ v. Ok (printed_value table v)) v (Err NoSuchVariable)) ≡ Ok new
        → new ≡ value_text vars table name
    by None e h = absurd (err_ok NoSuchVariable new h)
      where
        err_ok : (x : StateError) (y : List ℕ) → ◌≡◌ {A = Result (List ℕ) StateError} (Err x) (Ok y) → ⊥
        err_ok x y p = cc
    by (Some v) e h =
        sym (ok_is (old ++ printed_value table v) new h)
        ∙ ap (λ l. l ++ printed_value table v) none
        ∙ sym (value_var vars table name (is_utf8-from_IsUtf8 name utf8) ∙ ap (λ o. option_map_or (λ w. printed_value table w) o []) e)

-- the same, by a copy of the name
pub value_found : (vars : List Var) (table name spelt old new : List ℕ) → IsUtf8 name → spelt ≡ name → old ≡ []
    → result_map_both (λ text. old ++ text) (λ (e : StateError). e) (text_for vars spelt table) ≡ Ok new → new ≡ value_text vars table name
value_found vars table name spelt old new utf8 same none is =
    value_got vars table name old new utf8 none
    (subst (λ n. result_map_both (λ text. old ++ text) (λ (e : StateError). e) (text_for vars n table) ≡ Ok new) same is)

pub value_refused : (vars : List Var) (table name : List ℕ) (e : StateError) → IsUtf8 name → e ≢ NoMemory → Refuses (text_for vars name table) e
    → value_text vars table name ≡ []
value_refused vars table name e utf8 other refused = by (var_of vars name) refl (refused other)
  where
    by : (v : Option Var) → var_of vars name ≡ v → option_map_or (λ v. Ok (printed_value table v)) v (Err NoSuchVariable) ≡ Err e → value_text vars table name ≡ []
    by None is h = value_var vars table name (is_utf8-from_IsUtf8 name utf8) ∙ ap (λ o. option_map_or (λ w. printed_value table w) o []) is
    by (Some v) is h = absurd (ok_err (printed_value table v) e h)
      where
        ok_err : (x : List ℕ) (y : StateError) → ◌≡◌ {A = Result (List ℕ) StateError} (Ok x) (Err y) → ⊥
        ok_err x y p = cc

-- ---- sets

pub set_no_text : (vars : List Var) (table name value : List ℕ) → is_utf8 name ≡ false → table_set vars table name value ≡ None
set_no_text vars table name value e =
    ap (λ b. cond (b && is_none (refusal_for vars name value)) (Some (after_set vars name value table)) None) e

set_text : (vars : List Var) (table name value : List ℕ) → is_utf8 name ≡ true
    → table_set vars table name value ≡ cond (is_none (refusal_for vars name value)) (Some (after_set vars name value table)) None
set_text vars table name value e =
    ap (λ b. cond (b && is_none (refusal_for vars name value)) (Some (after_set vars name value table)) None) e

pub set_done : (vars : List Var) (table name value : List ℕ) → IsUtf8 name → refusal_for vars name value ≡ None
    → table_set vars table name value ≡ Some (after_set vars name value table)
set_done vars table name value utf8 none =
    set_text vars table name value (is_utf8-from_IsUtf8 name utf8)
    ∙ ap (λ (o : Option StateError). cond (is_none o) (Some (after_set vars name value table)) None) none

pub set_refused : (vars : List Var) (table name value : List ℕ) (e : StateError) → IsUtf8 name → refusal_for vars name value ≡ Some e
    → table_set vars table name value ≡ None
set_refused vars table name value e utf8 some =
    set_text vars table name value (is_utf8-from_IsUtf8 name utf8)
    ∙ ap (λ (o : Option StateError). cond (is_none o) (Some (after_set vars name value table)) None) some

-- a variable that was set, by what the state answered
pub set_so : {X : Type 0} (vars : List Var) (table name spelt value new : List ℕ) (answer : Result X StateError) → IsUtf8 name → spelt ≡ name
    → new ≡ after_set vars spelt value table → OnOk answer (refusal_for vars spelt value ≡ None)
    → IfErr answer (λ e. refusal_for vars spelt value ≡ Some e) → cond (is_ok answer) (Some new) None ≡ table_set vars table name value
set_so vars table name spelt value new (Ok x) utf8 same is none refused =
    ap Some (is ∙ ap (λ n. after_set vars n value table) same)
    ∙ sym (set_done vars table name value utf8 (subst (λ n. refusal_for vars n value ≡ None) same none))
set_so vars table name spelt value new (Err e) utf8 same is none refused =
    sym (set_refused vars table name value e utf8 (subst (λ n. refusal_for vars n value ≡ Some e) same refused))

-- and one that was refused
pub set_same : {X : Type 0} (old new : List ℕ) (answer : Result X StateError) → OnErr answer (new ≡ old) → is_ok answer ≡ false → new ≡ old
set_same old new (Ok x) same refused = absurd (false≢true (sym refused))
set_same old new (Err e) same refused = same
