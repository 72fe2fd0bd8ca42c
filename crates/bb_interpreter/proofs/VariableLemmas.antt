-- The variables of a script's own, by where one stands.
use Rattle.std.proofs.Common.{◌≡◌, ◌<◌, ◌≤◌, ℕ, ◌+◌, Bool, true, false, List, [], ◌∷◌, ◌++◌, ap, arith, cond, get_or, length, map, not, refl, set, suc, sym, ◌∙◌}
use Rattle.std.specs.List.{prefix_len}
use Rattle.std.specs.Str.{bytes_eq}
use Rattle.bb_interpreter.specs.declared.variables.ScriptVariable.{ScriptVariable}
use Rattle.bb_interpreter.specs.Variables.{own_set, own_value, variable_pair}

abbrev place : List ScriptVariable → List ℕ → ℕ
place xs name = prefix_len (λ v. not (bytes_eq v.name name)) xs

-- where the first variable has the name, or hasn't
value_by : (b : Bool) (n : ℕ) (x : ScriptVariable) (xs : List ScriptVariable) (own : List ℕ)
    (d : ScriptVariable) → (n < length xs → own ≡ (get_or xs n d).value)
    → cond (not b) (1 + n) 0 < length (x ∷ xs)
    → cond b x.value own ≡ (get_or (x ∷ xs) (cond (not b) (1 + n) 0) d).value
value_by true n x xs own d later h = refl
value_by false n x xs own d later h =
    let e : 1 + n ≡ suc n = omega arith in
    later (omega (arith, h)) ∙ ap (λ k. (get_or (x ∷ xs) k d).value) (sym e)

pub value_here : (xs : List ScriptVariable) (name : List ℕ) (d : ScriptVariable)
    → place xs name < length xs
    → own_value (map variable_pair xs) name ≡ (get_or xs (place xs name) d).value
value_here [] name d h = absurd (omega (arith, h))
value_here (x ∷ xs) name d h =
    value_by (bytes_eq x.name name) (place xs name) x xs (own_value (map variable_pair xs) name) d
    (value_here xs name d) h

none_by : (b : Bool) (n : ℕ) (x : ScriptVariable) (xs : List ScriptVariable) (own : List ℕ)
    → (length xs ≤ n → own ≡ []) → length (x ∷ xs) ≤ cond (not b) (1 + n) 0
    → cond b x.value own ≡ []
none_by true n x xs own later h = absurd (omega (arith, h))
none_by false n x xs own later h = later (omega (arith, h))

pub no_value : (xs : List ScriptVariable) (name : List ℕ) → length xs ≤ place xs name
    → own_value (map variable_pair xs) name ≡ []
no_value [] name h = refl
no_value (x ∷ xs) name h =
    none_by (bytes_eq x.name name) (place xs name) x xs (own_value (map variable_pair xs) name)
    (no_value xs name) h

set_by : (b : Bool) (n : ℕ) (x y d : ScriptVariable) (xs : List ScriptVariable) (value : List ℕ)
    (own : List (List ℕ × List ℕ)) → y.value ≡ value
    → y.name ≡ (get_or (x ∷ xs) (cond (not b) (1 + n) 0) d).name
    → (n < length xs → y.name ≡ (get_or xs n d).name → map variable_pair (set xs n y) ≡ own)
    → cond (not b) (1 + n) 0 < length (x ∷ xs)
    → map variable_pair (set (x ∷ xs) (cond (not b) (1 + n) 0) y)
    ≡ cond b ((x.name, value) ∷ map variable_pair xs) (variable_pair x ∷ own)
set_by true n x y d xs value own same_value same_name later h =
    ap (λ v. (y.name, v) ∷ map variable_pair xs) same_value
    ∙ ap (λ k. (k, value) ∷ map variable_pair xs) same_name
set_by false n x y d xs value own same_value same_name later h =
    let e : 1 + n ≡ suc n = omega arith in
    ap (λ k. map variable_pair (set (x ∷ xs) k y)) e
    ∙ ap (λ l. variable_pair x ∷ l) (later (omega (arith, h)) (same_name ∙ ap (λ k. (get_or (x ∷ xs) k d).name) e))

pub set_here : (xs : List ScriptVariable) (name value : List ℕ) (y d : ScriptVariable)
    → place xs name < length xs → y.value ≡ value → y.name ≡ (get_or xs (place xs name) d).name
    → map variable_pair (set xs (place xs name) y) ≡ own_set (map variable_pair xs) name value
set_here [] name value y d h same_value same_name = absurd (omega (arith, h))
set_here (x ∷ xs) name value y d h same_value same_name =
    set_by (bytes_eq x.name name) (place xs name) x y d xs value (own_set (map variable_pair xs) name value) same_value same_name
    (λ within same. set_here xs name value y d within same_value same) h

new_by : (b : Bool) (n : ℕ) (x y : ScriptVariable) (xs : List ScriptVariable) (value : List ℕ)
    (own : List (List ℕ × List ℕ)) → (length xs ≤ n → map variable_pair (xs ++ y ∷ []) ≡ own)
    → length (x ∷ xs) ≤ cond (not b) (1 + n) 0
    → map variable_pair ((x ∷ xs) ++ y ∷ [])
    ≡ cond b ((x.name, value) ∷ map variable_pair xs) (variable_pair x ∷ own)
new_by true n x y xs value own later h = absurd (omega (arith, h))
new_by false n x y xs value own later h =
    ap (λ l. variable_pair x ∷ l) (later (omega (arith, h)))

pub set_new : (xs : List ScriptVariable) (name value : List ℕ) (y : ScriptVariable)
    → length xs ≤ place xs name → y.value ≡ value → y.name ≡ name
    → map variable_pair (xs ++ y ∷ []) ≡ own_set (map variable_pair xs) name value
set_new [] name value y h same_value same_name =
    ap (λ v. (y.name, v) ∷ []) same_value ∙ ap (λ k. (k, value) ∷ []) same_name
set_new (x ∷ xs) name value y h same_value same_name =
    new_by (bytes_eq x.name name) (place xs name) x y xs value (own_set (map variable_pair xs) name value)
    (λ past. set_new xs name value y past same_value same_name) h

-- the same, where the place was found in what was read
pub set_at : (xs ys : List ScriptVariable) (name value : List ℕ) (y d : ScriptVariable) (k : ℕ)
    → ys ≡ xs → k ≡ place ys name → k < length ys → y.value ≡ value → y.name ≡ (get_or xs k d).name
    → map variable_pair (set xs k y) ≡ own_set (map variable_pair xs) name value
set_at xs ys name value y d k same at within same_value same_name =
    let here : k ≡ place xs name = at ∙ ap (λ l. place l name) same in
    let len : length ys ≡ length xs = ap (λ (l : List ScriptVariable). length l) same in
    ap (λ n. map variable_pair (set xs n y)) here
    ∙ set_here xs name value y d (omega (arith, here, len, within)) same_value (same_name ∙ ap (λ n. (get_or xs n d).name) here)

pub set_past : (xs ys : List ScriptVariable) (name value : List ℕ) (y : ScriptVariable) (k : ℕ)
    → ys ≡ xs → k ≡ place ys name → length ys ≤ k → y.value ≡ value → y.name ≡ name
    → map variable_pair (xs ++ y ∷ []) ≡ own_set (map variable_pair xs) name value
set_past xs ys name value y k same at past same_value same_name =
    let here : k ≡ place xs name = at ∙ ap (λ l. place l name) same in
    let len : length ys ≡ length xs = ap (λ (l : List ScriptVariable). length l) same in
    set_new xs name value y (omega (arith, here, len, past)) same_value same_name
