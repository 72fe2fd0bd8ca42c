-- What is true of targets that were bound: their variables are in the area, and no two share a
-- byte.
use Rattle.std.proofs.Common.{◌≡◌, ◌≢◌, ℕ, zero, suc, ◌+◌, ◌<◌, ◌≤◌, ◌==◌, ◌||◌, Bool, true, false, List, [], ◌∷◌, ◌++◌, Option, Some, None, Result, Ok, Err, if◌then◌else◌, arith, codes, get_or, length, map, not, refl, slice_get, subst, sym, ap, ◌∙◌, inl, inr}
use Rattle.std.proofs.lemmas.Bool.{cases_lt, cases_order, eqb-true, false≢true}
use Rattle.std.proofs.lemmas.List.{append_cancel_left, append_cancel_right}
use Rattle.std.proofs.lemmas.List.Quantifiers.{position-Some}
use Rattle.std.proofs.lemmas.List.Sums.{passes_at_first, prefix_len-le-length, split_at_first}
use Rattle.std.proofs.lemmas.Option.{get_or_from_slice_get, slice_get_within}
use Rattle.std.proofs.lemmas.Slice.Eq.{bytes_eq-Decides}
use Rattle.std.specs.List.{after_first, before_first, list_any, position_or_len}
use Rattle.std.specs.Option.{option_and_then}
use Rattle.std.specs.Prelude.{unwrap_or}
use Rattle.std.specs.Str.{bytes_eq}
use Rattle.bb_layout.specs.Facts.{AreVars, ShareNoByte}
use Rattle.bb_layout.specs.Ranges.{end_of, some_pair}
use Rattle.bb_layout.specs.Results.{all_ok, result_and_then}
use Rattle.bb_layout.specs.VarNames.{place_of_var}
use Rattle.bb_layout.specs.Variables.{IsWellFormed}
use Rattle.bb_layout.specs.declared.var.Var.{Var}
use Rattle.bb_vars.specs.Kind.{size_of}
use Rattle.bb_vars.specs.declared.kind.Kind.{Kind}
use Rattle.bb_vars.specs.declared.kind.Kind.TheVariants.{Uint8, Uint32, Enum32, Mac, Chars}
use Rattle.bb_chooser.proofs.Reading.{none_among}
use Rattle.bb_chooser.proofs.Writing.{EachOf, PairsOf, each_both, each_map}
use Rattle.bb_chooser.specs.Binding.{IsBinding, IsInside, ShareNothing, StandApart, StandsAlone, attempts_name, bound_of, last_chosen_name, priority_name, uint32_at, uint32_in, variable_called}
use Rattle.bb_chooser.specs.Lines.{sides_at}
use Rattle.bb_chooser.specs.declared.bound_target.BoundTarget.{BoundTarget}
use Rattle.bb_chooser.specs.declared.rules.Rules.{Rules}
use Rattle.bb_chooser.specs.declared.settings_error.SettingsError.{SettingsError}
use Rattle.bb_chooser.specs.declared.target.Target.{Target}

-- ---- a variable that was found

some_is : {X : Type 0} (x y : X) → Some x ≡ Some y → x ≡ y
some_is x y h = ap (λ o. unwrap_or o x) h

abbrev value : {X : Type 0} → X → Result X SettingsError → X
value d (Ok v) = v
value d (Err e) = d

ok_is : {X : Type 0} (x y : X) (a b : Result X SettingsError) → a ≡ Ok x → b ≡ Ok y → a ≡ b → x ≡ y
ok_is x y a b p q h = ap (value x) (sym p ∙ h ∙ q)

sides_whole : (c : ℕ) (text : List ℕ) (p : List ℕ × List ℕ) → sides_at c text ≡ Some p → text ≡ p.0 ++ c ∷ p.1
sides_whole c text p h = by (list_any (λ b. b == c) text) refl
  where
    test : ℕ → Bool
    test b = b == c

    by : (b : Bool) → list_any (λ b. b == c) text ≡ b → text ≡ p.0 ++ c ∷ p.1
    by false e = let n : sides_at c text ≡ None = rw e refl in let g : None ≡ Some p = sym n ∙ h in cc
    by true e =
        let q : ℕ → Bool = λ b. b == c in
        let s : sides_at c text ≡ Some (before_first q text, after_first q text) = rw e refl in
        let same : (before_first q text, after_first q text) ≡ p = some_is (before_first q text, after_first q text) p (sym s ∙ h) in
        let inside : position_or_len q text < length text = elim (cases_lt (position_or_len q text) (length text)) [
          | inl l ↦ l
          | inr past ↦ absurd (false≢true (sym (none_among q text (let most = prefix_len-le-length (λ x. not (q x)) text in omega arith)) ∙ e))
        ] in
        let here : get_or text (position_or_len q text) c ≡ c = eqb-true (get_or text (position_or_len q text) c) c (passes_at_first q text c inside) in
        split_at_first q text c inside ∙ ap (λ x. before_first q text ++ x ∷ after_first q text) here ∙ ap (λ (r : List ℕ × List ℕ). r.0 ++ c ∷ r.1) same

pub record IsFound (layout : List ℕ) (vars : List Var) (full : List ℕ) (at : ℕ) : Type 0 where
  pub place : ℕ
  pub var : Var
  pub there : slice_get vars place ≡ Some var
  pub named : full ≡ layout ++ 46 ∷ var.name
  pub kind : var.kind ≡ Uint32
  pub at_is : var.at ≡ at

var_found : (layout : List ℕ) (vars : List Var) (full : List ℕ) (v : Var) → variable_called layout vars full ≡ Some v → (k : ℕ) × (slice_get vars k ≡ Some v) × (full ≡ layout ++ 46 ∷ v.name)
var_found layout vars full v h = by_parts (sides_at 46 full) refl
  where
    by_place : (p : List ℕ × List ℕ) (o : Option ℕ) → full ≡ layout ++ 46 ∷ p.1 → place_of_var vars p.1 ≡ o → option_and_then (slice_get vars) o ≡ Some v → (k : ℕ) × (slice_get vars k ≡ Some v) × (full ≡ layout ++ 46 ∷ v.name)
    by_place p None whole e g = cc
    by_place p (Some k) whole e g =
        let hit = (position-Some (λ (w : Var). bytes_eq p.1 w.name) vars k v e).1 in
        let is : get_or vars k v ≡ v = get_or_from_slice_get vars k v v g in
        let name : p.1 ≡ v.name = (bytes_eq-Decides p.1 v.name).0 (ap (λ (w : Var). bytes_eq p.1 w.name) (sym is) ∙ hit) in
        (k, g, whole ∙ ap (λ (n : List ℕ). layout ++ 46 ∷ n) name)

    by_layout : (p : List ℕ × List ℕ) (b : Bool) → sides_at 46 full ≡ Some p → bytes_eq p.0 layout ≡ b → (if b then option_and_then (slice_get vars) (place_of_var vars p.1) else None) ≡ Some v → (k : ℕ) × (slice_get vars k ≡ Some v) × (full ≡ layout ++ 46 ∷ v.name)
    by_layout p false parts e g = cc
    by_layout p true parts e g =
        let same : p.0 ≡ layout = (bytes_eq-Decides p.0 layout).0 e in
        by_place p (place_of_var vars p.1) (sides_whole 46 full p parts ∙ ap (λ (n : List ℕ). n ++ 46 ∷ p.1) same) refl g

    by_parts : (o : Option (List ℕ × List ℕ)) → sides_at 46 full ≡ o → (k : ℕ) × (slice_get vars k ≡ Some v) × (full ≡ layout ++ 46 ∷ v.name)
    by_parts None e = let g : variable_called layout vars full ≡ None = rw e refl in let f : None ≡ Some v = sym g ∙ h in cc
    by_parts (Some p) e =
        let g : variable_called layout vars full ≡ (if bytes_eq p.0 layout then option_and_then (slice_get vars) (place_of_var vars p.1) else None) = rw e refl in
        by_layout p (bytes_eq p.0 layout) e refl (sym g ∙ h)

uint32_kind : (full : List ℕ) (v : Var) (at : ℕ) (k : Kind) → v.kind ≡ k → uint32_in full (Some v) ≡ Ok at → (v.kind ≡ Uint32) × (v.at ≡ at)
uint32_kind full v at Uint32 e h = (e, ok_is v.at at _ _ refl refl (sym (rw e refl) ∙ h))
uint32_kind full v at Uint8 e h = let g = rw e at h in cc
uint32_kind full v at (Enum32 names) e h = let g = rw e at h in cc
uint32_kind full v at Mac e h = let g = rw e at h in cc
uint32_kind full v at (Chars size) e h = let g = rw e at h in cc

pub found : (layout : List ℕ) (vars : List Var) (full : List ℕ) (at : ℕ) → uint32_at layout vars full ≡ Ok at → IsFound layout vars full at
found layout vars full at h = by (variable_called layout vars full) refl
  where
    by : (o : Option Var) → variable_called layout vars full ≡ o → IsFound layout vars full at
    by None e = let g : uint32_at layout vars full ≡ uint32_in full None = ap (uint32_in full) e in let f : uint32_in full None ≡ Ok at = sym g ∙ h in cc
    by (Some v) e =
        let at_v = var_found layout vars full v e in
        let fits = uint32_kind full v at v.kind refl (sym (ap (uint32_in full) e) ∙ h) in
        record { place = at_v.0; var = v; there = at_v.1; named = at_v.2; kind = fits.0; at_is = fits.1 }

uint32_end : (area_len : ℕ) (vars : List Var) (k : ℕ) (v : Var) → AreVars area_len vars → slice_get vars k ≡ Some v → v.kind ≡ Uint32 → end_of v ≡ v.at + 4
uint32_end area_len vars k v are there kind =
    let formed : IsWellFormed v = subst IsWellFormed (get_or_from_slice_get vars k v v there) (are.each k v (slice_get_within vars k v there)) in
    let size : v.size ≡ 4 = formed.size ∙ ap size_of kind in
    ap (λ n. v.at + n) size

module _ (area_len : ℕ) (layout : List ℕ) (vars : List Var) (are : AreVars area_len vars) where
  pub found_inside : (full : List ℕ) (at : ℕ) → IsFound layout vars full at → at + 4 ≤ area_len
  found_inside full at f =
      let v = f.var in
      let end = uint32_end area_len vars f.place v are f.there f.kind in
      let inside : end_of v ≤ area_len =
      subst (λ (w : Var). end_of w ≤ area_len) (get_or_from_slice_get vars f.place v v f.there) (are.inside f.place v (slice_get_within vars f.place v f.there)) in
      omega (arith, end, inside, f.at_is)

  found_before : (a b : List ℕ) (p q : ℕ) (f : IsFound layout vars a p) (g : IsFound layout vars b q) → f.place < g.place → ShareNothing p q
  found_before a b p q f g before =
      let v = f.var in
      let w = g.var in
      let inside = slice_get_within vars g.place w g.there in
      let v_is : get_or vars f.place v ≡ v = get_or_from_slice_get vars f.place v v f.there in
      let w_is : get_or vars g.place v ≡ w = get_or_from_slice_get vars g.place w v g.there in
      let apart : ShareNoByte v w = subst (λ (x : Var). ShareNoByte v x) w_is (subst (λ (x : Var). ShareNoByte x (get_or vars g.place v)) v_is (are.apart f.place g.place v before inside)) in
      let v_end = uint32_end area_len vars f.place v are f.there f.kind in
      let w_end = uint32_end area_len vars g.place w are g.there g.kind in
      let v_at = f.at_is in
      let w_at = g.at_is in
      λ k l m n o. apart k (omega arith) (omega arith) (omega arith) (omega arith)

  -- two variables of other names share no byte
  pub found_apart : (a b : List ℕ) (p q : ℕ) → IsFound layout vars a p → IsFound layout vars b q → a ≢ b → ShareNothing p q
  found_apart a b p q f g differ =
      elim (cases_order f.place g.place) [
        | inl e ↦
            let same : f.var ≡ g.var = some_is f.var g.var (sym f.there ∙ ap (slice_get vars) e ∙ g.there) in
            absurd (differ (f.named ∙ ap (λ (x : Var). layout ++ 46 ∷ x.name) same ∙ sym g.named))
        | inr r ↦ elim r [
          | inl l ↦ found_before a b p q f g l
          | inr l ↦ λ k s t u v. found_before b a q p g f l k u v s t
        ]
      ]

-- ---- names of variables differ

last_of : ℕ → List ℕ → ℕ
last_of d [] = d
last_of d (x ∷ xs) = last_of x xs

last_append : (d : ℕ) (xs : List ℕ) (y : ℕ) (ys : List ℕ) → last_of d (xs ++ y ∷ ys) ≡ last_of y ys
unfolding last_of
last_append d [] y ys = refl
last_append d (x ∷ xs) y ys = last_append x xs y ys

attempts_end : (prefix name : List ℕ) → last_of 0 (attempts_name prefix name) ≡ 115
unfolding last_of
attempts_end prefix name = last_append 0 prefix 46 (name ++ codes ".remaining_attempts") ∙ last_append 46 name 46 (codes "remaining_attempts")

priority_end : (prefix name : List ℕ) → last_of 0 (priority_name prefix name) ≡ 121
unfolding last_of
priority_end prefix name = last_append 0 prefix 46 (name ++ codes ".priority") ∙ last_append 46 name 46 (codes "priority")

last_chosen_end : (prefix : List ℕ) → last_of 0 (last_chosen_name prefix) ≡ 110
unfolding last_of
last_chosen_end prefix = last_append 0 prefix 46 (codes "last_chosen")

other_ends : (a b : List ℕ) (m n : ℕ) → last_of 0 a ≡ m → last_of 0 b ≡ n → (m ≡ n → ⊥) → a ≢ b
other_ends a b m n am bn differ e = differ (sym am ∙ ap (last_of 0) e ∙ bn)

tail_of : List ℕ → List ℕ
tail_of [] = []
tail_of (x ∷ xs) = xs

tail_is : (x : ℕ) (xs ys : List ℕ) → x ∷ xs ≡ x ∷ ys → xs ≡ ys
unfolding tail_of
tail_is x xs ys h = ap tail_of h

attempts_differ : (prefix a b : List ℕ) → a ≢ b → attempts_name prefix a ≢ attempts_name prefix b
attempts_differ prefix a b differ e =
    differ (append_cancel_right a b (codes ".remaining_attempts") (tail_is 46 (a ++ codes ".remaining_attempts") (b ++ codes ".remaining_attempts")
    (append_cancel_left prefix (46 ∷ (a ++ codes ".remaining_attempts")) (46 ∷ (b ++ codes ".remaining_attempts")) e)))

priority_differ : (prefix a b : List ℕ) → a ≢ b → priority_name prefix a ≢ priority_name prefix b
priority_differ prefix a b differ e =
    differ (append_cancel_right a b (codes ".priority") (tail_is 46 (a ++ codes ".priority") (b ++ codes ".priority")
    (append_cancel_left prefix (46 ∷ (a ++ codes ".priority")) (46 ∷ (b ++ codes ".priority")) e)))

-- ---- targets

pub record IsBoundAt (layout : List ℕ) (vars : List Var) (prefix : List ℕ) (t : BoundTarget) : Type 0 where
  pub attempts : IsFound layout vars (attempts_name prefix t.target.name) t.attempts_at
  pub priority : IsFound layout vars (priority_name prefix t.target.name) t.priority_at

bound_is : (layout : List ℕ) (vars : List Var) (prefix : List ℕ) (target : Target) (t : BoundTarget) → bound_of layout vars prefix target ≡ Ok t → IsBoundAt layout vars prefix t × (t.target ≡ target)
bound_is layout vars prefix target t h = by_attempts (uint32_at layout vars (attempts_name prefix target.name)) refl
  where
    made : ℕ → ℕ → BoundTarget
    made p q = record { target = target; attempts_at = p; priority_at = q }

    then_priority : ℕ → Result ℕ SettingsError → Result BoundTarget SettingsError
    then_priority p r = result_and_then (λ q. Ok (made p q)) r

    by_priority : (p : ℕ) (r : Result ℕ SettingsError) → uint32_at layout vars (attempts_name prefix target.name) ≡ Ok p → uint32_at layout vars (priority_name prefix target.name) ≡ r
        → result_and_then (λ q. Ok (record { target = target; attempts_at = p; priority_at = q })) r ≡ Ok t → IsBoundAt layout vars prefix t × (t.target ≡ target)
    by_priority p (Err e) a b g = cc
    by_priority p (Ok q) a b g =
        let bound : BoundTarget = record { target = target; attempts_at = p; priority_at = q } in
        let is : bound ≡ t = ok_is bound t _ _ refl refl g in
        let at : IsBoundAt layout vars prefix bound = record { attempts = found layout vars (attempts_name prefix target.name) p a; priority = found layout vars (priority_name prefix target.name) q b } in
        (subst (IsBoundAt layout vars prefix) is at, ap (λ (u : BoundTarget). u.target) (sym is))

    by_attempts : (r : Result ℕ SettingsError) → uint32_at layout vars (attempts_name prefix target.name) ≡ r → IsBoundAt layout vars prefix t × (t.target ≡ target)
    by_attempts (Err e) a = let g : bound_of layout vars prefix target ≡ Err e = rw a refl in let f : Err e ≡ Ok t = sym g ∙ h in cc
    by_attempts (Ok p) a =
        let g : bound_of layout vars prefix target ≡ result_and_then (λ q. Ok (record { target = target; attempts_at = p; priority_at = q })) (uint32_at layout vars (priority_name prefix target.name)) = rw a refl in
        by_priority p (uint32_at layout vars (priority_name prefix target.name)) a refl (sym g ∙ h)

pub all_bound : (layout : List ℕ) (vars : List Var) (prefix : List ℕ) (targets : List Target) (ts : List BoundTarget) → all_ok (map (bound_of layout vars prefix) targets) ≡ Ok ts
    → EachOf (IsBoundAt layout vars prefix) ts × (map (λ t. t.target.name) ts ≡ map (λ t. t.name) targets)
all_bound layout vars prefix [] ts h = let e : [] ≡ ts = ok_is [] ts _ _ refl refl h in subst (λ (l : List BoundTarget). EachOf (IsBoundAt layout vars prefix) l × (map (λ t. t.target.name) l ≡ [])) e (tt, refl)
all_bound layout vars prefix (target ∷ targets) ts h = by (bound_of layout vars prefix target) refl (all_bound layout vars prefix targets)
  where
    Goal : List BoundTarget → Type 0
    Goal l = EachOf (IsBoundAt layout vars prefix) l × (map (λ t. t.target.name) l ≡ target.name ∷ map (λ t. t.name) targets)

    by_rest : (t : BoundTarget) (r : Result (List BoundTarget) SettingsError) → bound_of layout vars prefix target ≡ Ok t → all_ok (map (bound_of layout vars prefix) targets) ≡ r
        → result_and_then (λ xs. Ok (t ∷ xs)) r ≡ Ok ts
        → ((us : List BoundTarget) → all_ok (map (bound_of layout vars prefix) targets) ≡ Ok us → EachOf (IsBoundAt layout vars prefix) us × (map (λ t. t.target.name) us ≡ map (λ t. t.name) targets))
        → EachOf (IsBoundAt layout vars prefix) ts × (map (λ t. t.target.name) ts ≡ target.name ∷ map (λ t. t.name) targets)
    by_rest t (Err e) a b g again = cc
    by_rest t (Ok us) a b g again =
        let is : t ∷ us ≡ ts = ok_is (t ∷ us) ts _ _ refl refl g in
        let rest = again us b in
        let here = bound_is layout vars prefix target t a in
        subst (λ (l : List BoundTarget). EachOf (IsBoundAt layout vars prefix) l × (map (λ t. t.target.name) l ≡ target.name ∷ map (λ t. t.name) targets)) is
        ((here.0, rest.0), λ j. (here.1 j).name ∷ rest.1 j)

    by : (r : Result BoundTarget SettingsError) → bound_of layout vars prefix target ≡ r
        → ((us : List BoundTarget) → all_ok (map (bound_of layout vars prefix) targets) ≡ Ok us → EachOf (IsBoundAt layout vars prefix) us × (map (λ t. t.target.name) us ≡ map (λ t. t.name) targets))
        → EachOf (IsBoundAt layout vars prefix) ts × (map (λ t. t.target.name) ts ≡ target.name ∷ map (λ t. t.name) targets)
    by (Err e) a again = let g : all_ok (map (bound_of layout vars prefix) (target ∷ targets)) ≡ Err e = rw a refl in let f : Err e ≡ Ok ts = sym g ∙ h in cc
    by (Ok t) a again =
        let g : all_ok (map (bound_of layout vars prefix) (target ∷ targets)) ≡ result_and_then (λ xs. Ok (t ∷ xs)) (all_ok (map (bound_of layout vars prefix) targets)) = rw a refl in
        by_rest t (all_ok (map (bound_of layout vars prefix) targets)) a refl (sym g ∙ h) again

-- ---- back from recursion

pub all_from : (P : BoundTarget → Type 0) (ts : List BoundTarget) → EachOf P ts → (i : ℕ) (d : BoundTarget) → i < length ts → P (get_or ts i d)
all_from P [] h i d l = absurd (omega arith)
all_from P (t ∷ ts) h zero d l = h.0
all_from P (t ∷ ts) h (suc i) d l = all_from P ts h.1 i d (omega arith)

pairs_from : (R : BoundTarget → BoundTarget → Type 0) (ts : List BoundTarget) → PairsOf R ts → (i j : ℕ) (d : BoundTarget) → i < j → j < length ts → R (get_or ts i d) (get_or ts j d)
pairs_from R [] h i j d b l = absurd (omega arith)
pairs_from R (t ∷ ts) h zero zero d b l = absurd (omega arith)
pairs_from R (t ∷ ts) h zero (suc j) d b l = all_from (R t) ts h.0 j d (omega arith)
pairs_from R (t ∷ ts) h (suc i) zero d b l = absurd (omega arith)
pairs_from R (t ∷ ts) h (suc i) (suc j) d b l = pairs_from R ts h.1 i j d (omega arith) (omega arith)

-- ---- names of targets that differ

or_parts : (a b : Bool) → (a || b) ≡ false → (a ≡ false) × (b ≡ false)
or_parts false b h = (refl, h)
or_parts true b h = absurd (false≢true (sym h))

not_same : (a b : List ℕ) → bytes_eq a b ≡ false → a ≢ b
not_same a b h e = false≢true (sym h ∙ (bytes_eq-Decides a b).1 e)

each_differs : (name : List ℕ) (ts : List BoundTarget) → list_any (bytes_eq name) (map (λ t. t.target.name) ts) ≡ false → EachOf (λ u. name ≢ u.target.name) ts
each_differs name [] h = tt
each_differs name (t ∷ ts) h =
    let parts = or_parts (bytes_eq name t.target.name) (list_any (bytes_eq name) (map (λ t. t.target.name) ts)) h in
    (not_same name t.target.name parts.0, each_differs name ts parts.1)

pairs_differ : (ts : List BoundTarget) → some_pair bytes_eq (map (λ t. t.target.name) ts) ≡ false → PairsOf (λ t u. t.target.name ≢ u.target.name) ts
pairs_differ [] h = tt
pairs_differ (t ∷ ts) h =
    let names = map (λ (u : BoundTarget). u.target.name) ts in
    let parts = or_parts (list_any (bytes_eq t.target.name) names) (some_pair bytes_eq names) h in
    (each_differs t.target.name ts parts.0, pairs_differ ts parts.1)

-- ---- what is true of every chooser

module _ (area_len : ℕ) (layout : List ℕ) (vars : List Var) (are : AreVars area_len vars) (prefix : List ℕ) where
  stand : (t u : BoundTarget) → IsBoundAt layout vars prefix t → IsBoundAt layout vars prefix u → t.target.name ≢ u.target.name → StandApart t u
  stand t u a b differ =
      let m = t.target.name in
      let n = u.target.name in
      let apart = found_apart area_len layout vars are in
      record {
        attempts = apart (attempts_name prefix m) (attempts_name prefix n) t.attempts_at u.attempts_at a.attempts b.attempts (attempts_differ prefix m n differ);
        priorities = apart (priority_name prefix m) (priority_name prefix n) t.priority_at u.priority_at a.priority b.priority (priority_differ prefix m n differ);
        first_attempts = apart (attempts_name prefix m) (priority_name prefix n) t.attempts_at u.priority_at a.attempts b.priority
            (other_ends (attempts_name prefix m) (priority_name prefix n) 115 121 (attempts_end prefix m) (priority_end prefix n) (λ e. omega arith));
        second_attempts = apart (attempts_name prefix n) (priority_name prefix m) u.attempts_at t.priority_at b.attempts a.priority
            (other_ends (attempts_name prefix n) (priority_name prefix m) 115 121 (attempts_end prefix n) (priority_end prefix m) (λ e. omega arith));
      }

  stand_all : (ts : List BoundTarget) → EachOf (IsBoundAt layout vars prefix) ts → PairsOf (λ t u. t.target.name ≢ u.target.name) ts → PairsOf StandApart ts
  stand_all [] h g = tt
  stand_all (t ∷ ts) h g =
      (each_both (IsBoundAt layout vars prefix) (λ u. t.target.name ≢ u.target.name) (StandApart t) ts (λ u b d. stand t u h.0 b d) h.1 g.0, stand_all ts h.1 g.1)

  alone : (last : ℕ) (t : BoundTarget) → IsFound layout vars (last_chosen_name prefix) last → IsBoundAt layout vars prefix t → StandsAlone last t
  alone last t f a =
      let m = t.target.name in
      let apart = found_apart area_len layout vars are in
      record {
        own = apart (attempts_name prefix m) (priority_name prefix m) t.attempts_at t.priority_at a.attempts a.priority
            (other_ends (attempts_name prefix m) (priority_name prefix m) 115 121 (attempts_end prefix m) (priority_end prefix m) (λ e. omega arith));
        attempts = apart (attempts_name prefix m) (last_chosen_name prefix) t.attempts_at last a.attempts f
            (other_ends (attempts_name prefix m) (last_chosen_name prefix) 115 110 (attempts_end prefix m) (last_chosen_end prefix) (λ e. omega arith));
        priority = apart (priority_name prefix m) (last_chosen_name prefix) t.priority_at last a.priority f
            (other_ends (priority_name prefix m) (last_chosen_name prefix) 121 110 (priority_end prefix m) (last_chosen_end prefix) (λ e. omega arith));
      }

  room : (t : BoundTarget) → IsBoundAt layout vars prefix t → IsInside area_len t
  room t a = record {
    attempts = found_inside area_len layout vars are (attempts_name prefix t.target.name) t.attempts_at a.attempts;
    priority = found_inside area_len layout vars are (priority_name prefix t.target.name) t.priority_at a.priority;
  }

  pub binding_is : (rules : Rules) (targets : List Target) (ts : List BoundTarget) (last : ℕ) → area_len ≤ 65535 → some_pair bytes_eq (map (λ t. t.name) targets) ≡ false
      → all_ok (map (bound_of layout vars prefix) targets) ≡ Ok ts → uint32_at layout vars (last_chosen_name prefix) ≡ Ok last
      → IsBinding (record { targets = ts; rules = rules; last_chosen_at = last; area_len = area_len })
  binding_is rules targets ts last most differ bound at =
      let all = all_bound layout vars prefix targets ts bound in
      let f = found layout vars (last_chosen_name prefix) last at in
      record {
        area_most = most;
        last_inside = found_inside area_len layout vars are (last_chosen_name prefix) last f;
        each_inside = all_from (IsInside area_len) ts (each_map (IsBoundAt layout vars prefix) (IsInside area_len) ts room all.0);
        each_alone = all_from (StandsAlone last) ts (each_map (IsBoundAt layout vars prefix) (StandsAlone last) ts (λ t. alone last t f) all.0);
        pairs_apart = pairs_from StandApart ts (stand_all ts all.0 (pairs_differ ts (ap (some_pair bytes_eq) all.1 ∙ differ)));
      }
