-- The names in a folder are those that begin with the folder's name and a `/`, cut after it, and
-- they rise.
use Rattle.std.proofs.Common.{◌≡◌, ℕ, zero, suc, ◌+◌, ◌<◌, Bool, true, false, ◌&&◌, ◌==◌, T, List, [], ◌∷◌, ◌++◌, length, get_or, take, drop, map, filter_map, Option, Some, None, IfSome, is_some, unwrap_or, Ordering, Less, Equal, Greater, refl, sym, ap, ap₂, subst, ◌∙◌, arith, eqb-true, take-append-drop, if◌then◌else◌}
use Rattle.std.specs.Cmp.{nat_cmp_total, tied_itself}
use Rattle.std.specs.Cmp.Lexicographic.{slice_cmp}
use Rattle.std.specs.FinMap.{entries, entries_sorted, is_sorted}
use Rattle.std.specs.FinMap.Entries.{below_all}
use Rattle.std.specs.List.{AllByRecursion, cons_option}
use Rattle.std.specs.List.Sorted.{IsStrictlySortedBy}
use Rattle.std.specs.Option.{option_map, option_and_then}
use Rattle.std.specs.Ordering.{nat_cmp, ordering_then, is_lt}
use Rattle.std.specs.Path.{rfind_below, rsplit_once, slash}
use Rattle.std.specs.Str.{bytes_eq}
use Rattle.std.proofs.lemmas.Bool.{cond_both}
use Rattle.std.proofs.lemmas.List.{drop_more}
use Rattle.std.proofs.lemmas.Slice.Eq.{bytes_eq-Decides}
use Rattle.bb_base.specs.Folder.{FileMap, name_in, names_in}

abbrev IsFound : ℕ → List ℕ → ℕ → Option ℕ → Type 0
IsFound c text n found = IfSome found (λ k. (k < n) × (get_or text k 0 ≡ c))

IsFound-wider : (c : ℕ) (text : List ℕ) (n : ℕ) (found : Option ℕ) → IsFound c text n found → IsFound c text (suc n) found
IsFound-wider c text n None h = tt
IsFound-wider c text n (Some k) h = (omega arith, h.1)

rfind_below-IsFound : (c : ℕ) (text : List ℕ) (n : ℕ) → IsFound c text n (rfind_below c text n)
rfind_below-IsFound c text zero = tt
rfind_below-IsFound c text (suc n) =
    cond_both (get_or text n 0 == c) (Some n) (rfind_below c text n) (IsFound c text (suc n))
    (λ here. (omega arith, eqb-true _ c here))
    (λ _. IsFound-wider c text n _ (rfind_below-IsFound c text n))

picked : (b : Bool) (x y : List ℕ) → (if b then Some x else None) ≡ Some y → (b ≡ true) × (x ≡ y)
picked true x y h = (refl, ap (λ o. unwrap_or o x) h)
picked false x y h = absurd (subst (λ o. T (is_some o)) (sym h) tt)

cut_at : (dir name below : List ℕ) (found : Option ℕ) → IsFound slash name (length name) found → option_and_then (λ (parts : List ℕ × List ℕ). if bytes_eq parts.0 dir then Some parts.1 else None) (option_map (λ i. (take i name, drop (i + 1) name)) found) ≡ Some below → name ≡ dir ++ slash ∷ below
cut_at dir name below None there h = absurd (subst (λ o. T (is_some o)) (sym h) tt)
cut_at dir name below (Some k) there h =
    let cut = picked (bytes_eq (take k name) dir) (drop (k + 1) name) below h in
    sym (take-append-drop k name)
    ∙ ap₂ (λ front rest. front ++ rest) ((bytes_eq-Decides (take k name) dir).0 cut.0) (drop_more name k 0 there.0 ∙ ap₂ (λ c rest. c ∷ rest) there.1 cut.1)

-- such a name begins with the folder's name and a `/`
pub name_in-parts : (dir name below : List ℕ) → name_in dir name ≡ Some below → name ≡ dir ++ slash ∷ below
unfolding rsplit_once
name_in-parts dir name below h = cut_at dir name below _ (rfind_below-IsFound slash name (length name)) h

slice_cmp-behind : (dir a b : List ℕ) → slice_cmp nat_cmp (dir ++ slash ∷ a) (dir ++ slash ∷ b) ≡ slice_cmp nat_cmp a b
slice_cmp-behind [] a b = refl
slice_cmp-behind (c ∷ dir) a b =
    ap (λ o. ordering_then o (slice_cmp nat_cmp (dir ++ slash ∷ a) (dir ++ slash ∷ b))) (tied_itself nat_cmp_total c) ∙ slice_cmp-behind dir a b

below_all-name_in : (dir name a : List ℕ) (names : List (List ℕ)) → name_in dir name ≡ Some a → AllByRecursion (λ n. slice_cmp nat_cmp name n ≡ Less) names → AllByRecursion (λ b. slice_cmp nat_cmp a b ≡ Less) (filter_map (name_in dir) names)
below_all-name_in dir name a [] is h = tt
below_all-name_in dir name a (n ∷ names) is h =
    let rest = below_all-name_in dir name a names is h.1 in
    elim (name_in dir n) as (λ o. name_in dir n ≡ o → AllByRecursion (λ b. slice_cmp nat_cmp a b ≡ Less) (cons_option o (filter_map (name_in dir) names))) [
      | None ↦ λ _. rest
      | Some b ↦ λ e. (sym (slice_cmp-behind dir a b) ∙ ap₂ (slice_cmp nat_cmp) (sym (name_in-parts dir name a is)) (sym (name_in-parts dir n b e)) ∙ h.0, rest)
    ] refl

filtered_rise : (dir : List ℕ) (names : List (List ℕ)) → IsStrictlySortedBy (slice_cmp nat_cmp) names → IsStrictlySortedBy (slice_cmp nat_cmp) (filter_map (name_in dir) names)
unfolding IsStrictlySortedBy
filtered_rise dir [] h = tt
filtered_rise dir (n ∷ names) h =
    elim (name_in dir n) as (λ o. name_in dir n ≡ o → IsStrictlySortedBy (slice_cmp nat_cmp) (cons_option o (filter_map (name_in dir) names))) [
      | None ↦ λ _. filtered_rise dir names h.1
      | Some b ↦ λ e. (below_all-name_in dir n b names e h.0, filtered_rise dir names h.1)
    ] refl

parts : (a b : Bool) → T (a && b) → T a × T b
parts true b h = (tt, h)
parts false b h = absurd h

less : (o : Ordering) → T (is_lt o) → o ≡ Less
less Less h = refl
less Equal h = absurd h
less Greater h = absurd h

keys_above : (name : List ℕ) (es : List (List ℕ × List ℕ)) → T (below_all (slice_cmp nat_cmp) name es) → AllByRecursion (λ n. slice_cmp nat_cmp name n ≡ Less) (map (λ e. e.0) es)
keys_above name [] h = tt
keys_above name (e ∷ es) h = let p = parts _ _ h in (less _ p.0, keys_above name es p.1)

keys_rise : (es : List (List ℕ × List ℕ)) → T (is_sorted (slice_cmp nat_cmp) es) → IsStrictlySortedBy (slice_cmp nat_cmp) (map (λ e. e.0) es)
unfolding IsStrictlySortedBy
keys_rise [] h = tt
keys_rise (e ∷ es) h = let p = parts _ _ h in (keys_above e.0 es p.0, keys_rise es p.1)

-- each name in a folder is below those after it
pub names_rise : (files : FileMap) (dir : List ℕ) → IsStrictlySortedBy (slice_cmp nat_cmp) (names_in files dir)
names_rise files dir = filtered_rise dir _ (keys_rise (entries files) (entries_sorted files))
