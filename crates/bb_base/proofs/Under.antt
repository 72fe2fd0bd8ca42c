-- Which names are under a folder.
use Rattle.std.proofs.Common.{◌≡◌, ℕ, T, Bool, true, false, ◌&&◌, ◌||◌, List, [], ◌∷◌, ◌++◌, length, take, drop, filter_map, nat_eq, Some, None, refl, sym, ap, ap₂, ◌∙◌, subst, ne_eqb, eq-eqb, ⊎_elim}
use Rattle.std.specs.FinMap.{keys}
use Rattle.std.specs.List.{cons_option, list_any, starts_with}
use Rattle.std.specs.Path.{slash}
use Rattle.std.specs.Str.{bytes_eq}
use Rattle.std.proofs.lemmas.Bool.{cases_eq}
use Rattle.bb_base.specs.Folder.{FileMap, has_folder, is_under, name_in, names_in}
use Rattle.bb_base.proofs.Names.{name_in-parts}

nat_eq-swapped : (a b : ℕ) → nat_eq a b ≡ nat_eq b a
nat_eq-swapped a b =
    ⊎_elim
    (λ same. eq-eqb a b same ∙ sym (eq-eqb b a (sym same)))
    (λ other. ne_eqb a b other ∙ sym (ne_eqb b a (λ back. other (sym back))))
    (cases_eq a b)

regrouped : (a b c : Bool) → (a && (b && c)) ≡ ((a && b) && c)
regrouped true b c = refl
regrouped false b c = refl

-- a name is under a folder where it begins with the folder's name and a `/` follows
pub is_under-cut : (dir name : List ℕ) → is_under dir name ≡ (bytes_eq (take (length dir) name) dir && starts_with nat_eq (drop (length dir) name) (slash ∷ []))
is_under-cut [] name = refl
is_under-cut (c ∷ dir) [] = refl
is_under-cut (c ∷ dir) (n ∷ name) =
    ap₂ (λ a b. a && b) (nat_eq-swapped c n) (is_under-cut dir name) ∙ regrouped (nat_eq n c) _ _

under_itself : (dir below : List ℕ) → is_under dir (dir ++ slash ∷ below) ≡ true
under_itself [] below = refl
under_itself (c ∷ dir) below = ap₂ (λ a b. a && b) (eq-eqb c c refl) (under_itself dir below)

-- a name in a folder is under it
in_is_under : (dir name below : List ℕ) → name_in dir name ≡ Some below → is_under dir name ≡ true
in_is_under dir name below is = ap (is_under dir) (name_in-parts dir name below is) ∙ under_itself dir below

neither : (a b : Bool) → (a || b) ≡ false → (a ≡ false) × (b ≡ false)
neither true b h = absurd (subst T h tt)
neither false b h = (refl, h)

none_of : (dir : List ℕ) (names : List (List ℕ)) → list_any (is_under dir) names ≡ false → filter_map (name_in dir) names ≡ []
none_of dir [] h = refl
none_of dir (n ∷ names) h =
    let no = neither (is_under dir n) _ h in
    elim (name_in dir n) as (λ o. name_in dir n ≡ o → cons_option o (filter_map (name_in dir) names) ≡ []) [
      | None ↦ λ _. none_of dir names no.1
      | Some below ↦ λ is. absurd (subst T (sym (in_is_under dir n below is) ∙ no.0) tt)
    ] refl

-- where no name is under a folder there is none in it
pub no_names : (files : FileMap) (dir : List ℕ) → has_folder files dir ≡ false → names_in files dir ≡ []
no_names files dir h = none_of dir (keys files) h
