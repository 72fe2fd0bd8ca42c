-- The names in a path.
use Rattle.std.proofs.Common.{◌≡◌, ◌≢◌, ℕ, ◌==◌, List, [], ◌∷◌, None, refl, ap, inl, inr}
use Rattle.std.specs.List.{slice_split}
use Rattle.std.proofs.lemmas.Bool.{cases_eq, ne_eqb}
use Rattle.bb_tree.specs.Paths.{path_names, names_behind}

-- a text that does not begin with a slash is no path
pub names_none : (path : List ℕ) → ((rest : List ℕ) → path ≢ 47 ∷ rest) → path_names path ≡ None
names_none [] h = refl
names_none (c ∷ cs) h =
    elim (cases_eq c 47) [
      | inl e ↦ absurd (h cs (ap (λ x. x ∷ cs) e))
      | inr e ↦ let f = ne_eqb c 47 e in rw f
    ]

pub names_behind_some : (rest : List ℕ) → rest ≢ [] → names_behind rest ≡ slice_split (λ b. b == 47) rest
names_behind_some [] h = absurd (h refl)
names_behind_some (c ∷ cs) h = refl
