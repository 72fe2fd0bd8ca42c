-- What the copies pass, from what each copy passes: `kinds` are the copies, and `passing` says what
-- one passes.
use Rattle.std.proofs.Common.{◌≡◌, ℕ, zero, suc, ◌<◌, List, [], ◌∷◌, map, Option, Some, None, is_some, slice_get, refl, sym, ap, ◌∙◌, subst, arith}
use Rattle.std.specs.List.{AllByRecursion, list_any}
use Rattle.std.proofs.lemmas.Bool.{or_right}
use Rattle.std.proofs.lemmas.List.Elements.{All-from_recursion}
use Rattle.std.proofs.lemmas.Option.{none-some, same_Some}
use Rattle.bb_copies.specs.StandsFor.{EachPassesOrNothing, IsAreaOrNone, IsKeptOrTaken, KeepsOrTakes, SomePasses, first_passed}
use Rattle.bb_copies.proofs.Places.{zip_maps}

module _ {K : Type 0} (passing : K → Option (List ℕ)) where
  -- P holds of what each copy passes
  abbrev pub EachCopy : (Option (List ℕ) → Type 0) → List K → Type 0
  EachCopy P kinds = (copy : ℕ) (kind : K) → slice_get kinds copy ≡ Some kind → P (passing kind)

  each_by_recursion : (P : Option (List ℕ) → Type 0) (kinds : List K) → EachCopy P kinds →
      AllByRecursion P (map passing kinds)
  each_by_recursion P [] each = tt
  each_by_recursion P (kind ∷ kinds) each =
      (each zero kind refl, each_by_recursion P kinds (λ copy. each (suc copy)))

  pub each_passes : (area : List ℕ) (kinds : List K) → EachCopy (IsAreaOrNone area) kinds →
      EachPassesOrNothing area (map passing kinds)
  each_passes area kinds each =
      All-from_recursion (IsAreaOrNone area) (map passing kinds)
      (each_by_recursion (IsAreaOrNone area) kinds each)

  pub some_passes : (kinds : List K) (copy : ℕ) (kind : K) (area : List ℕ) →
      slice_get kinds copy ≡ Some kind → passing kind ≡ Some area → SomePasses (map passing kinds)
  some_passes [] copy kind area here passes = absurd (none-some kind here)
  some_passes (other ∷ kinds) zero kind area here passes =
      subst (λ p. SomePasses (p ∷ map passing kinds))
      (sym (ap passing (same_Some other kind here) ∙ passes)) refl
  some_passes (other ∷ kinds) (suc copy) kind area here passes =
      or_right (is_some (passing other)) (list_any is_some (map passing kinds))
      (some_passes kinds copy kind area here passes)

  pub none_passes : (kinds : List K) → EachCopy (λ passes. passes ≡ None) kinds →
      SomePasses (map passing kinds) → ⊥
  none_passes [] none some = grind arith
  none_passes (kind ∷ kinds) none some =
      none_passes kinds (λ copy. none (suc copy))
      (subst (λ passes. SomePasses (passes ∷ map passing kinds)) (none zero kind refl) some)

  -- the first copy that passes, where those in front of it pass nothing
  pub first_found : (first : List ℕ) (kinds : List K) (copy : ℕ) (kind : K) (area : List ℕ) →
      slice_get kinds copy ≡ Some kind → passing kind ≡ Some area →
      ((k : ℕ) (other : K) → k < copy → slice_get kinds k ≡ Some other → passing other ≡ None) →
      first_passed first (map passing kinds) ≡ area
  first_found first [] copy kind area here passes none = absurd (none-some kind here)
  first_found first (other ∷ kinds) zero kind area here passes none =
      ap (λ p. first_passed first (p ∷ map passing kinds))
      (ap passing (same_Some other kind here) ∙ passes)
  first_found first (other ∷ kinds) (suc copy) kind area here passes none =
      ap (λ p. first_passed first (p ∷ map passing kinds)) (none zero other (omega arith) refl)
      ∙ first_found first kinds copy kind area here passes
      (λ k earlier low. none (suc k) earlier (omega arith))

-- each copy keeps what it passed, passes nothing, or takes the area
pub each_keeps : {K : Type 0} (before image : K → Option (List ℕ)) (area : List ℕ)
    (kinds : List K) →
    ((copy : ℕ) (kind : K) → slice_get kinds copy ≡ Some kind →
    IsKeptOrTaken area (before kind) (image kind)) →
    KeepsOrTakes area (map before kinds) (map image kinds)
each_keeps before image area kinds each = zip_maps (IsKeptOrTaken area) before image kinds each
