-- Numbers that fall from each element of a list to the next.
use Rattle.std.proofs.Common.{◌≡◌, ℕ, zero, suc, ◌+◌, ◌-◌, ◌<◌, ◌≤◌, List, [], ◌∷◌, ◌++◌, Some, ap, arith, length, length-append, slice_get, take, ◌∙◌}
use Rattle.std.proofs.lemmas.List.{length-take-le}
use Rattle.std.proofs.lemmas.Option.{slice_get_within}
use Rattle.std.specs.Option.{option_map_or}
use Rattle.bb_copies.proofs.Places.{get_append, get_take}

module _ {X : Type 0} (f : X → ℕ) where
  -- the number of the element at a place
  abbrev pub number_of : List X → ℕ → ℕ
  number_of xs place = option_map_or f (slice_get xs place) 0

  -- from a place on each number is less than the one before
  abbrev pub Falls : List X → ℕ → Type 0
  Falls xs from = (i : ℕ) → from ≤ i → i + 1 < length xs → number_of xs (i + 1) + 1 ≤ number_of xs i

  pub falls_later : (xs : List X) (from later : ℕ) → from ≤ later → Falls xs from → Falls xs later
  falls_later xs from later low falls i behind inside = falls i (omega (arith, low, behind)) inside

  -- so many places on it is less by as many
  pub falls_by : (xs : List X) (from : ℕ) → Falls xs from → (i k : ℕ) → from ≤ i → i + k < length xs →
      number_of xs (i + k) + k ≤ number_of xs i
  falls_by xs from falls i zero low inside =
      let same : i + 0 ≡ i = omega arith in
      let here = ap (number_of xs) same in
      omega (arith, here)
  falls_by xs from falls i (suc k) low inside =
      let rest = falls_by xs from falls i k low (omega (arith, inside)) in
      let next = falls (i + k) (omega (arith, low)) (omega (arith, inside)) in
      let same : i + suc k ≡ i + k + 1 = omega arith in
      let here = ap (number_of xs) same in
      omega (arith, rest, next, here)

  pub falls_to : (xs : List X) (from i later : ℕ) → Falls xs from → from ≤ i → i ≤ later → later < length xs →
      number_of xs later ≤ number_of xs i
  falls_to xs from i later falls low behind inside =
      let same : i + (later - i) ≡ later = omega (arith, behind) in
      let less = falls_by xs from falls i (later - i) low (omega (arith, same, inside)) in
      let here = ap (number_of xs) same in
      omega (arith, less, here)

  pub falls_one : (x : X) → Falls (x ∷ []) 0
  falls_one x i low inside = absurd (omega (arith, inside))

  pub falls_cons : (x y : X) (xs : List X) → f y + 1 ≤ f x → Falls (y ∷ xs) 0 → Falls (x ∷ y ∷ xs) 0
  falls_cons x y xs less falls zero low inside = less
  falls_cons x y xs less falls (suc i) low inside =
      let same : suc i + 1 ≡ suc (i + 1) = omega arith in
      let here = ap (number_of (x ∷ y ∷ xs)) same in
      let next = falls i (omega arith) (omega (arith, inside)) in
      omega (arith, here, next)

  -- ---- a list that is cut after a place, with more after it

  get_behind : (xs ys : List X) (j : ℕ) → slice_get (xs ++ ys) (length xs + j) ≡ slice_get ys j
  get_behind [] ys j = let same : 0 + j ≡ j = omega arith in ap (slice_get ys) same
  get_behind (x ∷ xs) ys j =
      let same : suc (length xs) + j ≡ suc (length xs + j) = omega arith in
      ap (slice_get (x ∷ xs ++ ys)) same ∙ get_behind xs ys j

  module _ (h more : List X) (place : ℕ) (x : X) (here : slice_get h place ≡ Some x) where
    abbrev pub longer : List X
    longer = take (place + 1) h ++ more

    inside : place < length h
    inside = slice_get_within h place x here

    cut : length (take (place + 1) h) ≡ place + 1
    cut = length-take-le (place + 1) h (omega (arith, inside))

    pub longer_length : length longer ≡ place + 1 + length more
    longer_length = omega (arith, length-append (take (place + 1) h) more, cut)

    at_place : slice_get longer place ≡ Some x
    at_place =
        get_append (take (place + 1) h) more place (omega (arith, cut)) ∙ get_take (place + 1) h place (omega arith) ∙ here

    longer_at : (j : ℕ) → number_of longer (place + j) ≡ number_of (x ∷ more) j
    longer_at zero =
        let same : place + 0 ≡ place = omega arith in
        ap (number_of longer) same ∙ ap (λ o. option_map_or f o 0) at_place
    longer_at (suc j) =
        let same : place + suc j ≡ length (take (place + 1) h) + j = omega (arith, cut) in
        ap (number_of longer) same ∙ ap (λ o. option_map_or f o 0) (get_behind (take (place + 1) h) more j)

    pub falls_longer : Falls (x ∷ more) 0 → Falls longer place
    falls_longer falls i low within =
        let j = i - place in
        let len = longer_length in
        let here_is : i ≡ place + j = omega (arith, low) in
        let next_is : i + 1 ≡ place + (j + 1) = omega (arith, low) in
        let same = ap (number_of longer) here_is ∙ longer_at j in
        let next = ap (number_of longer) next_is ∙ longer_at (j + 1) in
        let less = falls j (omega arith) (omega (arith, len, low, within)) in
        omega (arith, same, next, less)

    -- so many places after the cut it is less by as many
    pub longer_less : Falls (x ∷ more) 0 → (k : ℕ) → k ≤ length more → number_of longer (place + k) + k ≤ f x
    longer_less falls k most =
        let less = falls_by (x ∷ more) 0 falls 0 k (omega arith) (omega (arith, most)) in
        let same : 0 + k ≡ k = omega arith in
        let there = ap (number_of (x ∷ more)) same in
        omega (arith, longer_at k, less, there)
