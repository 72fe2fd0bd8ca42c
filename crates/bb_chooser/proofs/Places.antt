-- The place of an element in a list.
use Rattle.std.proofs.Common.{◌≡◌, ℕ, ◌<◌, Bool, true, false, List, Some, None, arith, cond, length, refl, ap}
use Rattle.std.proofs.lemmas.Bool.{ltb-true}
use Rattle.std.specs.List.{position_or_len}
use Rattle.std.specs.Prelude.{nat_lt, position, unwrap_or}

pub position_within : {X : Type 0} (p : X → Bool) (xs : List X) (i : ℕ) → position p xs ≡ Some i → i < length xs
position_within {X} p xs i is = by (nat_lt (position_or_len p xs) (length xs)) refl is
  where
    by : (t : Bool) → nat_lt (position_or_len p xs) (length xs) ≡ t → cond t (Some (position_or_len p xs)) None ≡ Some i → i < length xs
    by true e h =
        let inside = ltb-true (position_or_len p xs) (length xs) e in
        let same : position_or_len p xs ≡ i = ap (λ o. unwrap_or o i) h in
        omega arith
    by false e h = absurd cc
