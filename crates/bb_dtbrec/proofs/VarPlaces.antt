-- Variables of an area as places of a pattern.
use Rattle.std.proofs.Common.{◌≡◌, ℕ, zero, suc, ◌≤◌, true, false, Bool, ◌||◌, AllPairs, List, [], ◌∷◌, refl, arith, inl, inr}
use Rattle.std.specs.Prelude.{nat_le}
use Rattle.std.specs.List.{AllByRecursion}
use Rattle.std.proofs.lemmas.Bool.{cases_lt, eq-eqb, false≢true, le-leb}
use Rattle.std.proofs.lemmas.List.Elements.{recursion_from_All}
use Rattle.bb_vars.specs.Kind.{size_of}
use Rattle.bb_vars.specs.declared.kind.Kind.{Kind}
use Rattle.bb_vars.specs.declared.kind.Kind.TheVariants.{Uint8, Uint32, Enum32, Mac, Chars}
use Rattle.bb_layout.specs.Facts.{ShareNoByte}
use Rattle.bb_layout.specs.Ranges.{end_of}
use Rattle.bb_layout.specs.Variables.{IsWellFormed}
use Rattle.bb_layout.specs.declared.var.Var.{Var}
use Rattle.bb_dtbrec.specs.Dtb.{is_apart, is_size}
use Rattle.bb_dtbrec.specs.Layouts.{place_in_area, spelling_of}
use Rattle.bb_dtbrec.proofs.GrownValues.{IsLed}
use Rattle.bb_dtbrec.proofs.Insertions.{AreApart, IsSized, are_apart}

-- ---- sizes

-- a value of its kind's size can be spelt
kind_sized : (kind : Kind) (size : ℕ) → size ≡ size_of kind →
    is_size (spelling_of kind) size ≡ true
kind_sized Uint8 size e = eq-eqb size 1 e
kind_sized Uint32 size e = eq-eqb size 4 e
kind_sized (Enum32 names) size e = eq-eqb size 4 e
kind_sized Mac size e = refl
kind_sized (Chars most) size e = refl

pub vars_sized : (area_len : ℕ) (vars : List Var) → AllByRecursion IsWellFormed vars →
    AllByRecursion (λ v. end_of v ≤ area_len) vars →
    AllByRecursion (λ v. IsSized area_len (place_in_area v)) vars
vars_sized area_len [] formed inside = tt
vars_sized area_len (v ∷ vs) formed inside = (
  record {
    spelt = kind_sized v.kind v.size formed.0.size;
    inside = le-leb (end_of v) area_len inside.0;
  },
  vars_sized area_len vs formed.1 inside.1,
)

pub vars_led : (vars : List Var) → AllByRecursion IsWellFormed vars → AllByRecursion IsLed vars
vars_led [] formed = tt
vars_led (v ∷ vs) formed = (formed.0.led, vars_led vs formed.1)

-- no variable shares a byte with none
pub apart_from_none : (vars : List Var) →
    AllByRecursion (λ v. is_apart (place_in_area v) [] ≡ true) vars
unfolding is_apart
apart_from_none [] = tt
apart_from_none (v ∷ vs) = (refl, apart_from_none vs)

-- ---- ranges that share no byte

or_left : (a b : Bool) → a ≡ true → (a || b) ≡ true
or_left true b h = refl
or_left false b h = absurd (false≢true h)

or_right : (a b : Bool) → b ≡ true → (a || b) ≡ true
or_right true b h = refl
or_right false b h = h

both_apart : (v w : Var) → 1 ≤ v.size → 1 ≤ w.size → ShareNoByte v w →
    are_apart (place_in_area v) (place_in_area w) ≡ true
both_apart v w some other none = elim (cases_lt w.at (end_of v)) [
  | inr before ↦
      or_left (nat_le (end_of v) w.at) (nat_le (end_of w) v.at) (le-leb (end_of v) w.at before)
  | inl reaches ↦ elim (cases_lt v.at (end_of w)) [
    | inr behind ↦
        or_right (nat_le (end_of v) w.at) (nat_le (end_of w) v.at)
        (le-leb (end_of w) v.at behind)
    | inl meets ↦ elim (cases_lt v.at w.at) [
      | inl first ↦
          absurd (none w.at (omega arith) reaches (omega arith) (omega arith))
      | inr later ↦
          absurd (none v.at (omega arith) (omega arith) later meets)
    ]
  ]
]

one_apart : (v : Var) (vars : List Var) → 1 ≤ v.size → AllByRecursion IsWellFormed vars →
    AllByRecursion (ShareNoByte v) vars →
    AllByRecursion (λ w. are_apart (place_in_area v) (place_in_area w) ≡ true) vars
one_apart v [] some formed none = tt
one_apart v (w ∷ ws) some formed none =
    (both_apart v w some formed.0.some none.0, one_apart v ws some formed.1 none.1)

pub vars_apart : (vars : List Var) → AllByRecursion IsWellFormed vars →
    AllPairs ShareNoByte vars → AreApart place_in_area vars
vars_apart [] formed none = tt
vars_apart (v ∷ vs) formed none = (
  one_apart v vs formed.0.some formed.1
      (recursion_from_All (ShareNoByte v) vs
      (λ k d l. none zero (suc k) d (omega arith) (omega arith))),
  vars_apart vs formed.1 (λ i j d l m. none (suc i) (suc j) d (omega arith) (omega arith)),
)
