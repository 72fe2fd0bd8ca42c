-- Where digits are refused.
use Rattle.std.proofs.Common.{◌≡◌, ℕ, ◌%◌, ◌≤◌, Bool, true, false, cond, not, eqb, List, [], ◌∷◌, length, get_or, Option, Some, None, Result, Ok, Err, inl, inr, ◌↔◌, refl, ap, arith, nat_lt}
use Rattle.std.proofs.Math.Dec.{eqb-suc-zero}
use Rattle.std.proofs.lemmas.Bool.{cases_eq}
use Rattle.std.proofs.lemmas.List.Elements.{All-from_get_or}
use Rattle.std.proofs.lemmas.List.Sums.{prefix_len_passes}
use Rattle.std.specs.List.{AllPass, position_or_len}
use Rattle.std.specs.Option.{option_map_or}
use Rattle.std.specs.Result.{result_map_both}
use Rattle.hex.specs.Hex.{is_hex_digit}
use Rattle.hex.proofs.HexLemmas.{decode_of-odd}
use Rattle.bb_hmac.specs.Hmac.{key_block}
use Rattle.bb_hmac.specs.Key.{IsBadAt, IsHexadecimal, first_bad, key_of_pairs, spelt_key}
use Rattle.bb_hmac.specs.declared.error.KeyError.{KeyError}
use Rattle.bb_hmac.specs.declared.error.KeyError.TheVariants.{BadHex}
use Rattle.bb_hmac.proofs.PairBytes.{decoded, pair_bytes}

not_not : (b : Bool) → not (not b) ≡ true → b ≡ true
not_not true h = refl
not_not false h = h

none_within : (a b : ℕ) → cond (nat_lt a b) (Some a) None ≡ None → b ≤ a
none_within a b h = grind arith

each_is_digit : (digits : List ℕ) → first_bad digits ≡ None → AllPass is_hex_digit digits
each_is_digit digits h =
    let all = none_within (position_or_len (λ c. not (is_hex_digit c)) digits) (length digits) h in
    All-from_get_or (λ c. is_hex_digit c ≡ true) digits 0
    (λ i lt. not_not (is_hex_digit (get_or digits i 0)) (prefix_len_passes (λ c. not (not (is_hex_digit c))) digits i 0 (omega arith)))

-- digits that nothing speaks against
pub spelt_from_none : (digits : List ℕ) → first_bad digits ≡ None → length digits % 2 ≡ 0
    → IsHexadecimal digits
spelt_from_none digits h even = record { each = each_is_digit digits h; even = even }

pub paired_even : (digits : List ℕ) → IsHexadecimal digits → key_of_pairs digits ≡ Ok (pair_bytes digits)
paired_even digits h = ap (result_map_both (λ key. key) (λ _. BadHex (length digits))) (decoded digits h)

pub paired_odd : (digits : List ℕ) → length digits % 2 ≡ 1
    → key_of_pairs digits ≡ Err (BadHex (length digits))
paired_odd digits odd = ap (result_map_both (λ key. key) (λ _. BadHex (length digits))) (decode_of-odd digits odd)

-- what digits spell that nothing speaks against
pub spelt_even : (digits : List ℕ) → eqb (length digits) 0 ≡ false → first_bad digits ≡ None
    → length digits % 2 ≡ 0
    → spelt_key digits ≡ Ok (pair_bytes digits)
spelt_even digits some none even =
    rw (some, none) (paired_even digits (spelt_from_none digits none even))

abbrev pub with_block : Result (List ℕ) KeyError → Result (List ℕ) KeyError
with_block r = result_map_both key_block (λ e. e) r

-- after the test for no digit
refused_in : (o : Option ℕ) (digits : List ℕ) (place : ℕ) → first_bad digits ≡ o
    → (with_block (option_map_or (λ p. Err (BadHex p)) o (key_of_pairs digits)) ≡ Err (BadHex place)) ↔ IsBadAt digits place
refused_in (Some p) digits place e = (λ h. inl (cc), λ bad. elim bad [ inl at ↦ cc | inr odd ↦ absurd (cc) ])
refused_in None digits place e = elim (cases_eq (length digits % 2) 1) [
  | inl odd ↦ (
    λ h. inr (e, odd, cc (paired_odd digits odd)),
    λ bad. elim bad [ inl at ↦ absurd (cc) | inr b ↦ cc (paired_odd digits odd) ],
  )
  | inr other ↦
      let spelt = spelt_from_none digits e (omega arith) in (
        λ h. absurd (cc (paired_even digits spelt)),
        λ bad. elim bad [ inl at ↦ absurd (cc) | inr b ↦ absurd (other b.1) ],
      )
]

pub refused_at : (digits : List ℕ) (place : ℕ)
    → (with_block (spelt_key digits) ≡ Err (BadHex place)) ↔ IsBadAt digits place
refused_at [] place = (λ h. absurd (cc), λ bad. elim bad [ inl at ↦ absurd (cc) | inr b ↦ absurd (omega arith) ])
refused_at (d ∷ more) place = rw (eqb-suc-zero (length more)) (refused_in (first_bad (d ∷ more)) (d ∷ more) place refl)
