-- A number kept in 64 bits, digit by digit.
use Rattle.std.proofs.Common.{◌≡◌, ℕ, ◌+◌, ◌*◌, ◌^◌, ◌≤◌, nat_lt, Bool, true, false, cond, List, Option, Some, None, Result, Ok, Err, is_some, ok_or, option_and_then, refl, arith}
use Rattle.std.proofs.lemmas.Bool.Decides.{nat_tests}
use Rattle.std.specs.Option.{option_map_or}
use Rattle.bb_dts.specs.declared.error.DtsError.{DtsError}
use Rattle.bb_dts.specs.declared.error.DtsError.TheVariants.{BadToken, NumberTooLarge}
use Rattle.bb_dts.specs.declared.number.NumberFault.{NumberFault}
use Rattle.bb_dts.specs.declared.number.NumberFault.TheVariants.{Malformed, TooLarge}
use Rattle.bb_dts.specs.Numbers.{fits_64, in_64_bits, number_value}
use Rattle.bb_dts.specs.Walk.{number_below}

-- with a digit more, a number that had no 64 bits has none
pub fits_64-more : (n radix digit : ℕ) → 1 ≤ radix
    → option_and_then (λ v. fits_64 (v * radix + digit)) (fits_64 n) ≡ fits_64 (n * radix + digit)
fits_64-more n radix digit some = grind (arith, nat_tests)

no-such : (n : ℕ) (b : Bool) → ok_or (cond b (Some n) None) TooLarge ≡ Err Malformed → ⊥
no-such n true is = cc
no-such n false is = cc

-- only a word that spells no number is malformed
pub in_64_bits-malformed : (value : Option ℕ) → in_64_bits value ≡ Err Malformed
    → is_some value ≡ false
in_64_bits-malformed None is = refl
in_64_bits-malformed (Some n) is = absurd (no-such n (nat_lt n (2 ^ 64)) is)

-- a number below a limit, from what 64 bits hold of it
abbrev pub limited_64 : ℕ → ℕ → Result ℕ NumberFault → Result ℕ DtsError
limited_64 limit at (Ok n) = cond (nat_lt n limit) (Ok n) (Err (NumberTooLarge at))
limited_64 limit at (Err Malformed) = Err (BadToken at)
limited_64 limit at (Err TooLarge) = Err (NumberTooLarge at)

limited-some : (limit at n : ℕ) → limit ≤ 2 ^ 64 → (b : Bool) → nat_lt n (2 ^ 64) ≡ b
    → cond (nat_lt n limit) (Ok n) (Err (NumberTooLarge at))
    ≡ limited_64 limit at (ok_or (cond b (Some n) None) TooLarge)
limited-some limit at n small true is = refl
limited-some limit at n small false is = let above : nat_lt n limit ≡ false =
    grind (arith, nat_tests) in rw above refl

pub number_below_is : (limit at : ℕ) (word : List ℕ) → limit ≤ 2 ^ 64
    → number_below limit word at ≡ limited_64 limit at (in_64_bits (number_value word))
number_below_is limit at word small = by_value (number_value word)
  where
    by_value : (value : Option ℕ)
        → option_map_or (λ n. cond (nat_lt n limit) (Ok n) (Err (NumberTooLarge at))) value
        (Err (BadToken at)) ≡ limited_64 limit at (in_64_bits value)
    by_value None = refl
    by_value (Some n) = limited-some limit at n small (nat_lt n (2 ^ 64)) refl
