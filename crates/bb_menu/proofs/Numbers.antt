-- Numbers that are written by digits compare as their digits do.
use Rattle.std.proofs.Common.{◌≡◌, ◌≢◌, ℕ, zero, suc, ◌+◌, ◌-◌, ◌*◌, ◌^◌, ◌<◌, ◌≤◌, Bool, true, false, cond, List, [], ◌∷◌, length, drop, refl, sym, ap, ap₂, subst, ◌∙◌, arith, Ordering, Less, Equal, Greater}
use Rattle.std.proofs.Math.Nat.{mul-le-mul_right}
use Rattle.std.proofs.lemmas.Bool.Decides.{nat_tests}
use Rattle.std.proofs.lemmas.Cmp.{ranked}
use Rattle.std.proofs.lemmas.Int.Digits.{digits_value-lt}
use Rattle.std.specs.Char.{digit_value}
use Rattle.std.specs.Cmp.{nat_cmp_is}
use Rattle.std.specs.Cmp.Lexicographic.{slice_cmp}
use Rattle.std.specs.List.{prefix_len}
use Rattle.std.specs.Ordering.{MatchOrdering, is_ne, nat_cmp, ordering_then}
use Rattle.std.specs.Prelude.{◌==◌}
use Rattle.std.specs.Str.Parse.{AllDigits, digits_value, digits_value_after}
use Rattle.bb_menu.specs.Ranks.{LeadsWell, is_zero_digit}

-- ---- the first of two orders decides, if it tells a difference

decided : (o more : Ordering) → is_ne o ≡ true → ordering_then o more ≡ o
decided Less more h = refl
decided Equal more h = absurd cc
decided Greater more h = refl

undecided : (o : Ordering) → is_ne o ≡ false → o ≡ Equal
undecided Less h = absurd cc
undecided Equal h = refl
undecided Greater h = absurd cc

-- ---- a digit

digit_is : (c : ℕ) → digit_value c < 10 → c ≡ 48 + digit_value c
digit_is c h = grind (arith, nat_tests)

digits_tie : (c d : ℕ) → digit_value c < 10 → digit_value d < 10 → nat_cmp c d ≡ nat_cmp (digit_value c) (digit_value d)
digits_tie c d h k =
    let a = digit_is c h in
    let b = digit_is d k in
    nat_cmp_is (digit_value c) (digit_value d) (nat_cmp c d)
    (by (nat_cmp c d) (ranked c d (nat_cmp c d) refl) a b)
  where
    by : (r : Ordering) → MatchOrdering r (c < d) (c ≡ d) (d < c) → c ≡ 48 + digit_value c → d ≡ 48 + digit_value d →
        MatchOrdering r (digit_value c < digit_value d) (digit_value c ≡ digit_value d) (digit_value d < digit_value c)
    by Less m a b = omega arith
    by Equal m a b = omega arith
    by Greater m a b = omega arith

-- ---- as many digits

-- a number with one digit more
one_digit : (m n x y : ℕ) → x < 10 → y < 10 → nat_cmp (m * 10 + x) (n * 10 + y) ≡ ordering_then (nat_cmp m n) (nat_cmp x y)
one_digit m n x y h k = sym (nat_cmp_is (m * 10 + x) (n * 10 + y) _ (by (nat_cmp m n) (ranked m n _ refl) (nat_cmp x y) (ranked x y _ refl)))
  where
    by : (r : Ordering) → MatchOrdering r (m < n) (m ≡ n) (n < m) → (s : Ordering) → MatchOrdering s (x < y) (x ≡ y) (y < x) →
        MatchOrdering (ordering_then r s) (m * 10 + x < n * 10 + y) (m * 10 + x ≡ n * 10 + y) (n * 10 + y < m * 10 + x)
    by Less a s b = omega arith
    by Equal a Less b = omega arith
    by Equal a Equal b = omega arith
    by Equal a Greater b = omega arith
    by Greater a s b = omega arith

regroup_then : (r s t : Ordering) → ordering_then (ordering_then r s) t ≡ ordering_then r (ordering_then s t)
regroup_then Less s t = refl
regroup_then Equal s t = refl
regroup_then Greater s t = refl

then_equal : (r : Ordering) → ordering_then r Equal ≡ r
then_equal Less = refl
then_equal Equal = refl
then_equal Greater = refl

same_many : (m n : ℕ) (xs ys : List ℕ) → length xs ≡ length ys → AllDigits 10 xs → AllDigits 10 ys →
    nat_cmp (digits_value_after 10 m xs) (digits_value_after 10 n ys) ≡ ordering_then (nat_cmp m n) (slice_cmp nat_cmp xs ys)
same_many m n [] [] e a b = sym (then_equal (nat_cmp m n))
same_many m n [] (y ∷ ys) e a b = absurd (omega (arith, e))
same_many m n (x ∷ xs) [] e a b = absurd (omega (arith, e))
same_many m n (x ∷ xs) (y ∷ ys) e a b =
    let shorter : length xs ≡ length ys = omega (arith, e) in
    let tail = slice_cmp nat_cmp xs ys in
    same_many (m * 10 + digit_value x) (n * 10 + digit_value y) xs ys shorter a.1 b.1
    ∙ ap (λ o. ordering_then o tail) (one_digit m n (digit_value x) (digit_value y) a.0 b.0)
    ∙ regroup_then (nat_cmp m n) (nat_cmp (digit_value x) (digit_value y)) tail
    ∙ ap (λ o. ordering_then (nat_cmp m n) (ordering_then o tail)) (sym (digits_tie x y a.0 b.0))

-- ---- more digits

after_least : (n : ℕ) (xs : List ℕ) → n * 10 ^ length xs ≤ digits_value_after 10 n xs
after_least n [] = omega arith
after_least n (x ∷ xs) =
    let rest = after_least (n * 10 + digit_value x) xs in
    let p : ℕ = 10 ^ length xs in
    let power : 10 ^ length (x ∷ xs) ≡ 10 * p = pow_step (length xs) in
    let more : n * 10 * p ≤ (n * 10 + digit_value x) * p = mul-le-mul_right p (omega arith) in
    let same : n * 10 ^ length (x ∷ xs) ≡ n * 10 * p = ap (λ k. n * k) power ∙ regroup n p in
    subst (λ k. k ≤ digits_value_after 10 (n * 10 + digit_value x) xs) (sym same) (omega (arith, more, rest))
  where
    pow_step : (k : ℕ) → 10 ^ (suc k) ≡ 10 * 10 ^ k
    pow_step k = omega arith

    regroup : (n p : ℕ) → n * (10 * p) ≡ n * 10 * p
    regroup n p = omega arith

longer_more : (xs ys : List ℕ) → AllDigits 10 xs → AllDigits 10 ys → LeadsWell ys → length xs < length ys → digits_value 10 xs < digits_value 10 ys
longer_more xs [] a b lead l = absurd (omega (arith, l))
longer_more xs (y ∷ ys) a b lead l =
    let most = digits_value-lt 10 xs a in
    let least = after_least (0 * 10 + digit_value y) ys in
    let is = digit_is y b.0 in
    let one : 1 ≤ 0 * 10 + digit_value y = positive y is lead in
    let wide : 10 ^ length xs ≤ 10 ^ length ys = powers (length xs) (length ys) (omega (arith, l)) in
    let times : 1 * 10 ^ length ys ≤ (0 * 10 + digit_value y) * 10 ^ length ys = mul-le-mul_right (10 ^ length ys) one in
    omega (arith, most, least, wide, times)
  where
    positive : (y : ℕ) → y ≡ 48 + digit_value y → y ≢ 48 → 1 ≤ 0 * 10 + digit_value y
    positive y is lead = by (digit_value y) is
      where
        by : (v : ℕ) → y ≡ 48 + v → 1 ≤ 0 * 10 + v
        by zero e = absurd (lead (e ∙ (let z : 48 + 0 ≡ 48 = omega arith in z)))
        by (suc v) e = omega arith

    powers : (m n : ℕ) → m ≤ n → 10 ^ m ≤ 10 ^ n
    powers m n h = subst (λ k. 10 ^ m ≤ 10 ^ k) (let e : m + (n - m) ≡ n = omega arith in e) (grows m (n - m))
      where
        grows : (m k : ℕ) → 10 ^ m ≤ 10 ^ (m + k)
        grows m zero = let e : m + 0 ≡ m = omega arith in subst (λ n. 10 ^ m ≤ 10 ^ n) (sym e) (omega arith)
        grows m (suc k) =
            let e : m + suc k ≡ suc (m + k) = omega arith in
            let ih = grows m k in
            subst (λ n. 10 ^ m ≤ 10 ^ n) (sym e) (let s : 10 ^ (suc (m + k)) ≡ 10 * 10 ^ (m + k) = omega arith in omega (arith, ih, s))

-- ---- digits without zeros in front compare by their number, then by their bytes

pub number_order : (xs ys : List ℕ) → AllDigits 10 xs → AllDigits 10 ys → LeadsWell xs → LeadsWell ys →
    ordering_then (nat_cmp (length xs) (length ys)) (slice_cmp nat_cmp xs ys) ≡ nat_cmp (digits_value 10 xs) (digits_value 10 ys)
number_order xs ys a b leads_x leads_y = by (nat_cmp (length xs) (length ys)) (ranked (length xs) (length ys) _ refl)
  where
    by : (r : Ordering) → MatchOrdering r (length xs < length ys) (length xs ≡ length ys) (length ys < length xs) →
        ordering_then r (slice_cmp nat_cmp xs ys) ≡ nat_cmp (digits_value 10 xs) (digits_value 10 ys)
    by Less l = nat_cmp_is _ _ Less (longer_more xs ys a b leads_y l)
    by Equal e = sym (same_many 0 0 xs ys e a b)
    by Greater l = nat_cmp_is _ _ Greater (longer_more ys xs b a leads_x l)

-- the same of the digits that are left of others
module _ (xs ys digits others : List ℕ) (o : Ordering) (a : AllDigits 10 xs) (b : AllDigits 10 ys) (leads : LeadsWell xs) (other_leads : LeadsWell ys)
    (value : digits_value 10 xs ≡ digits_value 10 digits) (other_value : digits_value 10 ys ≡ digits_value 10 others)
    (lengths : o ≡ nat_cmp (length xs) (length ys)) where
  all_of : ordering_then o (slice_cmp nat_cmp xs ys) ≡ nat_cmp (digits_value 10 digits) (digits_value 10 others)
  all_of =
      ap (λ r. ordering_then r (slice_cmp nat_cmp xs ys)) lengths ∙ number_order xs ys a b leads other_leads ∙ ap₂ nat_cmp value other_value

  pub length_decides : is_ne o ≡ true → o ≡ nat_cmp (digits_value 10 digits) (digits_value 10 others)
  length_decides h = sym (decided o (slice_cmp nat_cmp xs ys) h) ∙ all_of

  pub bytes_decide : is_ne o ≡ false → slice_cmp nat_cmp xs ys ≡ nat_cmp (digits_value 10 digits) (digits_value 10 others)
  bytes_decide h = sym (ap (λ r. ordering_then r (slice_cmp nat_cmp xs ys)) (undecided o h)) ∙ all_of

-- ---- zeros in front

pub zeros_value : (xs : List ℕ) → digits_value 10 (drop (prefix_len is_zero_digit xs) xs) ≡ digits_value 10 xs
zeros_value [] = refl
zeros_value (x ∷ xs) = by (x == 48) refl (zeros_value xs)
  where
    by : (b : Bool) → (x == 48) ≡ b → digits_value 10 (drop (prefix_len is_zero_digit xs) xs) ≡ digits_value 10 xs →
        digits_value 10 (drop (cond b (1 + prefix_len is_zero_digit xs) 0) (x ∷ xs)) ≡ digits_value 10 (x ∷ xs)
    by true e rest =
        let n : 1 + prefix_len is_zero_digit xs ≡ suc (prefix_len is_zero_digit xs) = omega arith in
        let x_is : x ≡ 48 = grind (arith, nat_tests) in
        ap (λ k. digits_value 10 (drop k (x ∷ xs))) n ∙ rest ∙ ap (λ c. digits_value_after 10 (0 * 10 + digit_value c) xs) (sym x_is)
    by false e rest = refl

pub zeros_digits : (n : ℕ) (xs : List ℕ) → AllDigits 10 xs → AllDigits 10 (drop n xs)
zeros_digits zero [] a = a
zeros_digits zero (x ∷ xs) a = a
zeros_digits (suc n) [] a = a
zeros_digits (suc n) (x ∷ xs) a = zeros_digits n xs a.1

pub zeros_lead : (xs : List ℕ) → LeadsWell (drop (prefix_len is_zero_digit xs) xs)
zeros_lead [] = tt
zeros_lead (x ∷ xs) = by (x == 48) refl (zeros_lead xs)
  where
    by : (b : Bool) → (x == 48) ≡ b → LeadsWell (drop (prefix_len is_zero_digit xs) xs) →
        LeadsWell (drop (cond b (1 + prefix_len is_zero_digit xs) 0) (x ∷ xs))
    by true e rest =
        let n : 1 + prefix_len is_zero_digit xs ≡ suc (prefix_len is_zero_digit xs) = omega arith in
        subst (λ k. LeadsWell (drop k (x ∷ xs))) (sym n) rest
    by false e rest = grind (arith, nat_tests)
