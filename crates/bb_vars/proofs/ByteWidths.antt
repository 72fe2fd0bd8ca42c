-- Numbers of 1 and of 4 bytes, little endian, read and printed.
use Rattle.std.proofs.Common.{◌≡◌, ℕ, zero, suc, ◌<◌, ◌^◌, ◌≤◌, ◌%◌, Bool, ◌⊎◌, inl, inr, true, false, nat_lt, cond, List, [], ◌∷◌, Result, Ok, Err, length, get_or, arith, refl, sym, ap, ◌∙◌, All, lit<, if◌then◌else◌}
use Rattle.std.proofs.lemmas.Bool.{cases_lt}
use Rattle.std.proofs.lemmas.Bool.Decides.{nat_tests}
use Rattle.std.proofs.lemmas.List.{get_or_past}
use Rattle.std.proofs.lemmas.Nat.{le_bytes_4, from_le_bytes-to_le_bytes_4}
use Rattle.std.specs.Fmt.{decimal}
use Rattle.std.specs.Int.{Width, w8, w32, byte_len, bytes_low_first, to_le_bytes, from_le_bytes}
use Rattle.std.specs.Result.{result_unwrap_or}
use Rattle.bb_base.specs.Number.{number_of}
use Rattle.bb_base.specs.declared.number.NumberError.{NumberError}
use Rattle.bb_vars.specs.declared.value_error.ValueError.{ValueError}
use Rattle.bb_vars.specs.declared.value_error.ValueError.TheVariants.{TooLarge}
use Rattle.bb_vars.specs.Value.{number_bytes}
use Rattle.bb_vars.proofs.Numbers.{number_of-decimal}

-- ---- printed, then read

small_by_cases : (bytes : List ℕ) → All (λ b. b < 256) bytes → (i : ℕ) → (i < length bytes) ⊎ (length bytes ≤ i) → get_or bytes i 0 < 256
small_by_cases bytes small i (inl inside) = small i 0 inside
small_by_cases bytes small i (inr past) = rw (get_or_past bytes i 0 past) (lit< tt)

small_at : (bytes : List ℕ) → All (λ b. b < 256) bytes → (i : ℕ) → get_or bytes i 0 < 256
small_at bytes small i = small_by_cases bytes small i (cases_lt i (length bytes))

pub to_le_bytes-from : (bytes : List ℕ) → length bytes ≡ 4 → All (λ b. b < 256) bytes → to_le_bytes w32 (from_le_bytes w32 bytes) ≡ bytes
to_le_bytes-from bytes four small = le_bytes_4 bytes (from_le_bytes w32 bytes) four (small_at bytes small) refl

length-bytes_low_first : (i k n : ℕ) → length (bytes_low_first i k n) ≡ k
length-bytes_low_first i zero n = refl
length-bytes_low_first i (suc k) n = ap suc (length-bytes_low_first (suc i) k n)

number_bytes-decimal : (width : Width) (n : ℕ) → n < 256 ^ byte_len width → n < 2 ^ 32 → number_bytes width (number_of (decimal n)) ≡ Ok (to_le_bytes width n)
number_bytes-decimal width n fits small =
    let test : nat_lt n (256 ^ byte_len width) ≡ true = grind (arith, nat_tests) in
    ap (λ r. number_bytes width r) (number_of-decimal n small)
    ∙ ap (λ b. if b then Ok (to_le_bytes width n) else Err TooLarge) test

pub uint8_reads_back : (bytes : List ℕ) → length bytes ≡ 1 → All (λ b. b < 256) bytes
    → number_bytes w8 (number_of (decimal (from_le_bytes w8 bytes))) ≡ Ok bytes
uint8_reads_back (a ∷ []) one small =
    let fits : a < 256 = small 0 0 (lit< tt) in
    number_bytes-decimal w8 a fits (omega arith) ∙ ap (λ n. Ok (n ∷ [])) (let same : a % 256 ≡ a = omega arith in same)
uint8_reads_back _ one small = absurd (omega arith)

from_le_bytes-below : (bytes : List ℕ) → All (λ b. b < 256) bytes → from_le_bytes w32 bytes < 2 ^ 32
from_le_bytes-below bytes small = omega (arith, small_at bytes small 0, small_at bytes small 1, small_at bytes small 2, small_at bytes small 3)

pub uint32_reads_back : (bytes : List ℕ) → length bytes ≡ 4 → All (λ b. b < 256) bytes
    → number_bytes w32 (number_of (decimal (from_le_bytes w32 bytes))) ≡ Ok bytes
uint32_reads_back bytes four small =
    let below = from_le_bytes-below bytes small in
    number_bytes-decimal w32 (from_le_bytes w32 bytes) below below ∙ ap (λ b. Ok b) (to_le_bytes-from bytes four small)

-- ---- read, then printed

-- the number that was read
record IsNumber (width : Width) (spelt : Result ℕ NumberError) (bytes : List ℕ) : Type 0 where
  number : ℕ
  spelt_is : spelt ≡ Ok number
  fits : number < 256 ^ byte_len width
  bytes_are : bytes ≡ to_le_bytes width number

fits_by_cases : (width : Width) (n : ℕ) (bytes : List ℕ) (test : Bool) → nat_lt n (256 ^ byte_len width) ≡ test
    → cond {A = Result (List ℕ) ValueError} test (Ok (to_le_bytes width n)) (Err TooLarge) ≡ Ok bytes → IsNumber width (Ok n) bytes
fits_by_cases width n bytes true fits h = record { number = n; spelt_is = refl; fits = grind (arith, nat_tests); bytes_are = cc }
fits_by_cases width n bytes false fits h = absurd (cc)

number_read : (width : Width) (spelt : Result ℕ NumberError) (bytes : List ℕ) → number_bytes width spelt ≡ Ok bytes → IsNumber width spelt bytes
number_read width (Ok n) bytes h = fits_by_cases width n bytes (nat_lt n (256 ^ byte_len width)) refl h
number_read width (Err cause) bytes h = absurd (cc)

pub uint8_prints : (spelt : Result ℕ NumberError) (bytes : List ℕ) → number_bytes w8 spelt ≡ Ok bytes
    → decimal (from_le_bytes w8 bytes) ≡ decimal (result_unwrap_or spelt 0)
uint8_prints spelt bytes h =
    let read = number_read w8 spelt bytes h in
    let same : from_le_bytes w8 bytes ≡ read.number =
    ap (from_le_bytes w8) read.bytes_are ∙ (let small : read.number % 256 ≡ read.number = omega (arith, read.fits) in small) in
    ap decimal (same ∙ sym (ap (λ r. result_unwrap_or r 0) read.spelt_is))

pub uint32_prints : (spelt : Result ℕ NumberError) (bytes : List ℕ) → number_bytes w32 spelt ≡ Ok bytes
    → decimal (from_le_bytes w32 bytes) ≡ decimal (result_unwrap_or spelt 0)
uint32_prints spelt bytes h =
    let read = number_read w32 spelt bytes h in
    let same : from_le_bytes w32 bytes ≡ read.number = ap (from_le_bytes w32) read.bytes_are ∙ from_le_bytes-to_le_bytes_4 read.number read.fits in
    ap decimal (same ∙ sym (ap (λ r. result_unwrap_or r 0) read.spelt_is))

pub number_sized : (width : Width) (spelt : Result ℕ NumberError) (bytes : List ℕ) → number_bytes width spelt ≡ Ok bytes → length bytes ≡ byte_len width
number_sized width spelt bytes h =
    let read = number_read width spelt bytes h in
    ap length read.bytes_are ∙ length-bytes_low_first 0 (byte_len width) read.number
