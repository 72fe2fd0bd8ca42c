-- Division by the polynomial of CRC-32 can go a byte at a time: it is linear, and a byte that
-- stands above the lowest eight bits only moves down.
use Rattle.std.proofs.Common.{◌≡◌, ℕ, ◌+◌, ◌*◌, ◌/◌, ◌%◌, ◌^◌, ◌<◌, ◌≤◌, ◌⊎◌, refl, sym, ap, ◌∙◌, arith, inl, inr, slice_index_or, get_or, map}
use Rattle.std.specs.Int.Bits.{bit_xor, xor_assoc, xor_self, xor_zero_l, xor_zero_r}
use Rattle.std.specs.List.{range_with_len}
use Rattle.std.proofs.lemmas.Bool.{cases_lt}
use Rattle.std.proofs.lemmas.Nat.{xor_comm, xor_shr, xor_mod, xor_block}
use Rattle.std.proofs.lemmas.List.FromFn.{get_or-map-range_with_len}
use Rattle.bb_base.specs.Crc.{after_bit, after_eight_bits, after_byte}
use Rattle.bb_base.specs.declared.remainders.TheConstants.{REMAINDERS}

even_or_odd : (n : ℕ) → (n % 2 ≡ 0) ⊎ (n % 2 ≡ 1)
even_or_odd n = by_cases (cases_lt (n % 2) 1) where
  by_cases : (n % 2 < 1) ⊎ (1 ≤ n % 2) → (n % 2 ≡ 0) ⊎ (n % 2 ≡ 1)
  by_cases (inl low) = inl (omega arith)
  by_cases (inr high) = inr (omega arith)

after_bit-even : (n : ℕ) → n % 2 ≡ 0 → after_bit n ≡ n / 2
unfolding after_bit
after_bit-even n even = rw even refl

after_bit-odd : (n : ℕ) → n % 2 ≡ 1 → after_bit n ≡ bit_xor (n / 2) 0xedb88320
unfolding after_bit
after_bit-odd n odd = rw odd refl

parity : (a b x y : ℕ) → a % 2 ≡ x → b % 2 ≡ y → bit_xor a b % 2 ≡ bit_xor x y
parity a b x y p q = xor_mod a b 1 ∙ ap (λ s. bit_xor s (b % 2)) p ∙ ap (bit_xor x) q

swapped : (a b c d : ℕ) → bit_xor (bit_xor a b) (bit_xor c d) ≡ bit_xor (bit_xor a c) (bit_xor b d)
swapped a b c d =
    xor_assoc a b (bit_xor c d) ∙ ap (bit_xor a) (sym (xor_assoc b c d) ∙ ap (λ s. bit_xor s d) (xor_comm b c) ∙ xor_assoc c b d)
    ∙ sym (xor_assoc a c (bit_xor b d))

-- the remainder of a sum is the sum of the remainders
after_bit-xor : (a b : ℕ) → after_bit (bit_xor a b) ≡ bit_xor (after_bit a) (after_bit b)
after_bit-xor a b = by_cases (even_or_odd a) (even_or_odd b) where
  by_cases : (a % 2 ≡ 0) ⊎ (a % 2 ≡ 1) → (b % 2 ≡ 0) ⊎ (b % 2 ≡ 1) → after_bit (bit_xor a b) ≡ bit_xor (after_bit a) (after_bit b)
  by_cases (inl p) (inl q) =
      after_bit-even (bit_xor a b) (parity a b 0 0 p q) ∙ xor_shr a b 1
      ∙ sym (ap (λ s. bit_xor s (after_bit b)) (after_bit-even a p) ∙ ap (bit_xor (a / 2)) (after_bit-even b q))
  by_cases (inl p) (inr q) =
      after_bit-odd (bit_xor a b) (parity a b 0 1 p q) ∙ ap (λ s. bit_xor s 0xedb88320) (xor_shr a b 1) ∙ xor_assoc (a / 2) (b / 2) 0xedb88320
      ∙ sym (ap (λ s. bit_xor s (after_bit b)) (after_bit-even a p) ∙ ap (bit_xor (a / 2)) (after_bit-odd b q))
  by_cases (inr p) (inl q) =
      after_bit-odd (bit_xor a b) (parity a b 1 0 p q) ∙ ap (λ s. bit_xor s 0xedb88320) (xor_shr a b 1) ∙ xor_assoc (a / 2) (b / 2) 0xedb88320
      ∙ ap (bit_xor (a / 2)) (xor_comm (b / 2) 0xedb88320) ∙ sym (xor_assoc (a / 2) 0xedb88320 (b / 2))
      ∙ sym (ap (λ s. bit_xor s (after_bit b)) (after_bit-odd a p) ∙ ap (bit_xor (bit_xor (a / 2) 0xedb88320)) (after_bit-even b q))
  by_cases (inr p) (inr q) =
      after_bit-even (bit_xor a b) (parity a b 1 1 p q) ∙ xor_shr a b 1 ∙ sym (xor_zero_r (bit_xor (a / 2) (b / 2)))
      ∙ ap (bit_xor (bit_xor (a / 2) (b / 2))) (sym (xor_self 0xedb88320)) ∙ swapped (a / 2) (b / 2) 0xedb88320 0xedb88320
      ∙ sym (ap (λ s. bit_xor s (after_bit b)) (after_bit-odd a p) ∙ ap (bit_xor (bit_xor (a / 2) 0xedb88320)) (after_bit-odd b q))

after_eight_bits-xor : (a b : ℕ) → after_eight_bits (bit_xor a b) ≡ bit_xor (after_eight_bits a) (after_eight_bits b)
unfolding after_eight_bits
after_eight_bits-xor a b = simp after_bit-xor

after_bit-double : (n : ℕ) → after_bit (n * 2) ≡ n
after_bit-double n = after_bit-even (n * 2) (omega arith) ∙ (omega arith)

-- what stands above the lowest eight bits moves down by eight
after_eight_bits-shifted : (n : ℕ) → after_eight_bits (n * 256) ≡ n
unfolding after_eight_bits
after_eight_bits-shifted n =
    let e : n * 256 ≡ n * 2 * 2 * 2 * 2 * 2 * 2 * 2 * 2 = omega arith in
    rw e (simp after_bit-double)

split_at_8 : (x : ℕ) → bit_xor (x / 256 * 256) (x % 256) ≡ x
split_at_8 x =
    let low : x % 256 < 2 ^ 8 = omega arith in
    let joined : bit_xor (x / 256 * 2 ^ 8 + 0) (0 * 2 ^ 8 + x % 256) ≡ bit_xor (x / 256) 0 * 2 ^ 8 + bit_xor 0 (x % 256) = xor_block 8 (x / 256) 0 0 (x % 256) (omega arith) low in
    let high : x / 256 * 2 ^ 8 + 0 ≡ x / 256 * 256 = omega arith in
    let under : 0 * 2 ^ 8 + x % 256 ≡ x % 256 = omega arith in
    let same : bit_xor (x / 256) 0 * 2 ^ 8 + bit_xor 0 (x % 256) ≡ x / 256 * 256 + x % 256 = ap (λ a. a * 256 + bit_xor 0 (x % 256)) (xor_zero_r (x / 256)) ∙ ap (λ b. x / 256 * 256 + b) (xor_zero_l (x % 256)) in
    sym (ap (λ a. bit_xor a (x % 256)) high) ∙ sym (ap (bit_xor (x / 256 * 2 ^ 8 + 0)) under) ∙ joined ∙ same ∙ omega arith

-- each entry of the table is what is left of its place
pub table_rule : REMAINDERS ≡ map after_eight_bits (range_with_len 0 256)
unfolding after_eight_bits after_bit
table_rule = refl

pub table_at : (i : ℕ) → i < 256 → slice_index_or REMAINDERS i 0 ≡ after_eight_bits i
table_at i small = ap (λ t. get_or t i 0) table_rule ∙ get_or-map-range_with_len after_eight_bits 0 256 i i 0 small (omega arith)

-- the lowest byte is looked up, and what stands above it moves down
pub after_byte-by_table : (register byte : ℕ) → byte < 256 → after_byte register byte ≡ bit_xor (register / 256) (after_eight_bits (bit_xor register byte % 256))
unfolding after_byte
after_byte-by_table register byte small =
    let x = bit_xor register byte in
    let moved : x / 256 ≡ register / 256 = xor_shr register byte 8 ∙ ap (bit_xor (register / 256)) (let e : byte / 256 ≡ 0 = omega arith in e) ∙ xor_zero_r (register / 256) in
    ap after_eight_bits (sym (split_at_8 x)) ∙ after_eight_bits-xor (x / 256 * 256) (x % 256) ∙ ap (λ h. bit_xor h (after_eight_bits (x % 256))) (after_eight_bits-shifted (x / 256) ∙ moved)
