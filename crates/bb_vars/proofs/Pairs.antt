-- Two hexadecimal digits spell the byte that they print, and print again in lower case.
use Rattle.std.proofs.Common.{◌≡◌, ℕ, ◌+◌, ◌*◌, ◌/◌, ◌%◌, ◌<◌, true, false, ◌&&◌, [], ◌∷◌, Some, None, if◌then◌else◌, arith, ◌∙◌, ap}
use Rattle.std.proofs.lemmas.Bool.{and_parts}
use Rattle.std.proofs.lemmas.Bool.Decides.{nat_tests}
use Rattle.std.proofs.lemmas.Option.{cond_some}
use Rattle.std.specs.Char.{is_digit, digit_value, to_ascii_lowercase}
use Rattle.std.specs.Fmt.{digit_glyph}
use Rattle.std.specs.Str.Parse.{digits_value}
use Rattle.bb_vars.specs.Mac.{pair_text, byte_of_pair}

digit_value-glyph : (n : ℕ) → n < 16 → digit_value (digit_glyph false n) ≡ n
digit_value-glyph n small = grind (arith, nat_tests)

is_digit-glyph : (n : ℕ) → n < 16 → is_digit (digit_glyph false n) 16 ≡ true
is_digit-glyph n small = let value = digit_value-glyph n small in grind (arith, nat_tests)

glyph-digit_value : (c : ℕ) → is_digit c 16 ≡ true → digit_glyph false (digit_value c) ≡ to_ascii_lowercase c
glyph-digit_value c digit = grind (arith, nat_tests)

digit_value-below : (c : ℕ) → is_digit c 16 ≡ true → digit_value c < 16
digit_value-below c digit = grind (arith, nat_tests)

pair_value : (high low : ℕ) → digits_value 16 (high ∷ low ∷ []) ≡ digit_value high * 16 + digit_value low
pair_value high low = omega arith

-- the digits of a byte
pub pair_of-glyphs : (b : ℕ) → b < 256 → byte_of_pair (digit_glyph false (b / 16)) (digit_glyph false (b % 16)) ≡ Some b
unfolding byte_of_pair
pair_of-glyphs b small =
    let h = digit_glyph false (b / 16) in
    let l = digit_glyph false (b % 16) in
    let first : b / 16 < 16 = omega arith in
    let second : b % 16 < 16 = omega arith in
    let high : is_digit h 16 ≡ true = is_digit-glyph (b / 16) first in
    let low : is_digit l 16 ≡ true = is_digit-glyph (b % 16) second in
    let value : digits_value 16 (h ∷ l ∷ []) ≡ b =
    omega (arith, pair_value h l, digit_value-glyph (b / 16) first, digit_value-glyph (b % 16) second) in
    ap (λ t. if t && is_digit l 16 then Some (digits_value 16 (h ∷ l ∷ [])) else None) high
    ∙ ap (λ t. if t then Some (digits_value 16 (h ∷ l ∷ [])) else None) low
    ∙ ap (λ v. Some v) value

-- the digits that spell a byte, printed
pub pair_text-of : (high low b : ℕ) → byte_of_pair high low ≡ Some b → pair_text b ≡ to_ascii_lowercase high ∷ to_ascii_lowercase low ∷ []
unfolding byte_of_pair pair_text
pair_text-of high low b spelt =
    let parts = cond_some _ _ _ spelt in
    let digits = and_parts _ _ parts.0 in
    let small = digit_value-below low digits.1 in
    let first : b / 16 ≡ digit_value high = omega (arith, pair_value high low, parts.1, small) in
    let second : b % 16 ≡ digit_value low = omega (arith, pair_value high low, parts.1, small) in
    ap (λ v. digit_glyph false v ∷ digit_glyph false (b % 16) ∷ []) first
    ∙ ap (λ v. digit_glyph false (digit_value high) ∷ digit_glyph false v ∷ []) second
    ∙ ap (λ c. c ∷ digit_glyph false (digit_value low) ∷ []) (glyph-digit_value high digits.0)
    ∙ ap (λ c. to_ascii_lowercase high ∷ c ∷ []) (glyph-digit_value low digits.1)
