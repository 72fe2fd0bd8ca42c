-- The text of a MAC address, byte by byte.
use Rattle.std.proofs.Common.{◌≡◌, ◌≢◌, ℕ, ◌+◌, ◌*◌, ◌/◌, ◌%◌, ◌<◌, false, List, [], ◌∷◌, length, get_or, set, arith, below_more, lit<, ◌∙◌}
use Rattle.std.proofs.lemmas.Grind.{common_steps}
use Rattle.std.specs.Fmt.{digit_glyph}
use Rattle.std.proofs.lemmas.Slice.Eq.{text_from_reads}
use Rattle.bb_vars.specs.Mac.{pair_text, mac_text}

-- the text has the first n pairs in their places
abbrev pub HasPairs : List ℕ → List ℕ → ℕ → Type 0
HasPairs text bytes n =
    (k : ℕ) → k < n → (get_or text (3 * k) 0 ≡ digit_glyph false (get_or bytes k 0 / 16)) × (get_or text (3 * k + 1) 0 ≡ digit_glyph false (get_or bytes k 0 % 16))

-- a `:` stands after each of the first five pairs
abbrev pub HasColons : List ℕ → Type 0
HasColons text = (k : ℕ) → k < 5 → get_or text (3 * k + 2) 0 ≡ 58

pub text_from_pairs : (text bytes : List ℕ) → length text ≡ 17 → length bytes ≡ 6 → HasPairs text bytes 6 → HasColons text → text ≡ mac_text bytes
unfolding pair_text
text_from_pairs text (a ∷ b ∷ c ∷ d ∷ e ∷ f ∷ []) long six pairs colons =
    let p0 = pairs 0 (lit< tt) in
    let p1 = pairs 1 (lit< tt) in
    let p2 = pairs 2 (lit< tt) in
    let p3 = pairs 3 (lit< tt) in
    let p4 = pairs 4 (lit< tt) in
    let p5 = pairs 5 (lit< tt) in
    let c0 = colons 0 (lit< tt) in
    let c1 = colons 1 (lit< tt) in
    let c2 = colons 2 (lit< tt) in
    let c3 = colons 3 (lit< tt) in
    let c4 = colons 4 (lit< tt) in
    text_from_reads text (mac_text (a ∷ b ∷ c ∷ d ∷ e ∷ f ∷ [])) long
    (p0.0, (p0.1, (c0, (p1.0, (p1.1, (c1, (p2.0, (p2.1, (c2, (p3.0, (p3.1, (c3, (p4.0, (p4.1, (c4, (p5.0, (p5.1, tt)))))))))))))))))
text_from_pairs text _ long six pairs colons = absurd (omega arith)

-- two bytes written at a place leave the others, and are read there
both_written : (text : List ℕ) (at high low : ℕ) → at + 1 < length text
    → (get_or (set (set text at high) (at + 1) low) at 0 ≡ high) × (get_or (set (set text at high) (at + 1) low) (at + 1) 0 ≡ low)
both_written text at high low inside = (grind (arith, common_steps), grind (arith, common_steps))

others_stay : (text : List ℕ) (at k high low : ℕ) → at ≢ k → at + 1 ≢ k → get_or (set (set text at high) (at + 1) low) k 0 ≡ get_or text k 0
others_stay text at k high low p q = grind (arith, common_steps)

pub pairs_more : (text bytes : List ℕ) (i high low : ℕ) → i < 6 → length text ≡ 17
    → high ≡ digit_glyph false (get_or bytes i 0 / 16) → low ≡ digit_glyph false (get_or bytes i 0 % 16)
    → HasPairs text bytes i → HasPairs (set (set text (3 * i) high) (3 * i + 1) low) bytes (i + 1)
pairs_more text bytes i high low inside long h l before =
    let here = both_written text (3 * i) high low (omega arith) in
    below_more _ i
    (λ k p. (
      others_stay text (3 * i) (3 * k) high low (omega arith) (omega arith) ∙ (before k p).0,
      others_stay text (3 * i) (3 * k + 1) high low (omega arith) (omega arith) ∙ (before k p).1,
    ))
    (here.0 ∙ h, here.1 ∙ l)

pub colons_stay : (text : List ℕ) (i high low : ℕ) → HasColons text → HasColons (set (set text (3 * i) high) (3 * i + 1) low)
colons_stay text i high low before =
    λ k p. others_stay text (3 * i) (3 * k + 2) high low (omega arith) (omega arith) ∙ before k p
