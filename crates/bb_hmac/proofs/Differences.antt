-- Bits in which bytes differ.
use Rattle.std.proofs.Common.{◌≡◌, ℕ, ◌+◌, ◌<◌, List, length, take, get_or, bit_or, bit_xor, ◌↔◌, sym, ap, ◌∙◌, arith}
use Rattle.std.proofs.lemmas.List.{get_or-take, take_more_same, take-take}
use Rattle.std.proofs.lemmas.Nat.{le_or_l, le_or_r}
use Rattle.std.specs.Int.Bits.{xor_self, xor_assoc, xor_zero_r}

same_from_xor : (a b : ℕ) → bit_xor a b ≡ 0 → a ≡ b
same_from_xor a b h =
    sym (xor_zero_r a) ∙ ap (bit_xor a) (sym (xor_self b)) ∙ sym (xor_assoc a b b)
    ∙ ap (λ x. bit_xor x b) h

xor_from_same : (a b : ℕ) → a ≡ b → bit_xor a b ≡ 0
xor_from_same a b e = ap (λ x. bit_xor x b) e ∙ xor_self b

-- no bit differs in one byte more
pub differing_step : (d i : ℕ) (xs ys : List ℕ) → i < length xs → i < length ys
    → (d ≡ 0) ↔ (take i xs ≡ take i ys)
    → (bit_or d (bit_xor (get_or xs i 0) (get_or ys i 0)) ≡ 0) ↔ (take (i + 1) xs ≡ take (i + 1) ys)
differing_step d i xs ys inside there h =
    let x = get_or xs i 0 in
    let y = get_or ys i 0 in (
      λ none.
          let before = h.0 (omega (arith, le_or_l d (bit_xor x y))) in
          let here : bit_xor x y ≡ 0 = omega (arith, le_or_r d (bit_xor x y)) in
          take_more_same xs ys i 0 inside there before (same_from_xor x y here),
      λ same.
          let before : take i xs ≡ take i ys =
          sym (take-take i (i + 1) xs (omega arith)) ∙ ap (take i) same
          ∙ take-take i (i + 1) ys (omega arith) in
          let here : x ≡ y =
          sym (get_or-take (i + 1) xs i 0 (omega arith)) ∙ ap (λ l. get_or l i 0) same
          ∙ get_or-take (i + 1) ys i 0 (omega arith) in
          ap (λ n. bit_or n (bit_xor x y)) (h.1 before) ∙ ap (bit_or 0) (xor_from_same x y here),
    )
