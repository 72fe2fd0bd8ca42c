-- A number's field is the cell that holds the number.
use Rattle.std.proofs.Common.{◌≡◌, ℕ, ◌<◌, List, [], ◌∷◌, length, get_or, reverse, refl, sym, ap, ◌∙◌, arith}
use Rattle.std.specs.Int.{w8, w32, from_le_bytes, to_be_bytes, to_le_bytes}
use Rattle.std.proofs.lemmas.Nat.{le_bytes_4}
use Rattle.bb_dtbrec.specs.declared.piece.Spelling.TheVariants.{ByteAsCell, NumberAsCell}
use Rattle.bb_dtbrec.specs.Dtb.{field_of}

turned_round : (n : ℕ) → reverse (to_le_bytes w32 n) ≡ to_be_bytes w32 n
turned_round n = refl

-- a number of 4 bytes, little endian
pub number_as_cell : (bytes : List ℕ) → length bytes ≡ 4 → ((i : ℕ) → get_or bytes i 0 < 256) →
    field_of NumberAsCell bytes ≡ to_be_bytes w32 (from_le_bytes w32 bytes)
number_as_cell bytes four small =
    ap reverse (sym (le_bytes_4 bytes (from_le_bytes w32 bytes) four small refl))
    ∙ turned_round (from_le_bytes w32 bytes)

four_bytes : (a b c d e f g h : ℕ) → a ≡ e → b ≡ f → c ≡ g → d ≡ h →
    (a ∷ b ∷ c ∷ d ∷ []) ≡ e ∷ f ∷ g ∷ h ∷ []
four_bytes a b c d e f g h p q r s = cc

small_cell : (b : ℕ) → b < 256 → (0 ∷ 0 ∷ 0 ∷ b ∷ []) ≡ to_be_bytes w32 b
small_cell b small =
    four_bytes 0 0 0 b _ _ _ _ (omega arith) (omega arith) (omega arith) (omega arith)

one_byte : (b : ℕ) → from_le_bytes w8 (b ∷ []) ≡ b
one_byte b = omega arith

-- a number of 1 byte
pub byte_as_cell : (b : ℕ) → b < 256 →
    field_of ByteAsCell (b ∷ []) ≡ to_be_bytes w32 (from_le_bytes w8 (b ∷ []))
byte_as_cell b small = small_cell b small ∙ ap (to_be_bytes w32) (sym (one_byte b))
