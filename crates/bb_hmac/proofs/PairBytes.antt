-- The bytes of digits, by pairs.
use Rattle.std.proofs.Common.{◌≡◌, ℕ, ◌+◌, ◌*◌, ◌/◌, ◌%◌, ◌≤◌, List, [], ◌∷◌, ◌++◌, append_assoc, drop, length, length-append, min, take, Ok, refl, ap, ◌∙◌, sym, arith, Option, Some, None, unwrap_or, is_some, true}
use Rattle.std.proofs.lemmas.Grind.{common_steps}
use Rattle.std.proofs.lemmas.List.Elements.{All-drop, All-head, All-same, All-tail, All-take}
use Rattle.std.proofs.lemmas.List.{append-nil, length-take-le, take-append-drop, take_at}
use Rattle.std.specs.List.{AllPass}
use Rattle.sha2.specs.Hashers.{Holds256}
use Rattle.sha2.specs.declared.Sha256.{Sha256}
use Rattle.hex.specs.Hex.{decode_of, decode_pairs, decode_sized, digit_or_error, hex_digit_value, is_hex_digit, pair_value}
use Rattle.hex.proofs.HexLemmas.{decode_of-even, decode_sized-twice}
use Rattle.hex.proofs.Pairs.{cons_byte, decode_pairs-ok_pair}
use Rattle.bb_hmac.specs.Key.{IsHexadecimal}

abbrev digit_value : ℕ → ℕ
digit_value c = unwrap_or (hex_digit_value c) 0

unfoldable pub pair_bytes : List ℕ → List ℕ
pair_bytes [] = []
pair_bytes (digit ∷ []) = []
pair_bytes (high ∷ low ∷ rest) = (digit_value high * 16 + digit_value low) ∷ pair_bytes rest

digit_reads : (c i : ℕ) (o : Option ℕ) → is_some o ≡ true
    → digit_or_error c i o ≡ Ok (unwrap_or o 0)
digit_reads c i (Some v) h = refl
digit_reads c i None h = absurd cc

pairs_read : (i : ℕ) (s : List ℕ) → length s % 2 ≡ 0 → AllPass is_hex_digit s
    → decode_pairs i s ≡ Ok (pair_bytes s)
unfolding decode_pairs pair_bytes
pairs_read i [] even h = refl
pairs_read i (a ∷ []) even h = absurd (omega arith)
pairs_read i (a ∷ b ∷ rest) even h =
    let tail = All-tail (λ c. is_hex_digit c ≡ true) a (b ∷ rest) h in
    let ha = digit_reads a i (hex_digit_value a) (All-head (λ c. is_hex_digit c ≡ true) a (b ∷ rest) h) in
    let hb = digit_reads b (i + 1) (hex_digit_value b) (All-head (λ c. is_hex_digit c ≡ true) b rest tail) in
    let ih = pairs_read (i + 2) rest (omega arith) (All-tail (λ c. is_hex_digit c ≡ true) b rest tail) in
    let pair : pair_value a b i ≡ Ok (digit_value a * 16 + digit_value b) = rw (ha, hb) refl in
    decode_pairs-ok_pair i a b _ rest pair ∙ ap (cons_byte (digit_value a * 16 + digit_value b)) ih

pub decoded : (s : List ℕ) → IsHexadecimal s → decode_of s ≡ Ok (pair_bytes s)
decoded s h = decode_of-even s h.even ∙ pairs_read 0 s h.even h.each

pub decoded_into : (s : List ℕ) (n : ℕ) → length s ≡ 2 * n → IsHexadecimal s
    → decode_sized s n ≡ Ok (pair_bytes s)
decoded_into s n twice h = decode_sized-twice s n twice ∙ decoded s h

pub pair_bytes_append : (s t : List ℕ) → length s % 2 ≡ 0
    → pair_bytes (s ++ t) ≡ pair_bytes s ++ pair_bytes t
unfolding pair_bytes
pair_bytes_append [] t even = refl
pair_bytes_append (a ∷ []) t even = absurd (omega arith)
pair_bytes_append (a ∷ b ∷ rest) t even = ap (λ more. (digit_value a * 16 + digit_value b) ∷ more) (pair_bytes_append rest t (omega arith))

pub length_pair_bytes : (s : List ℕ) → length s % 2 ≡ 0 → length s ≡ 2 * length (pair_bytes s)
unfolding pair_bytes
length_pair_bytes [] even = refl
length_pair_bytes (a ∷ []) even = absurd (omega arith)
length_pair_bytes (a ∷ b ∷ rest) even = let ih = length_pair_bytes rest (omega arith) in omega arith

-- the bytes of the digits in front of the rest are hashed
pub record HashedTo (hasher : Sha256) (digits rest : List ℕ) : Type 0 where
  pub spelt : IsHexadecimal rest
  pub fed : List ℕ
  pub holds : Holds256 hasher fed
  pub whole : fed ++ pair_bytes rest ≡ pair_bytes digits

-- the parts of digits that are cut after an even number
pub spelt_parts : (front behind : List ℕ) → length front % 2 ≡ 0 → IsHexadecimal (front ++ behind)
    → IsHexadecimal front × IsHexadecimal behind
spelt_parts front behind even h =
    let len = length-append front behind in (
      record {
        each = All-same (λ c. is_hex_digit c ≡ true) front (take (length front) (front ++ behind)) (grind (arith, common_steps)) (All-take (λ c. is_hex_digit c ≡ true) (length front) (front ++ behind) h.each);
        even = even;
      },
      record {
        each = All-same (λ c. is_hex_digit c ≡ true) behind (drop (length front) (front ++ behind)) (grind (arith, common_steps)) (All-drop (λ c. is_hex_digit c ≡ true) (length front) (front ++ behind) h.each);
        even = let e = h.even in omega (arith, len);
      },
    )

pub hashed_more : (before after : Sha256) (digits front behind : List ℕ)
    → HashedTo before digits (front ++ behind)
    → length front % 2 ≡ 0
    → ((m : List ℕ) → Holds256 before m → Holds256 after (m ++ pair_bytes front))
    → HashedTo after digits behind
hashed_more before after digits front behind h even step = record {
  spelt = (spelt_parts front behind even h.spelt).1;
  fed = h.fed ++ pair_bytes front;
  holds = step h.fed h.holds;
  whole = append_assoc h.fed (pair_bytes front) (pair_bytes behind)
      ∙ ap (λ l. h.fed ++ l) (sym (pair_bytes_append front behind even)) ∙ h.whole;
}

-- the piece that is taken at a time, and what is left after it
pub record IsCut (rest piece behind : List ℕ) : Type 0 where
  pub whole : piece ++ behind ≡ rest
  pub even : length piece % 2 ≡ 0
  pub room : length piece ≤ 128
  pub spelt : IsHexadecimal piece

pub cut : (rest piece behind : List ℕ) (n : ℕ) → n ≡ min (length rest) 128 → piece ≡ take n rest
    → behind ≡ drop n rest → IsHexadecimal rest
    → IsCut rest piece behind
cut rest piece behind n least front back h =
    let len : length piece ≡ n = ap length front ∙ length-take-le n rest (omega arith) in
    let rest_even = h.even in
    let even : length piece % 2 ≡ 0 = omega arith in
    let whole : piece ++ behind ≡ rest = ap (λ l. l ++ behind) front
    ∙ ap (λ l. take n rest ++ l) back ∙ take-append-drop n rest in
    record { whole = whole; even = even; room = omega arith; spelt = (spelt_parts piece behind even (rw whole h)).0 }

-- the bytes of a piece stand in front of what was there
pub front_bytes : (piece out old : List ℕ) → length piece % 2 ≡ 0
    → out ≡ pair_bytes piece ++ drop (length (pair_bytes piece)) old
    → take (length piece / 2) out ≡ pair_bytes piece
front_bytes piece out old even e =
    let len = length_pair_bytes piece even in
    ap (take (length piece / 2)) e
    ∙ take_at (pair_bytes piece) (drop (length (pair_bytes piece)) old) (length piece / 2) (omega arith)

pub hashed_all : (hasher : Sha256) (digits rest : List ℕ) → length rest ≡ 0
    → HashedTo hasher digits rest → Holds256 hasher (pair_bytes digits)
unfolding pair_bytes
hashed_all hasher digits [] none h = rw (sym (h.whole) ∙ append-nil h.fed) h.holds
hashed_all hasher digits (digit ∷ rest) none h = absurd (omega arith)
