-- The test for UTF-8.
use Rattle.std.proofs.Common.{◌≡◌, ℕ, ◌&&◌, List, [], ◌∷◌, Bool, true, false, inl, inr, refl}
use Rattle.std.specs.Prelude.{nat_lt}
use Rattle.std.specs.List.{list_all}
use Rattle.std.specs.Str.{IsAscii, IsUtf8, is_utf8}
use Rattle.std.proofs.lemmas.Bool.{cases_Bool, ltb-true}
use Rattle.std.proofs.lemmas.Str.{IsUtf8-from_ascii, IsUtf8-from_is_utf8, is_utf8-from_IsUtf8}
use Rattle.std.proofs.lemmas.Str.Ascii.{IsAscii-nil, IsAscii-cons}

pub passes_as_text : (bs : List ℕ) → IsUtf8 bs → is_utf8 bs ≡ true
passes_as_text bs h = is_utf8-from_IsUtf8 bs h

pub fails_as_text : (bs : List ℕ) → (IsUtf8 bs → ⊥) → is_utf8 bs ≡ false
fails_as_text bs h =
    elim (cases_Bool (is_utf8 bs)) [
      | inl e ↦ absurd (h (IsUtf8-from_is_utf8 bs e))
      | inr e ↦ e
    ]

-- ASCII characters are UTF-8
abbrev pub is_ascii : List ℕ → Bool
is_ascii bs = list_all (λ c. nat_lt c 128) bs

all_ascii : (bs : List ℕ) → is_ascii bs ≡ true → IsAscii bs
all_ascii [] h = IsAscii-nil
all_ascii (c ∷ cs) h = first (nat_lt c 128) refl h (all_ascii cs)
  where
    first : (b : Bool) → nat_lt c 128 ≡ b → (b && is_ascii cs) ≡ true → (is_ascii cs ≡ true → IsAscii cs) → IsAscii (c ∷ cs)
    first true is rest behind = IsAscii-cons c cs (ltb-true c 128 is) (behind rest)
    first false is rest behind = absurd (cc)

pub ascii_is_text : (bs : List ℕ) → is_ascii bs ≡ true → is_utf8 bs ≡ true
ascii_is_text bs h = is_utf8-from_IsUtf8 bs (IsUtf8-from_ascii bs (all_ascii bs h))
