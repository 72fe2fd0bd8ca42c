-- What an answer says of the text.
use Rattle.std.proofs.Common.{◌≡◌, ℕ, ◌<◌, List, false, IsUtf8, inl, inr, length, refl, Err}
use Rattle.std.proofs.lemmas.Bool.{cases_Bool, le-ltb, lt-ltb}
use Rattle.std.proofs.lemmas.Str.{IsUtf8-from_is_utf8}
use Rattle.std.specs.Str.{is_utf8}
use Rattle.bb_bls.specs.Entry.{IsShortNoText, IsShortText, entry_in, entry_of, pairs_of}
use Rattle.bb_bls.specs.declared.error.EntryError.TheVariants.{NotText, TooLong}

pub not_utf8 : (text : List ℕ) → (IsUtf8 text → ⊥) → is_utf8 text ≡ false
not_utf8 text h = elim (cases_Bool (is_utf8 text)) [
  | inl e ↦ absurd (h (IsUtf8-from_is_utf8 text e))
  | inr e ↦ e
]

pub of_long : (text : List ℕ) → 65536 < length text → entry_of text ≡ Err TooLong
of_long text h = rw (lt-ltb 65536 (length text) h) refl

pub of_no_text : (text : List ℕ) → IsShortNoText text → entry_of text ≡ Err NotText
of_no_text text h = rw (le-ltb 65536 (length text) h.short) (rw h.no_text refl)

pub of_text : (text : List ℕ) → IsShortText text → entry_of text ≡ entry_in (pairs_of text)
of_text text h = rw (le-ltb 65536 (length text) h.short) (rw h.utf8 refl)
