-- What is looked at before a script's words: its length, and that it is UTF-8.
use Rattle.std.proofs.Common.{◌≡◌, ◌≢◌, ℕ, ◌<◌, ◌≤◌, ◌⊎◌, List, false, IsUtf8, inl, inr, length, refl, ap, sym, Ok, Err, arith, ◌∙◌}
use Rattle.std.proofs.lemmas.Bool.{cases_Bool, le-ltb, lt-ltb}
use Rattle.std.proofs.lemmas.Str.{IsUtf8-from_is_utf8}
use Rattle.std.specs.Str.{is_utf8}
use Rattle.bb_script.specs.declared.error.ScriptError.{ScriptError}
use Rattle.bb_script.specs.declared.error.ScriptError.TheVariants.{NotText, TooLong, Unclosed, Unexpected, TooDeep, NoMemory}
use Rattle.bb_script.specs.Descent.{RefusesScript}
use Rattle.bb_script.specs.Script.{IsShortNoText, IsShortText, Refuses, script_in, script_of}
use Rattle.bb_script.specs.Walk.{ScriptResult}

pub not_utf8 : (text : List ℕ) → (IsUtf8 text → ⊥) → is_utf8 text ≡ false
not_utf8 text never = elim (cases_Bool (is_utf8 text)) [
  | inl is ↦ absurd (never (IsUtf8-from_is_utf8 text is))
  | inr is_not ↦ is_not
]

of_long : (text : List ℕ) → 65536 < length text → script_of text ≡ Err TooLong
of_long text long = rw (lt-ltb 65536 (length text) long) refl

of_no_text : (text : List ℕ) → IsShortNoText text → script_of text ≡ Err NotText
of_no_text text h = rw (le-ltb 65536 (length text) h.short) (rw h.no_text refl)

pub of_text : (text : List ℕ) → IsShortText text → script_of text ≡ script_in text
of_text text h = rw (le-ltb 65536 (length text) h.short) (rw h.utf8 refl)

pub of_bad : (text : List ℕ) (e : ScriptError)
    → ((e ≡ TooLong) × (65536 < length text)) ⊎ ((e ≡ NotText) × IsShortNoText text)
    → Refuses (script_of text) e
of_bad text e (inl long) other = of_long text long.1 ∙ ap Err (sym long.0)
of_bad text e (inr bad) other = of_no_text text bad.1 ∙ ap Err (sym bad.0)

pub long_is : (text : List ℕ) (e : ScriptError)
    → ((e ≡ TooLong) × (65536 < length text)) ⊎ ((e ≡ NotText) × IsShortNoText text)
    → 65536 < length text → e ≡ TooLong
long_is text e (inl long) h = long.0
long_is text e (inr bad) h = let short = bad.1.short in absurd (omega arith)

pub no_text_is : (text : List ℕ) (e : ScriptError)
    → ((e ≡ TooLong) × (65536 < length text)) ⊎ ((e ≡ NotText) × IsShortNoText text)
    → IsShortNoText text → e ≡ NotText
no_text_is text e (inl long) h = let short = h.short in absurd (omega (arith, long.1))
no_text_is text e (inr bad) h = bad.0

pub refuses_by : (result : ScriptResult) (e : ScriptError) → RefusesScript result e
    → Refuses result e
refuses_by result TooLong same other = cc
refuses_by result NotText same other = cc
refuses_by result (Unclosed at) same other = cc
refuses_by result (Unexpected at) same other = cc
refuses_by result (TooDeep at) same other = cc
refuses_by result NoMemory same other = absurd (other refl)
