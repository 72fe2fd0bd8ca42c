-- Where blanks end, a text can be cut.
use Rattle.std.proofs.Common.{◌≡◌, ℕ, ◌+◌, ◌-◌, ◌<◌, ◌≤◌, true, false, not, zero, suc, List, get_or, length, IsUtf8, IsCharBoundary, inl, inr, refl, arith, Bool}
use Rattle.std.proofs.lemmas.Bool.{cases_lt}
use Rattle.std.proofs.lemmas.List.Sums.{prefix_len-le-length, prefix_len_passes, prefix_len_stops}
use Rattle.std.proofs.lemmas.Str.{IsCharBoundary-after_ascii, IsCharBoundary-before_ascii, IsCharBoundary-end, IsCharBoundary-start}
use Rattle.std.specs.List.{prefix_len}
use Rattle.bb_bls.specs.Entry.{is_blank}

blank_is_ascii : (c : ℕ) → is_blank c ≡ true → c < 128
blank_is_ascii c h = grind arith

from_not : (b : Bool) → not b ≡ false → b ≡ true
from_not true h = refl
from_not false h = absurd cc

pub before_blank : (text : List ℕ) (n : ℕ) → n < length text → is_blank (get_or text n 0) ≡ true
    → IsCharBoundary text n
before_blank text n inside blank = IsCharBoundary-before_ascii text n inside (blank_is_ascii (get_or text n 0) blank)

behind : (text : List ℕ) (n : ℕ) → IsUtf8 text → prefix_len is_blank text ≡ n
    → IsCharBoundary text n
behind text zero utf8 e = IsCharBoundary-start text utf8
behind text (suc n) utf8 e =
    let most = prefix_len-le-length is_blank text in
    let blank = prefix_len_passes is_blank text n 0 (omega arith) in
    let at : n + 1 ≡ suc n = omega arith in
    rw (Rattle.std.proofs.Common.sym at) (IsCharBoundary-after_ascii text n utf8 (omega arith) (blank_is_ascii (get_or text n 0) blank))

pub behind_the_blanks : (text : List ℕ) → IsUtf8 text
    → IsCharBoundary text (prefix_len is_blank text)
behind_the_blanks text utf8 = behind text (prefix_len is_blank text) utf8 refl

pub behind_the_key : (text : List ℕ) → IsCharBoundary text (prefix_len (λ c. not (is_blank c)) text)
behind_the_key text = elim (cases_lt (prefix_len (λ c. not (is_blank c)) text) (length text)) [
  | inl inside ↦ before_blank text (prefix_len (λ c. not (is_blank c)) text) inside (from_not (is_blank (get_or text (prefix_len (λ c. not (is_blank c)) text) 0)) (prefix_len_stops (λ c. not (is_blank c)) text 0 inside))
  | inr all ↦
      let most = prefix_len-le-length (λ c. not (is_blank c)) text in
      let e : prefix_len (λ c. not (is_blank c)) text ≡ length text = omega arith in
      rw e (IsCharBoundary-end text)
]
