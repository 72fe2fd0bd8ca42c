-- Texts without a `=`.
use Rattle.std.proofs.Common.{◌≡◌, ℕ, suc, ◌+◌, ◌==◌, Bool, true, false, ◌||◌, not, cond, List, [], ◌∷◌, length, refl, arith}
use Rattle.std.specs.List.{list_any, position_or_len}

none_at : (b rest : Bool) (n m : ℕ) → cond (not b) (1 + n) 0 ≡ suc m → (n ≡ m → rest ≡ false) → (b || rest) ≡ false
none_at true rest n m h ih = absurd (omega arith)
none_at false rest n m h ih = ih (omega arith)

pub no_sign : (text : List ℕ) → position_or_len (λ c. c == 61) text ≡ length text → list_any (λ c. c == 61) text ≡ false
no_sign [] h = refl
no_sign (c ∷ text) h = none_at (c == 61) _ (position_or_len (λ c. c == 61) text) (length text) h (no_sign text)
