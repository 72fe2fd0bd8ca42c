-- Where the first colon of a text stands, as `position` and as `position_or_len` say it.
use Rattle.std.proofs.Common.{◌≡◌, ℕ, ◌≤◌, ◌==◌, List, length, Some, None, arith}
use Rattle.std.proofs.lemmas.Grind.{common_steps}
use Rattle.std.specs.Prelude.{position}
use Rattle.std.specs.List.{position_or_len}
use Rattle.std.proofs.lemmas.Iterator.Adapters.{position_from-zero}

pub at_colon : (text : List ℕ) (k : ℕ) → position (λ c. c == 58) text ≡ Some k → position_or_len (λ c. c == 58) text ≡ k
at_colon text k h = let e = position_from-zero (λ c. c == 58) text in grind (arith, common_steps)

pub no_colon : (text : List ℕ) → position (λ c. c == 58) text ≡ None → length text ≤ position_or_len (λ c. c == 58) text
no_colon text h = let e = position_from-zero (λ c. c == 58) text in grind (arith, common_steps)
