-- A number that is kept up to a limit while digits are added at its end.
use Rattle.std.proofs.Common.{◌≡◌, ℕ, ◌+◌, ◌*◌, ◌<◌, ◌≤◌, ◌⊎◌, min, arith, inl, inr, sym, ap, ◌∙◌}
use Rattle.std.proofs.Math.Nat.{le-mul_of_pos_right}
use Rattle.std.proofs.lemmas.Bool.{cases_lt}

min-past : (value limit : ℕ) → limit ≤ value → min value limit ≡ limit
min-past value limit past = omega arith

more_by_cases : (value radix digit limit : ℕ) → 1 ≤ radix → (value < limit) ⊎ (limit ≤ value) → min (min value limit * radix + digit) limit ≡ min (value * radix + digit) limit
more_by_cases value radix digit limit some (inl below) =
    ap (λ v. min (v * radix + digit) limit) (let e : min value limit ≡ value = omega arith in e)
more_by_cases value radix digit limit some (inr past) =
    let stays : limit ≤ limit * radix = le-mul_of_pos_right limit some in
    let grows : value ≤ value * radix = le-mul_of_pos_right value some in
    ap (λ v. min (v * radix + digit) limit) (min-past value limit past) ∙ min-past (limit * radix + digit) limit (omega arith) ∙ sym (min-past (value * radix + digit) limit (omega arith))

-- once the limit is reached, further digits don't lead below it
pub min-more : (value radix digit limit : ℕ) → 1 ≤ radix → min (min value limit * radix + digit) limit ≡ min (value * radix + digit) limit
min-more value radix digit limit some = more_by_cases value radix digit limit some (cases_lt value limit)
