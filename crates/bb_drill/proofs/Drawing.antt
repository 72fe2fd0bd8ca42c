-- Draws: one session more, and those that are left.
use Rattle.std.proofs.Common.{◌≡◌, ℕ, ◌+◌, ◌-◌, ◌<◌, ◌≤◌, zero, suc, List, [], ◌∷◌, ◌++◌, length, ap, ap₂, append-nil, append_assoc, refl, sym, ◌∙◌, arith}
use Rattle.bb_drill.specs.declared.drawn.DrawnSession.{DrawnSession}
use Rattle.bb_drill.specs.Draws.{draws_from, session_from}

draws_on : (x done count : ℕ) → done < count → draws_from x (count - done) ≡ (session_from x).0 ∷ draws_from (session_from x).1 (count - (done + 1))
unfolding draws_from
draws_on x done count h =
    let e : count - done ≡ suc (count - (done + 1)) = omega (arith, h) in
    ap (draws_from x) e

-- what was drawn, with one session more, and what is left
pub drawn_on : (x x' done count : ℕ) (items more all : List DrawnSession) (session : DrawnSession) → done < count → session ≡ (session_from x).0 → x' ≡ (session_from x).1 → more ≡ items ++ session ∷ [] → items ++ draws_from x (count - done) ≡ all → more ++ draws_from x' (count - (done + 1)) ≡ all
drawn_on x x' done count items more all session h session_is state_is more_is so =
    let left = count - (done + 1) in
    let rest = draws_from (session_from x).1 left in
    ap₂ (λ (front : List DrawnSession) (state : ℕ). front ++ draws_from state left) more_is state_is
    ∙ append_assoc items (session ∷ []) rest
    ∙ ap (λ (behind : List DrawnSession). items ++ behind) (ap (λ (first : DrawnSession). first ∷ rest) session_is ∙ sym (draws_on x done count h))
    ∙ so

pub drawn_all : (x done count : ℕ) (items all : List DrawnSession) → count ≤ done → items ++ draws_from x (count - done) ≡ all → items ≡ all
unfolding draws_from
drawn_all x done count items all h so =
    let none : count - done ≡ 0 = omega (arith, h) in
    sym (ap (λ (n : ℕ). items ++ draws_from x n) none ∙ append-nil items) ∙ so

pub length-draws_from : (x n : ℕ) → length (draws_from x n) ≡ n
unfolding draws_from
length-draws_from x zero = refl
length-draws_from x (suc n) = ap suc (length-draws_from (session_from x).1 n)
