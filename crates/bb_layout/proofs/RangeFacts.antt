-- What the length of an area says of its variables.
use Rattle.std.proofs.Common.{◌≡◌, ◌≢◌, ℕ, zero, suc, ◌<◌, ◌≤◌, false, List, [], ◌∷◌, length, get_or, arith, sym, ◌∙◌, inl, inr, All, AllPairs, max, min}
use Rattle.std.proofs.lemmas.Bool.{cases_lt, false≢true}
use Rattle.std.proofs.lemmas.Bool.Decides.{nat_tests}
use Rattle.std.proofs.lemmas.Slice.Eq.{bytes_eq-Decides}
use Rattle.bb_layout.specs.Ranges.{some_pair, end_of, has_same_name, shares_byte, greatest_end, AreApart}
use Rattle.bb_layout.specs.declared.var.Var.{Var}
use Rattle.bb_layout.specs.Variables.{IsWellFormed}
use Rattle.bb_layout.proofs.Pairs.{pair_not}

pub names_apart : (vars : List Var) → some_pair has_same_name vars ≡ false → AllPairs (λ a b. a.name ≢ b.name) vars
names_apart vars h = λ i j d l m e.
    false≢true (sym (pair_not has_same_name vars i j d h l m) ∙ (bytes_eq-Decides (get_or vars j d).name (get_or vars i d).name).1 (sym e))

one_behind : (a b : Var) → 1 ≤ a.size → 1 ≤ b.size → shares_byte a b ≡ false → AreApart a b
one_behind a b some more h =
    let gap : min (end_of a) (end_of b) ≤ max a.at b.at = grind (arith, nat_tests) in
    elim (cases_lt b.at (end_of a)) [
      | inl lt ↦ inr (omega arith)
      | inr ge ↦ inl ge
    ]

pub ranges_apart : (vars : List Var) → All IsWellFormed vars → some_pair shares_byte vars ≡ false → AllPairs AreApart vars
ranges_apart vars all h = λ i j d l m.
    let front : i < length vars = omega arith in
    one_behind (get_or vars i d) (get_or vars j d) (all i d front).some (all j d m).some (pair_not shares_byte vars i j d h l m)

ends_within : (vars : List Var) (n : ℕ) → greatest_end vars ≤ n → All (λ v. end_of v ≤ n) vars
ends_within [] n h k d l = absurd (omega arith)
ends_within (v ∷ vs) n h zero d l = omega arith
ends_within (v ∷ vs) n h (suc k) d l = ends_within vs n (omega arith) k d (omega arith)

pub ends_inside : (vars : List Var) → All (λ v. end_of v ≤ greatest_end vars) vars
ends_inside vars = ends_within vars (greatest_end vars) (omega arith)
