-- A call that counts itself exactly where it fails fails only where the count rose.
use Rattle.std.proofs.Common.{◌≡◌, ℕ, ◌+◌, ◌-◌, ◌^◌, ◌≤◌, Bool, true, false, Result, Ok, Err, IsErr, is_err, arith, rules, subst, sym}
use Rattle.bb_base.specs.Faults.{HasCause, Rose, counted, one_more}

pub one_more_rose : (before : ℕ) → Rose before (one_more before)
one_more_rose before = grind arith

pub one_more_later : (before : ℕ) → before ≤ one_more before
one_more_later before = grind arith

pub has_cause : {T E : Type 0} (result : Result T E) (before now : ℕ) →
    now ≡ counted (is_err result) before → HasCause before now (IsErr result)
has_cause (Ok value) before now e = record { later = omega arith; rose = λ no. search rules }
has_cause (Err fault) before now e = record {
  later = subst (λ n. before ≤ n) (sym e) (one_more_later before);
  rose = λ yes. subst (λ n. Rose before n) (sym e) (one_more_rose before);
}
