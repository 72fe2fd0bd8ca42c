-- Ranges that stand apart.
use Rattle.std.proofs.Common.{List, AllPairs, arith, inl, inr}
use Rattle.bb_layout.specs.Facts.{ShareNoByte}
use Rattle.bb_layout.specs.Ranges.{AreApart}
use Rattle.bb_layout.specs.declared.var.Var.{Var}

-- they share no byte
pub share_no_byte : (vars : List Var) → AllPairs AreApart vars → AllPairs ShareNoByte vars
share_no_byte vars apart i j d before within k v_from v_to w_from w_to =
    elim (apart i j d before within) [
      | inl h ↦ omega arith
      | inr h ↦ omega arith
    ]
