-- What the check of a record answers, in however many pieces the record came.
use Rattle.std.specs.Prelude.{◌≡◌, ℕ, List, length, take, Option, IfSome}
use Rattle.std.specs.Option.{option_map}
use Rattle.bb_base.specs.Form.{Form}
use Rattle.bb_base.specs.declared.format.Passed.{Passed}

-- what bytes pass as: the length of the area and whether it is old, or none
abbrev pub passed_of : Form → List ℕ → Option Passed
passed_of form bytes =
    option_map (λ area. record { len = length area; old = form.aged bytes }) (form.passes bytes)

-- The answer is what the bytes pass as, and the area that they pass as stands in front of what the
-- check left.
pub record IsPassed (form : Form) (bytes left : List ℕ) (answer : Option Passed) : Type 0 where
  pub is : answer ≡ passed_of form bytes
  pub area : IfSome (form.passes bytes) (λ area. take (length area) left ≡ area)

-- two checks answer the same, and leave the same area
pub record IsSameCheck (one_left other_left : List ℕ) (one other : Option Passed) : Type 0 where
  pub answer : one ≡ other
  pub area : IfSome one (λ passed. take passed.len one_left ≡ take passed.len other_left)
