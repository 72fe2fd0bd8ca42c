-- What a check answers that rests on one test, and two checks of the same bytes.
use Rattle.std.proofs.Common.{◌≡◌, ℕ, Bool, true, false, List, length, take, Option, Some, None, IfSome, refl, sym, ap, ◌∙◌, arith, cond, subst}
use Rattle.std.specs.Option.{option_map}
use Rattle.std.proofs.lemmas.List.{take_all}
use Rattle.bb_base.specs.Checked.{IsPassed, IsSameCheck}
use Rattle.bb_base.specs.Form.{Form}
use Rattle.bb_base.specs.declared.format.Passed.{Passed}

-- the test decides what passes, and the area that then passes is what was left
pub passed_by_test :
    (test : Bool) (form : Form) (fed left kept : List ℕ) (answer : Option Passed) →
    form.passes fed ≡ cond test (Some kept) None → (test ≡ true → left ≡ kept) →
    answer ≡ cond test (Some (record { len = length left; old = form.aged fed })) None →
    IsPassed form fed left answer
passed_by_test true form fed left kept answer e same f =
    let is : left ≡ kept = same refl in
    let given : List ℕ → Option Passed =
    λ area. Some (record { len = length area; old = form.aged fed }) in
    record {
      is =
          f ∙ ap given is
          ∙ sym (ap (option_map (λ area. record { len = length area; old = form.aged fed })) e);
      area =
          subst (λ (passes : Option (List ℕ)). IfSome passes (λ area. take (length area) left ≡ area))
          (sym e)
          (subst (λ (l : List ℕ). take (length l) left ≡ l) is
          (take_all (length left) left (omega arith)));
    }
passed_by_test false form fed left kept answer e same f = record {
  is = f ∙ sym (ap (option_map (λ area. record { len = length area; old = form.aged fed })) e);
  area =
      subst (λ (passes : Option (List ℕ)). IfSome passes (λ area. take (length area) left ≡ area))
      (sym e) tt;
}

-- what stands in front of both is the area that passes
fronts_same :
    (passes : Option (List ℕ)) (old : List ℕ → Passed) (one_left other_left : List ℕ) →
    ((area : List ℕ) → (old area).len ≡ length area) →
    IfSome passes (λ area. take (length area) one_left ≡ area) →
    IfSome passes (λ area. take (length area) other_left ≡ area) →
    IfSome (option_map old passes)
    (λ passed. take passed.len one_left ≡ take passed.len other_left)
fronts_same None old one_left other_left is one other = tt
fronts_same (Some area) old one_left other_left is one other =
    ap (λ n. take n one_left) (is area) ∙ one ∙ sym other
    ∙ ap (λ n. take n other_left) (sym (is area))

pub same_check :
    (form : Form) (fed one_left other_left : List ℕ) (one other : Option Passed) →
    IsPassed form fed one_left one → IsPassed form fed other_left other →
    IsSameCheck one_left other_left one other
same_check form fed one_left other_left one other h i = record {
  answer = h.is ∙ sym i.is;
  area =
      subst
      (λ (answer : Option Passed).
      IfSome answer (λ passed. take passed.len one_left ≡ take passed.len other_left))
      (sym h.is)
      (fronts_same (form.passes fed)
      (λ area. record { len = length area; old = form.aged fed }) one_left other_left
      (λ _. refl) h.area i.area);
}
