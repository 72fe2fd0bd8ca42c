-- One part of a run after another.
use Rattle.std.proofs.Common.{◌≡◌, ℕ, ◌+◌, List, [], ◌∷◌, ◌++◌, map, Option, Some, None, add_assoc, ap, append_assoc, append-nil, arith, refl, sym, subst, ◌∙◌}
use Rattle.std.specs.List.{AllByRecursion}
use Rattle.bb_interpreter.specs.declared.run.ScriptRun.{ScriptRun}
use Rattle.bb_interpreter.specs.Standing.{Act, Answer, Meaning, followed}
use Rattle.bb_interpreter.specs.Runs.{CallGives, IsAct, Leads, act_answer, more_grants, standing_of}

-- whatever is left of memory
abbrev pub Whatever : Option ℕ → Type 0
Whatever left = Unit {0}

all_append : {X : Type 0} (P : X → Type 0) (one two : List X) → AllByRecursion P one → AllByRecursion P two → AllByRecursion P (one ++ two)
all_append P [] two first second = second
all_append P (x ∷ one) two first second = (first.0, all_append P one two first.1 second)

answers_append : {C D : Type 0} (one two : List (Act C D)) (later : List (Answer C D))
    → map act_answer (one ++ two) ++ later ≡ map act_answer one ++ (map act_answer two ++ later)
answers_append [] two later = refl
answers_append (act ∷ one) two later = ap (λ l. act_answer act ∷ l) (answers_append one two later)

more-twice : (a b : ℕ) (left : Option ℕ) → more_grants (a + b) left ≡ more_grants a (more_grants b left)
more-twice a b None = refl
more-twice a b (Some n) = ap Some (add_assoc a b n)

pub more-none : (left : Option ℕ) → more_grants 0 left ≡ left
more-none None = refl
more-none (Some n) = let e : 0 + n ≡ n = omega arith in ap Some e

-- nothing was called, and no memory asked for
pub leads_so : {C D : Type 0} (gives : CallGives C D) (LeavesMemory : Option ℕ → Type 0)
    (one two : Meaning C D) (old new : ScriptRun C) (d : D)
    → ((before : List (Act C D)) (later : List (Answer C D)) (left : Option ℕ) → LeavesMemory left → one (standing_of old d before later left) ≡ two (standing_of new d before later left))
    → Leads gives LeavesMemory one two old new d d
leads_so gives LeavesMemory one two old new d h = record {
  acts = [];
  called = tt;
  asked = 0;
  does = λ before later left is.
      ap (λ n. one (standing_of old d before later n)) (more-none left)
      ∙ h before later left is
      ∙ ap (λ l. two (standing_of new d l later left)) (sym (append-nil before));
}

pub leads_on : {C D : Type 0} (gives : CallGives C D) (LeavesMemory : Option ℕ → Type 0)
    (one two three : Meaning C D) (a b c : ScriptRun C) (from mid to : D)
    → Leads gives Whatever one two a b from mid → Leads gives LeavesMemory two three b c mid to
    → Leads gives LeavesMemory one three a c from to
leads_on gives LeavesMemory one two three a b c from mid to first second = record {
  acts = first.acts ++ second.acts;
  called = all_append (IsAct gives) first.acts second.acts first.called second.called;
  asked = first.asked + second.asked;
  does = λ before later left is.
      ap (λ l. one (standing_of a from before l (more_grants (first.asked + second.asked) left))) (answers_append first.acts second.acts later)
      ∙ ap (λ n. one (standing_of a from before (map act_answer first.acts ++ (map act_answer second.acts ++ later)) n)) (more-twice first.asked second.asked left)
      ∙ first.does before (map act_answer second.acts ++ later) (more_grants second.asked left) tt
      ∙ second.does (before ++ first.acts) later left is
      ∙ ap (λ l. three (standing_of c to l later left)) (append_assoc before first.acts second.acts);
}

-- with the same after both
pub leads_then : {C D : Type 0} (gives : CallGives C D) (LeavesMemory : Option ℕ → Type 0)
    (one two next : Meaning C D) (a b : ScriptRun C) (from to : D)
    → Leads gives LeavesMemory one two a b from to
    → Leads gives LeavesMemory (λ at. followed (one at) next) (λ at. followed (two at) next) a b from to
leads_then gives LeavesMemory one two next a b from to first = record {
  acts = first.acts;
  called = first.called;
  asked = first.asked;
  does = λ before later left is. ap (λ o. followed o next) (first.does before later left is);
}

-- from what is the same where the run stood
pub leads_as : {C D : Type 0} (gives : CallGives C D) (LeavesMemory : Option ℕ → Type 0)
    (one other two : Meaning C D) (a b : ScriptRun C) (from to : D)
    → ((before : List (Act C D)) (later : List (Answer C D)) (left : Option ℕ) → one (standing_of a from before later left) ≡ other (standing_of a from before later left))
    → Leads gives LeavesMemory other two a b from to → Leads gives LeavesMemory one two a b from to
leads_as gives LeavesMemory one other two a b from to same leads = record {
  acts = leads.acts;
  called = leads.called;
  asked = leads.asked;
  does = λ before later left is. same before _ _ ∙ leads.does before later left is;
}

-- to what is the same where it stands
pub leads_to : {C D : Type 0} (gives : CallGives C D) (LeavesMemory : Option ℕ → Type 0)
    (one two other : Meaning C D) (a b : ScriptRun C) (from to : D)
    → ((before : List (Act C D)) (later : List (Answer C D)) (left : Option ℕ) → two (standing_of b to before later left) ≡ other (standing_of b to before later left))
    → Leads gives LeavesMemory one two a b from to → Leads gives LeavesMemory one other a b from to
leads_to gives LeavesMemory one two other a b from to same leads = record {
  acts = leads.acts;
  called = leads.called;
  asked = leads.asked;
  does = λ before later left is. leads.does before later left is ∙ same _ later left;
}

pub leads_same : {C D : Type 0} (gives : CallGives C D) (one two : Meaning C D) (run : ScriptRun C) (d : D)
    → one ≡ two → Leads gives Whatever one two run run d d
leads_same gives one two run d same =
    leads_so gives Whatever one two run run d (λ before later left is. ap (λ m. m (standing_of run d before later left)) same)

pub leads_from : {C D : Type 0} (gives : CallGives C D) (LeavesMemory : Option ℕ → Type 0)
    (one other two : Meaning C D) (a b : ScriptRun C) (from to : D)
    → one ≡ other → Leads gives LeavesMemory other two a b from to → Leads gives LeavesMemory one two a b from to
leads_from gives LeavesMemory one other two a b from to same leads =
    subst (λ m. Leads gives LeavesMemory m two a b from to) (sym same) leads
