-- What the flow of a script makes of one part of a run after another.
use Rattle.std.proofs.Common.{◌≡◌, ℕ, ◌+◌, ◌==◌, Bool, true, false, List, [], ◌∷◌, Option, Some, None, ap, arith, refl, sym, subst, ◌∙◌, ◌<◌, ◌≤◌, ◌-◌, le-leb, cond, append-nil}
use Rattle.std.proofs.lemmas.Bool.{lt-leb, lt-ltb}
use Rattle.bb_script.specs.declared.script.When.{When}
use Rattle.bb_script.specs.Tree.{ScriptTree, CommandTree, choice_tree, steps_tree}
use Rattle.bb_interpreter.specs.declared.run.ScriptRun.{ScriptRun}
use Rattle.bb_interpreter.specs.declared.stop.ScriptStop.TheVariants as stop
use Rattle.bb_interpreter.specs.Means.{by_success, is_due, means_choice, means_command, means_steps, puts, rounds, when_due, next_answer}
use Rattle.bb_interpreter.specs.Outside.{Outside}
use Rattle.bb_interpreter.specs.Standing.{Act, Answer, Standing, GoesOn, Stops, Meaning, counts_one, either, followed, granted, granted_by}
use Rattle.bb_interpreter.specs.Runs.{CallGives, LeftAt, Leads, more_grants, standing_of}
use Rattle.bb_interpreter.proofs.Joins.{Whatever, leads_as, leads_on, leads_so, leads_then, leads_to}

-- ---- memory

one_less : {C D : Type 0} (n m : ℕ) (at : Standing C D) → 0 < n → n - 1 ≡ m
    → granted_by (Some n) at ≡ GoesOn (record at { grants = Some m })
one_less n m at some less =
    ap (λ b. cond b (GoesOn (record at { grants = Some (n - 1) })) (Stops stop.NoMemory at)) (lt-ltb 0 n some)
    ∙ ap (λ k. GoesOn (record at { grants = Some k })) less

granted_once : {C D : Type 0} (run : ScriptRun C) (d : D) (before : List (Act C D)) (later : List (Answer C D)) (left : Option ℕ)
    → granted (standing_of run d before later (more_grants 1 left)) ≡ GoesOn (standing_of run d before later left)
granted_once run d before later None = refl
granted_once run d before later (Some n) =
    one_less (1 + n) n (standing_of run d before later (Some (1 + n))) (omega arith) (omega arith)

-- it was granted once
pub has : {C D : Type 0} (gives : CallGives C D) (run : ScriptRun C) (d : D)
    → Leads gives Whatever granted GoesOn run run d d
has gives run d = record {
  acts = [];
  called = tt;
  asked = 1;
  does = λ before later left is.
      granted_once run d before later left
      ∙ ap (λ l. GoesOn (standing_of run d l later left)) (sym (append-nil before));
}

refused : {C D : Type 0} (run : ScriptRun C) (d : D) (before : List (Act C D)) (later : List (Answer C D)) (left : Option ℕ)
    → left ≡ Some 0
    → granted (standing_of run d before later left) ≡ Stops stop.NoMemory (standing_of run d before later left)
refused run d before later left none =
    subst (λ l. granted (standing_of run d before later l) ≡ Stops stop.NoMemory (standing_of run d before later l)) (sym none) refl

-- it was refused
pub lacks : {C D : Type 0} (gives : CallGives C D) (run : ScriptRun C) (d : D)
    → Leads gives (LeftAt stop.NoMemory) granted (λ at. Stops stop.NoMemory at) run run d d
lacks gives run d =
    leads_so gives (LeftAt stop.NoMemory) granted (λ at. Stops stop.NoMemory at) run run d
    (λ before later left none. refused run d before later left none)

-- and then what comes after it
pub has_then : {C D : Type 0} (gives : CallGives C D) (LeavesMemory : Option ℕ → Type 0) (one two : Meaning C D)
    (old new : ScriptRun C) (from to : D) → Leads gives LeavesMemory one two old new from to
    → Leads gives LeavesMemory (λ at. followed (granted at) one) two old new from to
has_then gives LeavesMemory one two old new from to leads =
    leads_on gives LeavesMemory (λ at. followed (granted at) one) one two old old new from from to
    (leads_then gives Whatever granted GoesOn one old old from from (has gives old from)) leads

pub lacks_then : {C D : Type 0} (gives : CallGives C D) (next : Meaning C D) (run : ScriptRun C) (d : D)
    → Leads gives (LeftAt stop.NoMemory) (λ at. followed (granted at) next) (λ at. Stops stop.NoMemory at) run run d d
lacks_then gives next run d =
    leads_then gives (LeftAt stop.NoMemory) granted (λ at. Stops stop.NoMemory at) next run run d d (lacks gives run d)

-- ---- the count

pub full : {C D : Type 0} (at : Standing C D) → 10000 ≤ at.count → counts_one at ≡ Stops stop.StepLimit at
full at h = ap (λ b. cond b (Stops stop.StepLimit at) (GoesOn (record at { count = at.count + 1 }))) (le-leb 10000 at.count h)

pub one_more : {C D : Type 0} (at : Standing C D) → at.count < 10000 → counts_one at ≡ GoesOn (record at { count = at.count + 1 })
one_more at h = ap (λ b. cond b (Stops stop.StepLimit at) (GoesOn (record at { count = at.count + 1 }))) (lt-leb 10000 at.count h)

-- ---- what is due

pub skipped : {C D : Type 0} (gives : CallGives C D) (due : When) (command : Meaning C D) (run : ScriptRun C) (d : D)
    → is_due due run.status ≡ false → Leads gives Whatever (when_due due command) GoesOn run run d d
skipped gives due command run d h =
    leads_so gives Whatever (when_due due command) GoesOn run run d
    (λ before later left is. ap (λ b. either b command GoesOn (standing_of run d before later left)) h)

pub was_due : {C D : Type 0} (gives : CallGives C D) (LeavesMemory : Option ℕ → Type 0) (due : When) (command two : Meaning C D)
    (a b : ScriptRun C) (from to : D) → is_due due a.status ≡ true
    → Leads gives LeavesMemory command two a b from to → Leads gives LeavesMemory (when_due due command) two a b from to
was_due gives LeavesMemory due command two a b from to h leads =
    leads_as gives LeavesMemory (when_due due command) command two a b from to
    (λ before later left. ap (λ x. either x command GoesOn (standing_of a from before later left)) h) leads

-- ---- the first of what is left, and what comes after it

pub after_step : {C D : Type 0} (gives : CallGives C D) (o : Outside C) (LeavesMemory : Option ℕ → Type 0) (whole two : Meaning C D)
    (s : When × CommandTree) (left later : List (When × CommandTree)) (a b c : ScriptRun C) (from mid to : D)
    → left ≡ s ∷ later → Leads gives Whatever whole (means_steps o next_answer (steps_tree left)) a b from mid
    → Leads gives LeavesMemory (when_due s.0 (means_command o next_answer s.1)) two b c mid to
    → Leads gives LeavesMemory whole (λ at. followed (two at) (means_steps o next_answer (steps_tree later))) a c from to
after_step gives o LeavesMemory whole two s left later a b c from mid to is first second =
    leads_on gives LeavesMemory whole (means_steps o next_answer (steps_tree (s ∷ later))) (λ at. followed (two at) (means_steps o next_answer (steps_tree later))) a b c from mid to
    (subst (λ l. Leads gives Whatever whole (means_steps o next_answer (steps_tree l)) a b from mid) is first)
    (leads_then gives LeavesMemory (when_due s.0 (means_command o next_answer s.1)) two (means_steps o next_answer (steps_tree later)) b c mid to second)

pub after_test : {C D : Type 0} (gives : CallGives C D) (o : Outside C) (LeavesMemory : Option ℕ → Type 0) (whole two : Meaning C D)
    (x : ScriptTree × ScriptTree) (left later : List (ScriptTree × ScriptTree)) (other : Option ScriptTree)
    (a b c : ScriptRun C) (from mid to : D)
    → left ≡ x ∷ later → Leads gives Whatever whole (means_choice o next_answer (choice_tree left other)) a b from mid
    → Leads gives LeavesMemory (means_steps o next_answer x.0) two b c mid to
    → Leads gives LeavesMemory whole (λ at. followed (two at) (by_success (means_steps o next_answer x.1) (means_choice o next_answer (choice_tree later other)))) a c from to
after_test gives o LeavesMemory whole two x left later other a b c from mid to is first second =
    leads_on gives LeavesMemory whole (means_choice o next_answer (choice_tree (x ∷ later) other)) (λ at. followed (two at) (by_success (means_steps o next_answer x.1) (means_choice o next_answer (choice_tree later other)))) a b c from mid to
    (subst (λ l. Leads gives Whatever whole (means_choice o next_answer (choice_tree l other)) a b from mid) is first)
    (leads_then gives LeavesMemory (means_steps o next_answer x.0) two (by_success (means_steps o next_answer x.1) (means_choice o next_answer (choice_tree later other))) b c mid to second)

pub by_zero : {C D : Type 0} (gives : CallGives C D) (one two whole : Meaning C D) (a b : ScriptRun C) (from to : D)
    (holds : Bool) → (b.status == 0) ≡ holds
    → Leads gives Whatever whole (by_success one two) a b from to
    → Leads gives Whatever whole (either holds one two) a b from to
by_zero gives one two whole a b from to holds h leads =
    leads_to gives Whatever whole (by_success one two) (either holds one two) a b from to
    (λ before later left. ap (λ x. either x one two (standing_of b to before later left)) h) leads

-- a round was counts_one, its field was set, and its body was run
abbrev pub after_counting : {C D : Type 0} → Outside C → List ℕ → Meaning C D → List ℕ → List (List ℕ) → Meaning C D
after_counting o name body field later at =
    followed (puts o name field at) (λ at2. followed (body at2) (rounds o name body later))

abbrev pub after_putting : {C D : Type 0} → Outside C → List ℕ → Meaning C D → List (List ℕ) → Meaning C D
after_putting o name body later at = followed (body at) (rounds o name body later)

pub after_count : {C D : Type 0} (gives : CallGives C D) (o : Outside C) (LeavesMemory : Option ℕ → Type 0) (whole two : Meaning C D)
    (name : List ℕ) (body : Meaning C D) (field : List ℕ) (left later : List (List ℕ)) (a b c : ScriptRun C) (from mid to : D)
    → left ≡ field ∷ later → Leads gives Whatever whole (rounds o name body left) a b from mid
    → Leads gives LeavesMemory counts_one two b c mid to
    → Leads gives LeavesMemory whole (λ at. followed (two at) (after_counting o name body field later)) a c from to
after_count gives o LeavesMemory whole two name body field left later a b c from mid to is first second =
    leads_on gives LeavesMemory whole (rounds o name body (field ∷ later)) (λ at. followed (two at) (after_counting o name body field later)) a b c from mid to
    (subst (λ l. Leads gives Whatever whole (rounds o name body l) a b from mid) is first)
    (leads_then gives LeavesMemory counts_one two (after_counting o name body field later) b c mid to second)

pub after_put : {C D : Type 0} (gives : CallGives C D) (o : Outside C) (LeavesMemory : Option ℕ → Type 0) (whole two : Meaning C D)
    (name : List ℕ) (body : Meaning C D) (field : List ℕ) (later : List (List ℕ)) (a b c : ScriptRun C) (from mid to : D)
    → Leads gives Whatever whole (after_counting o name body field later) a b from mid
    → Leads gives LeavesMemory (puts o name field) two b c mid to
    → Leads gives LeavesMemory whole (λ at. followed (two at) (after_putting o name body later)) a c from to
after_put gives o LeavesMemory whole two name body field later a b c from mid to first second =
    leads_on gives LeavesMemory whole (after_counting o name body field later) (λ at. followed (two at) (after_putting o name body later)) a b c from mid to first
    (leads_then gives LeavesMemory (puts o name field) two (after_putting o name body later) b c mid to second)

pub after_body : {C D : Type 0} (gives : CallGives C D) (o : Outside C) (LeavesMemory : Option ℕ → Type 0) (whole two : Meaning C D)
    (name : List ℕ) (body : Meaning C D) (later : List (List ℕ)) (a b c : ScriptRun C) (from mid to : D)
    → Leads gives Whatever whole (after_putting o name body later) a b from mid
    → Leads gives LeavesMemory body two b c mid to
    → Leads gives LeavesMemory whole (λ at. followed (two at) (rounds o name body later)) a c from to
after_body gives o LeavesMemory whole two name body later a b c from mid to first second =
    leads_on gives LeavesMemory whole (after_putting o name body later) (λ at. followed (two at) (rounds o name body later)) a b c from mid to first
    (leads_then gives LeavesMemory body two (rounds o name body later) b c mid to second)

-- ---- a count

pub count_full : {C D : Type 0} (gives : CallGives C D) (run : ScriptRun C) (d : D) → 10000 ≤ run.count
    → Leads gives (LeftAt stop.StepLimit) counts_one (λ at. Stops stop.StepLimit at) run run d d
count_full gives run d h =
    leads_so gives (LeftAt stop.StepLimit) counts_one (λ at. Stops stop.StepLimit at) run run d
    (λ before later left is. full (standing_of run d before later left) h)

pub count_more : {C D : Type 0} (gives : CallGives C D) (run : ScriptRun C) (d : D) → run.count < 10000
    → Leads gives Whatever counts_one GoesOn run (record run { count = run.count + 1 }) d d
count_more gives run d h =
    leads_so gives Whatever counts_one GoesOn run (record run { count = run.count + 1 }) d
    (λ before later left is. one_more (standing_of run d before later left) h)
