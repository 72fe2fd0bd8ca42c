-- The plans of targets as they were read, one entry's file after the other.
use Rattle.std.proofs.Common.{◌≡◌, ◌≢◌, ◌<◌, ◌≤◌, ℕ, zero, suc, ◌+◌, false, List, [], ◌∷◌, drop, length, map, take, Result, Ok, Err, IfOk, IsErrAnd, refl, sym, ap, subst, ◌∙◌, inr, add-one, arith}
use Rattle.std.specs.Prelude.{Option, slice_get, unwrap_or}
use Rattle.std.specs.List.{AllZip, enumerate_from}
use Rattle.std.specs.Option.{ForSome}
use Rattle.std.proofs.lemmas.List.{length-map}
use Rattle.bb_base.specs.Faults.{counted}
use Rattle.bb_base.specs.Folder.{Folder}
use Rattle.bb_base.specs.declared.files.FileFail.TheVariants.{Fault, TooLong, NoMemory}
use Rattle.bb_chooser.specs.Binding.{Binding}
use Rattle.bb_chooser.specs.declared.bound_target.BoundTarget.{BoundTarget}
use Rattle.bb_flash.specs.declared.plan.Plan.{Plan as StartPlan}
use Rattle.bb_layout.specs.Results.{all_ok, result_and_then}
use Rattle.bb_shell.specs.Plans.{IsAnswerOf, IsPlanned, NamesTarget, entries_of, entry_answer, is_file_fault, plan_by, start_plan_for}
use Rattle.bb_shell.specs.declared.plan_fault.PlanFault.{PlanFault}
use Rattle.bb_shell.specs.declared.plan_fault.PlanFault.TheVariants as plan_faults
use Rattle.bb_plan.specs.PlanSteps.{entries_reading, entry_fault, plans_reading}
use Rattle.bb_plan.specs.FilesRead.{AskedEntry, FileAnswer, IsReadAs, Reading, Yields, and_then, reads_file}
use Rattle.bb_plan.specs.declared.refusal.Refusal.{Refusal}
use Rattle.bb_plan.specs.declared.refusal.Refusal.TheVariants as refusals
use Rattle.bb_plan.proofs.Readings.{counted_later, folder_is, gone_on, read_on, refused_by, stopped, yielded}
use Rattle.bb_plan.proofs.Sources.{unread}

abbrev StartPlans : Type 0
StartPlans = List (Option StartPlan)

abbrev as_is : StartPlans → StartPlans
as_is plans = plans

-- the plans from a target on
abbrev plans_from : ℕ → List FileAnswer → Result StartPlans PlanFault
plans_from n answers =
    all_ok (map (λ entry. start_plan_for entry.0 entry.1) (enumerate_from n answers))

-- these are what reading the first of the names gave
abbrev AreToldOf : Folder → List (List ℕ) → List FileAnswer → Type 0
AreToldOf folder names answers =
    ForSome folder.told
    (λ files. AllZip IsAnswerOf answers (take (length answers) (map (entry_answer files) names)))

-- the first of those that are left, and the others
first_left : (all : List (List ℕ)) (n : ℕ) (name : List ℕ) (names : List (List ℕ)) →
    drop n all ≡ name ∷ names →
    (unwrap_or (slice_get all n) [] ≡ name) × (drop (suc n) all ≡ names)
first_left [] zero name names h = absurd cc
first_left [] (suc n) name names h = absurd cc
first_left (x ∷ all) zero name names h =
    let first : x ≡ name = cc in
    let rest : all ≡ names = cc in
    (first, rest)
first_left (x ∷ all) (suc n) name names h = first_left all n name names h

module _ (b : Binding) (before after : Folder) (told : after.told ≡ before.told) where
  -- what the reading of the entries from a target on gives
  abbrev AsPlans : Reading StartPlans → Result StartPlans Refusal → Type 0
  AsPlans reading given = IsReadAs reading as_is before after given

  abbrev IsCounted : Result StartPlans PlanFault → Type 0
  IsCounted given = after.faults ≡ counted (is_file_fault given) before.faults

  abbrev by_name : Result StartPlans PlanFault → Result StartPlans Refusal
  by_name (Ok plans) = Ok plans
  by_name (Err fault) = Err (entry_fault b fault)

  -- with the plan of one target before them
  abbrev with_plan : Option StartPlan → Result StartPlans PlanFault → Result StartPlans PlanFault
  with_plan plan r = result_and_then (λ plans. Ok (plan ∷ plans)) r

  after_one : (plan : Option StartPlan) (n many most : ℕ) (names : List (List ℕ))
      (r : Result StartPlans PlanFault) →
      (IfOk r (λ plans. many ≡ most) → IsCounted r →
      AsPlans (entries_reading n names) (by_name r)) →
      IfOk (with_plan plan r) (λ plans. suc many ≡ suc most) → IsCounted (with_plan plan r) →
      AsPlans (and_then (λ plans. Yields (plan ∷ plans)) (entries_reading n names))
      (by_name (with_plan plan r))
  after_one plan n many most names (Ok plans) rest whole counts =
      let same : suc many ≡ suc most = whole in
      gone_on (λ (plans : StartPlans). Yields (plan ∷ plans)) (entries_reading n names) as_is as_is
      plans (rest (omega (arith, same)) counts) (yielded as_is refl)
  after_one plan n many most names (Err fault) rest whole counts =
      stopped (λ (plans : StartPlans). Yields (plan ∷ plans)) (entries_reading n names) as_is as_is
      (rest tt counts) (Err (entry_fault b fault)) refl

  read_from : (n : ℕ) (names : List (List ℕ)) (answers : List FileAnswer) →
      drop n (entries_of b) ≡ names → AreToldOf before names answers →
      length answers ≤ length names →
      IfOk (plans_from n answers) (λ plans. length answers ≡ length names) →
      IsCounted (plans_from n answers) →
      AsPlans (entries_reading n names) (by_name (plans_from n answers))
  read_from n [] [] here held most whole counts =
      subst (λ f. IsReadAs (Yields []) as_is before f (Ok []))
      (sym (folder_is before after told counts)) (yielded as_is refl)
  read_from n [] (answer ∷ answers) here held most whole counts = absurd (omega (arith, most))
  read_from n (name ∷ names) [] here held most whole counts =
      absurd (let none : 0 ≡ suc (length names) = whole in omega (arith, none))
  read_from n (name ∷ names) (Ok text ∷ answers) here held most whole counts =
      let rest = ap (λ k. drop k (entries_of b)) (add-one n)
      ∙ (first_left (entries_of b) n name names here).1 in
      read_on (AskedEntry name)
      (λ t. and_then (λ plans. Yields (plan_by n t ∷ plans)) (entries_reading (n + 1) names))
      as_is before after (by_name (with_plan (plan_by n text) (plans_from (n + 1) answers)))
      text (λ files some. (held files some).0)
      (after_one (plan_by n text) (n + 1) (length answers) (length names) names
      (plans_from (n + 1) answers)
      (read_from (n + 1) names answers rest (λ files some. (held files some).1)
      (omega (arith, most))) whole counts)
  read_from n (name ∷ names) (Err Fault ∷ answers) here held most whole counts =
      unread (AskedEntry name) before after told _ as_is (entry_fault b (plan_faults.FileFault n))
      Fault (ap refusals.FileFault (first_left (entries_of b) n name names here).0) counts
      (λ h. absurd cc)
  read_from n (name ∷ names) (Err TooLong ∷ answers) here held most whole counts =
      unread (AskedEntry name) before after told _ as_is (entry_fault b (plan_faults.FileTooLong n))
      TooLong (ap refusals.FileTooLong (first_left (entries_of b) n name names here).0) counts
      (λ h files some. (held files some).0)
  read_from n (name ∷ names) (Err NoMemory ∷ answers) here held most whole counts =
      unread (AskedEntry name) before after told _ as_is refusals.NoMemory NoMemory refl counts
      (λ h. absurd cc)

  -- the plans, or a fault
  pub entries_read : (given : Result StartPlans PlanFault) → IsPlanned b before given →
      given ≢ Err plan_faults.NoMemory → IsCounted given → AsPlans (plans_reading b) (by_name given)
  entries_read given planned some counts =
      let entries = length-map b.targets (λ t. t.target.entry) in
      let many : length b.targets ≡ length (entries_of b) = sym entries in
      let gives = planned.gives some in
      subst (λ r. AsPlans (plans_reading b) (by_name r)) (sym gives)
      (read_from 0 (entries_of b) planned.answers refl planned.answered
      (subst (λ n. length planned.answers ≤ n) many planned.most)
      (subst (λ r. IfOk r (λ plans. length planned.answers ≡ length (entries_of b))) gives
      (subst (λ n. IfOk given (λ plans. length planned.answers ≡ n)) many planned.whole))
      (subst IsCounted gives counts))

  -- memory was refused for the name of a file, or before
  pub entries_short : (fault : PlanFault) → NamesTarget b fault → IsCounted (Err fault) →
      (given : Result StartPlans Refusal) → IsErrAnd given (λ y. y ≡ refusals.NoMemory) →
      AsPlans (plans_reading b) given
  entries_short fault names counts given is =
      let is_one = is_file_fault {X = StartPlans} (Err fault) in
      let later = counted_later before after told is_one counts in
      inr (refused_by given is, record { later = later; unread = by fault names counts })
    where
      -- a target that is named has an entry, whose file is read
      entry_read : {X : Type 0} (targets : List BoundTarget) (target : ℕ) →
          target < length targets →
          reads_file (entries_reading 0 (map (λ t. t.target.entry) targets)) ≡ false → X
      entry_read [] target inside none = absurd (omega (arith, inside))
      entry_read (t ∷ targets) target inside none = absurd cc

      by : (fault : PlanFault) → NamesTarget b fault → IsCounted (Err fault) →
          reads_file (plans_reading b) ≡ false → after ≡ before
      by (plan_faults.FileFault target) names counts none = entry_read b.targets target names none
      by _ names counts none = folder_is before after told counts

  pub entries_refused : (fault : PlanFault) → IsPlanned b before (Err fault) → NamesTarget b fault →
      IsCounted (Err fault) → (refusal : Refusal) → refusal ≡ entry_fault b fault →
      AsPlans (plans_reading b) (Err refusal)
  entries_refused fault planned names counts refusal is =
      subst (λ r. AsPlans (plans_reading b) (Err r)) (sym is) (by fault planned names counts)
    where
      by : (fault : PlanFault) → IsPlanned b before (Err fault) → NamesTarget b fault →
          IsCounted (Err fault) → AsPlans (plans_reading b) (Err (entry_fault b fault))
      by plan_faults.NoMemory planned names counts =
          entries_short plan_faults.NoMemory names counts (Err refusals.NoMemory) refl
      by fault planned names counts = entries_read (Err fault) planned (λ h. cc) counts
