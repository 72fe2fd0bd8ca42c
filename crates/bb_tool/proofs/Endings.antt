-- What each answer of a session says, from the session as a whole.
use Rattle.std.proofs.Common.{◌≡◌, ◌≢◌, ◌⊎◌, ℕ, ◌<◌, ◌≤◌, true, false, List, [], ◌++◌, Option, Some, None, Result, Ok, Err, IsErr, refl, sym, ap, subst, ◌∙◌, inl, inr}
use Rattle.std.specs.Option.{option_map_or}
use Rattle.bb_base.specs.Faults.{Rose}
use Rattle.bb_base.specs.Folder.{FileMap}
use Rattle.bb_copies.specs.declared.answers.CopyFault.{CopyFault}
use Rattle.bb_copies.specs.declared.answers.CopyFault.TheVariants as faults
use Rattle.bb_drill.specs.declared.counts.DrillCounts.{DrillCounts}
use Rattle.bb_flash.specs.Device.{Device}
use Rattle.bb_flash.specs.declared.geometry.Geometry.{Geometry}
use Rattle.bb_state.specs.Keyed.{Keyed}
use Rattle.bb_words.specs.Words.{words_of}
use Rattle.bb_words.specs.declared.command.Command.{Command}
use Rattle.bb_words.specs.declared.command.DrillNumbers.{DrillNumbers}
use Rattle.bb_plan.specs.FilesRead.{result_by}
use Rattle.bb_plan.specs.Plan.{Compared, Drilled, EarlyEnd, IsRefusedWith, Printed, Refused, SessionPlan, copies_in, planned, words_reading}
use Rattle.bb_plan.specs.Refusal.{copy_refusal, status_of}
use Rattle.bb_plan.specs.Status.{is_planning}
use Rattle.bb_plan.specs.declared.refusal.Refusal.{Refusal}
use Rattle.bb_plan.specs.declared.refusal.Refusal.TheVariants as refusals
use Rattle.bb_plan.specs.declared.status.Status.{Status}
use Rattle.bb_plan.specs.declared.status.Status.TheVariants as statuses
use Rattle.bb_plan.proofs.Plans.{IsPlanOf, alone_plan, faulty_plan, plan_refusal, same_plan, words_refused}
use Rattle.bb_base.proofs.Counts.{one_more_rose}
use Rattle.bb_session.specs.Comparing.{CompareAnswer, IsSlotCompared}
use Rattle.bb_session.specs.Session.{Answers, compare_session, drill_session, early_session, ended_status, session_by, work_session}
use Rattle.bb_session.specs.Work.{SendsByMemory}
use Rattle.bb_session.specs.declared.report.Report.{Report}
use Rattle.bb_session.proofs.Barred.{is_device_fault}
use Rattle.bb_session.proofs.Ended.{is_work, not_work, worked_work}
use Rattle.bb_session.proofs.Faulting.{FaultTells}
use Rattle.bb_session.proofs.Faults.{work_explains, work_place, work_stuck}
use Rattle.bb_tool.specs.Calls.{AsksNothing, ComesByDevice, ComesByFiles, ComesByPlan, ComesByPlanAlone, ComesByReads, ComesBySink, ComesByWords, ComesFirst, CountsSinkFaults, CutsTheText, IsAnswered, IsSession, MayAnswer, NamesNoFile, SendsText, geometry_of, plan_over, session_for, session_plan_for}
use Rattle.bb_tool.specs.Copying.{NamesACopy, NamesTheCopy, NamesThePlace}
use Rattle.bb_tool.specs.Drilling.{IsCounted, IsDrilled}
use Rattle.bb_tool.specs.Lines.{line_of}
use Rattle.bb_tool.specs.Ran.{Ran}
use Rattle.bb_tool.specs.Sending.{IsSentAfter, IsSentRefusal, IsSentReport, sent_of}
use Rattle.bb_tool.specs.SessionAnswer.{IsFollowed, IsSessionAnswer}
use Rattle.bb_tool.proofs.Told.{IsCut, some_refusal, tells, told_cases, told_counts, told_short}

abbrev pub PlanEnd : Type 0
PlanEnd = Result SessionPlan EarlyEnd

abbrev pub status_by : PlanEnd → Answers → Status
status_by plan answers = ended_status (session_by plan answers)

-- ---- the plan of a session

-- a drill that was run is done
pub drill_done : (numbers : DrillNumbers) (drill : Option DrillCounts) → IsCounted numbers drill → ended_status (drill_session drill) ≡ statuses.Done
drill_done numbers None counted = absurd counted
drill_done numbers (Some counts) counted = refl

-- where it ends without a work on copies, but not as Done, or for a read of a comparison, it is
-- refused
pub early_refused : (end : EarlyEnd) (drill : Option DrillCounts) (compared : CompareAnswer) (answer : Status) →
    answer ≢ statuses.Done → answer ≢ statuses.ReadFault → IsDrilled (Err end) drill →
    ended_status (early_session end drill compared) ≡ answer → IsRefusedWith answer (Err end)
early_refused (Refused refusal) drill compared answer other unread drilled e = e
early_refused (Printed text) drill compared answer other unread drilled e = absurd (other (sym e))
early_refused (Drilled numbers) drill compared answer other unread drilled e =
    absurd (other (sym e ∙ drill_done numbers drill drilled))
early_refused (Compared place) drill None answer other unread drilled e = absurd (unread (sym e))
early_refused (Compared place) drill (Some found) answer other unread drilled e = absurd (other (sym e))

-- so it is for an answer that the work doesn't have
plan_only : (plan : PlanEnd) (answers : Answers) (answer : Status) → is_work answer ≡ false →
    IsDrilled plan answers.drill → status_by plan answers ≡ answer → IsRefusedWith answer plan
plan_only (Ok plan) answers answer other drilled e =
    let work = worked_work plan answers.load answers.work in
    absurd (not_work (status_by (Ok plan) answers) answer work other e)
plan_only (Err end) answers answer other drilled e =
    let undone : answer ≢ statuses.Done = λ h. not_work statuses.Done answer refl other (sym h) in
    let unread : answer ≢ statuses.ReadFault = λ h. not_work statuses.ReadFault answer refl other (sym h) in
    early_refused end answers.drill answers.compared answer undone unread drilled e

pub plan_ends : (plan : PlanEnd) (answers : Answers) (answer : Status) → IsRefusedWith answer plan →
    status_by plan answers ≡ answer
plan_ends (Err (Refused refusal)) answers answer refused = refused
plan_ends _ answers answer refused = absurd refused

pub refused_err : (answer : Status) (plan : PlanEnd) → IsRefusedWith answer plan → IsErr plan
refused_err answer (Ok plan) refused = absurd refused
refused_err answer (Err end) refused = refl

planning_other : (status : Status) → is_planning status ≡ true → is_work status ≡ false
planning_other statuses.Done planning = cc
planning_other _ planning = cc

-- ---- an answer that is the session's own

pub record IsOwn (ran : Ran) (answer : Status) : Type 0 where
  pub by : IsAnswered ran
  pub own : ended_status (session_for ran by.answers) ≡ answer

-- and this is the plan of the session
pub record IsOver (ran : Ran) (plan : PlanEnd) (answer : Status) : Type 0 where
  pub own : IsOwn ran answer
  pub is : session_plan_for ran own.by.answers ≡ plan

module _ (ran : Ran) where
  abbrev pub From : Device
  From = ran.before.device

  abbrev pub To : Device
  To = ran.after.device

  abbrev pub plan_of : Answers → PlanEnd
  plan_of answers = session_plan_for ran answers

  own_refused : (answer : Status) → is_work answer ≡ false → (own : IsOwn ran answer) →
      IsRefusedWith answer (plan_of own.by.answers)
  own_refused answer other own =
      plan_only (plan_of own.by.answers) own.by.answers answer other own.by.answered.drilled own.own

  -- and where it is refused, that is the status
  own_ends : (answer : Status) (own : IsOwn ran ran.status) →
      IsRefusedWith answer (plan_of own.by.answers) → ran.status ≡ answer
  own_ends answer own refused =
      sym own.own ∙ plan_ends (plan_of own.by.answers) own.by.answers answer refused

  -- the status is the session's own, or one of the two that come first
  pub own_or_first : IsSession ran → IsOwn ran ran.status ⊎ ComesFirst ran
  own_or_first (inr memory) = inr (inr (told_short ran _ statuses.NoMemory memory.told refl))
  own_or_first (inl by) = elim (told_cases ran _ _ by.told) [
    | inl own ↦ inl (record { by = by; own = sym own })
    | inr off ↦ inr (inl off.0)
  ]

  -- over files that are told the plan is theirs, unless a fault or refused memory ends the session
  pub plan_told : (answers : Answers) → MayAnswer ran answers → (files : FileMap) →
      ran.before.folder.told ≡ Some files → IsPlanOf (plan_of answers) (plan_over ran files)
  plan_told answers answered files told =
      same_plan ran.words (geometry_of ran) ran.before.folder ran.after.folder answers.files
      answered.filed files told

  -- where the words name no file it is that of any files
  pub alone_is : (files : FileMap) → NamesNoFile ran → (answers : Answers) →
      plan_of answers ≡ plan_over ran files
  alone_is files none answers = alone_plan ran.words (geometry_of ran) answers.files files none

  pub unasked_by : (answer : Status) (answers : Answers) → MayAnswer ran answers → IsRefusedWith answer (plan_of answers) →
      To ≡ From
  unasked_by answer answers answered = by (plan_of answers) answered.followed
    where
      by : (plan : PlanEnd) → IsFollowed plan From To answers → IsRefusedWith answer plan → To ≡ From
      by (Err (Refused refusal)) followed refused = followed
      by _ followed refused = absurd refused

  -- whatever was answered, or no call of the device was made
  pub by_answers : (P : Type 0) → IsSession ran → (To ≡ From → P) →
      ((answers : Answers) → MayAnswer ran answers → P) → P
  by_answers P (inl by) unasked answered = answered by.answers by.answered
  by_answers P (inr memory) unasked answered = elim memory.work [
    | inl same ↦ unasked same
    | inr (inl text) ↦ answered text.answers text.answered
    | inr (inr cut) ↦ answered cut.answers cut.answered
  ]

module _ (ran : Ran) (s : IsSession ran) where
  -- an answer that every session has comes, but for the two that come first
  pub comes_always : (answer : Status) →
      ((given : Answers) → MayAnswer ran given → ended_status (session_for ran given) ≡ answer) →
      (ran.status ≡ answer) ⊎ ComesFirst ran
  comes_always answer always = elim (own_or_first ran s) [
    | inl own ↦ inl (sym own.own ∙ always own.by.answers own.by.answered)
    | inr first ↦ inr first
  ]

  -- over files that are told an answer is that of their plan, or one of three that come before it
  pub over_told : (files : FileMap) → ran.before.folder.told ≡ Some files →
      IsOver ran (plan_over ran files) ran.status
      ⊎ ((ran.status ≡ statuses.SinkFault)
      ⊎ ((ran.status ≡ statuses.NoMemory) ⊎ (ran.status ≡ statuses.FileFault)))
  over_told files told = elim (own_or_first ran s) [
    | inr (inl sink) ↦ inr (inl sink)
    | inr (inr memory) ↦ inr (inr (inl memory))
    | inl own ↦ elim (plan_told ran own.by.answers own.by.answered files told) [
      | inl same ↦ inl (record { own = own; is = same })
      | inr (inl fault) ↦ inr (inr (inr (own_ends ran statuses.FileFault own fault)))
      | inr (inr memory) ↦
          let ends : PlanEnd → Status = λ plan. status_by plan own.by.answers in
          inr (inr (inl (sym own.own ∙ ap ends memory)))
    ]
  ]

module _ (ran : Ran) (s : IsSession ran) (answer : Status)
    (sink : answer ≢ statuses.SinkFault) (memory : answer ≢ statuses.NoMemory) where
  pub own_answer : ran.status ≡ answer → IsOwn ran answer
  own_answer e = elim (own_or_first ran s) [
    | inl own ↦ subst (IsOwn ran) e own
    | inr (inl h) ↦ absurd (sink (sym e ∙ h))
    | inr (inr h) ↦ absurd (memory (sym e ∙ h))
  ]

  pub over_answer : answer ≢ statuses.FileFault → (files : FileMap) →
      ran.before.folder.told ≡ Some files → ran.status ≡ answer →
      IsOver ran (plan_over ran files) answer
  over_answer fault files told e = elim (over_told ran s files told) [
    | inl over ↦ subst (IsOver ran (plan_over ran files)) e over
    | inr (inl h) ↦ absurd (sink (sym e ∙ h))
    | inr (inr (inl h)) ↦ absurd (memory (sym e ∙ h))
    | inr (inr (inr h)) ↦ absurd (fault (sym e ∙ h))
  ]

  -- an answer that only a plan brings, over files that are told
  pub comes_planned : is_work answer ≡ false → answer ≢ statuses.FileFault → ComesByPlan answer ran
  comes_planned other fault = λ files told. record {
    only = λ e.
        let over = over_answer fault files told e in
        subst (IsRefusedWith answer) over.is (own_refused ran answer other over.own);
    always = λ refused. elim (over_told ran s files told) [
      | inr earlier ↦ inr earlier
      | inl over ↦
          inl (own_ends ran answer over.own (subst (IsRefusedWith answer) (sym over.is) refused))
    ];
  }

  -- and where the words name no file, over any
  pub comes_alone : is_work answer ≡ false → ComesByPlanAlone answer ran
  comes_alone other = λ none files.
      let same = alone_is ran files none in
      record {
        only = λ e.
            let own = own_answer e in
            subst (IsRefusedWith answer) (same own.by.answers) (own_refused ran answer other own);
        always = λ refused. comes_always ran s answer (λ answers answered.
            plan_ends (plan_of ran answers) answers answer
            (subst (IsRefusedWith answer) (sym (same answers)) refused));
      }

-- ---- words, files, and answers that come before any call of the device

words_always : (command : Result Command ℕ) (geometry : Geometry) → IsErr command → (answers : Answers) → ended_status (session_by (planned (result_by (words_reading command geometry) answers.files)) answers) ≡ statuses.BadWords
words_always (Err place) geometry refused answers = refl
words_always (Ok command) geometry refused answers = absurd cc

pub bad_words_of : (ran : Ran) → IsSession ran → ComesByWords statuses.BadWords ran
bad_words_of ran s = record {
  only = λ e.
      let own = own_answer ran s statuses.BadWords (λ h. cc) (λ h. cc) e in
      words_refused (words_of ran.words) (geometry_of ran) own.by.answers.files
      (own_refused ran statuses.BadWords refl own);
  always = λ refused. comes_always ran s statuses.BadWords (λ answers answered.
      words_always (words_of ran.words) (geometry_of ran) refused answers);
}

pub file_fault_of : (ran : Ran) → IsSession ran → ComesByFiles statuses.FileFault ran
file_fault_of ran s e =
    let own = own_answer ran s statuses.FileFault (λ h. cc) (λ h. cc) e in
    let folder = ran.before.folder in
    faulty_plan ran.words (geometry_of ran) folder ran.after.folder own.by.answers.files
    own.by.answered.filed (own_refused ran statuses.FileFault refl own)

pub unasked_of : (ran : Ran) → IsSession ran → AsksNothing ran
unasked_of ran s h = elim (own_or_first ran s) [
  | inr (inl sink) ↦ absurd (let n : true ≡ false = sym h ∙ ap is_planning sink in cc)
  | inr (inr memory) ↦ absurd (let n : true ≡ false = sym h ∙ ap is_planning memory in cc)
  | inl own ↦
      let refused = own_refused ran ran.status (planning_other ran.status h) own in
      let answers = own.by.answers in
      unasked_by ran ran.status answers own.by.answered refused
]

-- ---- a fault of the device

-- a session that ends so was refused by its work, for a fault of the device
record IsFaulted (ran : Ran) (answers : Answers) (plan : PlanEnd) (answer : Status) : Type 0 where
  work : SessionPlan
  plan_is : plan ≡ Ok work
  fault : CopyFault
  refusal_is : (session_by plan answers).refusal ≡ Some (copy_refusal fault)
  status_is : status_of (copy_refusal fault) ≡ answer
  tells : FaultTells work.keyed (From ran) (To ran) fault

module _ (ran : Ran) (answer : Status) (late : is_planning answer ≡ false)
    (memory : answer ≢ statuses.NoMemory) (other : answer ≢ statuses.Done)
    (device : is_device_fault answer ≡ true) where
  worked_fault : (answers : Answers) (plan : SessionPlan) → IsFollowed (Ok plan) (From ran) (To ran) answers →
      status_by (Ok plan) answers ≡ answer → IsFaulted ran answers (Ok plan) answer
  worked_fault answers plan done h =
      let some = some_refusal (work_session plan answers.load answers.work).refusal answer other h in
      let is = ap is_device_fault some.1.1 ∙ device in
      let why = work_explains plan (From ran) (To ran) answers.load answers.work some.0 is done
      some.1.0 in
      record {
        work = plan;
        plan_is = refl;
        fault = why.fault;
        refusal_is = some.1.0 ∙ ap (λ (r : Refusal). Some r) why.is;
        status_is = ap status_of (sym why.is) ∙ some.1.1;
        tells = why.known.tells;
      }

  faulted_by : answer ≢ statuses.ReadFault → (answers : Answers) (plan : PlanEnd) → (IsRefusedWith answer plan → ⊥) →
      IsDrilled plan answers.drill → IsFollowed plan (From ran) (To ran) answers →
      status_by plan answers ≡ answer → IsFaulted ran answers plan answer
  faulted_by unread answers (Err end) none drilled done h =
      absurd (none (early_refused end answers.drill answers.compared answer other unread drilled h))
  faulted_by unread answers (Ok plan) none drilled done h = worked_fault answers plan done h

  faulted : answer ≢ statuses.ReadFault → (own : IsOwn ran answer) →
      IsFaulted ran own.by.answers (plan_of ran own.by.answers) answer
  faulted unread own =
      let by = own.by in
      let files = by.answers.files in
      let none = plan_refusal answer late memory (words_of ran.words) (geometry_of ran) files in
      faulted_by unread by.answers (plan_of ran by.answers) none by.answered.drilled by.answered.followed
      own.own

read_told : (keyed : Keyed) (from to : Device) (met : CopyFault) → FaultTells keyed from to met →
    status_of (copy_refusal met) ≡ statuses.ReadFault → Rose from.read_faults to.read_faults
read_told keyed from to faults.ReadFault tells h = tells.1
read_told keyed from to (faults.WriteFault copy) tells h = absurd cc
read_told keyed from to faults.Unsure tells h = absurd tells

-- of a work, or of a comparison
read_rose : (ran : Ran) (answers : Answers) (plan : PlanEnd) → (IsRefusedWith statuses.ReadFault plan → ⊥) →
    IsDrilled plan answers.drill → IsFollowed plan (From ran) (To ran) answers → status_by plan answers ≡ statuses.ReadFault →
    Rose (From ran).read_faults (To ran).read_faults
read_rose ran answers (Ok plan) none drilled done e =
    let by = worked_fault ran statuses.ReadFault refl (λ h. cc) (λ h. cc) refl answers plan done e in
    read_told by.work.keyed (From ran) (To ran) by.fault by.tells by.status_is
read_rose ran answers (Err (Printed text)) none drilled done e = absurd (let h : statuses.Done ≡ statuses.ReadFault = e in cc)
read_rose ran answers (Err (Drilled numbers)) none drilled done e =
    absurd (let h : statuses.Done ≡ statuses.ReadFault = sym (drill_done numbers answers.drill drilled) ∙ e in cc)
read_rose ran answers (Err (Compared place)) none drilled done e = by answers.compared done e
  where
    by : (compared : CompareAnswer) → IsSlotCompared place (From ran) (To ran) compared →
        ended_status (compare_session compared) ≡ statuses.ReadFault → Rose (From ran).read_faults (To ran).read_faults
    by None done e = subst (Rose (From ran).read_faults) (sym done.read_faults) (one_more_rose (From ran).read_faults)
    by (Some found) done e = absurd (let h : statuses.Done ≡ statuses.ReadFault = e in cc)
read_rose ran answers (Err (Refused refusal)) none drilled done e = absurd (none e)

pub read_fault_of : (ran : Ran) → IsSession ran → ran.before.device.read_faults ≤ ran.after.device.read_faults → ComesByReads statuses.ReadFault ran
read_fault_of ran s later = record {
  later = later;
  rose = λ e.
      let own = own_answer ran s statuses.ReadFault (λ h. cc) (λ h. cc) e in
      let answers = own.by.answers in
      let none = plan_refusal statuses.ReadFault refl (λ h. cc) (words_of ran.words) (geometry_of ran) answers.files in
      read_rose ran answers (plan_of ran answers) none own.by.answered.drilled own.by.answered.followed own.own;
}

named_copy : (fault : CopyFault) → status_of (copy_refusal fault) ≡ statuses.WriteFault →
    (copy : ℕ) × (fault ≡ faults.WriteFault copy)
named_copy (faults.WriteFault copy) h = (copy, refl)
named_copy _ h = absurd cc

-- it names one of the layout's copies, and a count rose
write_fault_named : (ran : Ran) → IsSession ran → ran.status ≡ statuses.WriteFault →
    NamesACopy ran × Rose (From ran).faults (To ran).faults
write_fault_named ran s e =
    let own = own_answer ran s statuses.WriteFault (λ h. cc) (λ h. cc) e in
    let answers = own.by.answers in
    let by = faulted ran statuses.WriteFault refl (λ h. cc) (λ h. cc) refl (λ h. cc) own in
    let named = named_copy by.fault by.status_is in
    let tells = subst (FaultTells by.work.keyed (From ran) (To ran)) named.1 by.tells in
    let copy_named : NamesACopy ran = record {
      answers = answers;
      answered = own.by.answered;
      copy = named.0;
      inside = subst (λ (p : PlanEnd). named.0 < copies_in p) (sym by.plan_is) tells.1;
      refusal = by.refusal_is ∙ ap (λ (f : CopyFault). Some (copy_refusal f)) named.1;
      told = subst (SendsText ran (sent_of (session_for ran answers))) own.own own.by.told;
    } in
    (copy_named, tells.0)

pub write_fault_of : (ran : Ran) → IsSession ran → ran.before.device.faults ≤ ran.after.device.faults → ComesByDevice statuses.WriteFault ran
write_fault_of ran s later = record { later = later; rose = λ e. (write_fault_named ran s e).1 }

pub copy_of_fault : (ran : Ran) → IsSession ran → NamesTheCopy ran
copy_of_fault ran s e = (write_fault_named ran s e).0

-- ---- a call on a slot that failed

slot_named : (refusal : Refusal) → status_of refusal ≡ statuses.SlotFault → (at : ℕ) × (refusal ≡ refusals.SlotFault at)
slot_named (refusals.SlotFault at) h = (at, refl)
slot_named _ h = absurd cc

-- the place that the line shows is where it began, and a count rose
record IsStuck (ran : Ran) (answers : Answers) (plan : PlanEnd) : Type 0 where
  at : ℕ
  refusal_is : (session_by plan answers).refusal ≡ Some (refusals.SlotFault at)
  stuck_is : answers.work.stuck ≡ Some at
  rose : Rose (From ran).faults (To ran).faults

stuck_by : (ran : Ran) (answers : Answers) (plan : PlanEnd) → (IsRefusedWith statuses.SlotFault plan → ⊥) →
    IsDrilled plan answers.drill → IsFollowed plan (From ran) (To ran) answers → status_by plan answers ≡ statuses.SlotFault →
    IsStuck ran answers plan
stuck_by ran answers (Err end) none drilled done e =
    absurd (none (early_refused end answers.drill answers.compared statuses.SlotFault (λ h. cc) (λ h. cc) drilled e))
stuck_by ran answers (Ok plan) none drilled done e =
    let some = some_refusal (work_session plan answers.load answers.work).refusal statuses.SlotFault (λ h. cc) e in
    let named = slot_named some.0 some.1.1 in
    let is : (work_session plan answers.load answers.work).refusal ≡ Some (refusals.SlotFault named.0) =
    some.1.0 ∙ ap (λ (r : Refusal). Some r) named.1 in
    record {
      at = named.0;
      refusal_is = is;
      stuck_is = work_place plan answers.load answers.work named.0 is;
      rose = work_stuck plan (From ran) (To ran) answers.load answers.work (refusals.SlotFault named.0) refl refl done is;
    }

stuck_of : (ran : Ran) (own : IsOwn ran statuses.SlotFault) → IsStuck ran own.by.answers (plan_of ran own.by.answers)
stuck_of ran own =
    let answers = own.by.answers in
    let none = plan_refusal statuses.SlotFault refl (λ h. cc) (words_of ran.words) (geometry_of ran) answers.files in
    stuck_by ran answers (plan_of ran answers) none own.by.answered.drilled own.by.answered.followed own.own

pub slot_fault_of : (ran : Ran) → IsSession ran → ran.before.device.faults ≤ ran.after.device.faults → ComesByDevice statuses.SlotFault ran
slot_fault_of ran s later = record {
  later = later;
  rose = λ e. (stuck_of ran (own_answer ran s statuses.SlotFault (λ h. cc) (λ h. cc) e)).rose;
}

pub slot_place_of : (ran : Ran) → IsSession ran → NamesThePlace ran
slot_place_of ran s e =
    let own = own_answer ran s statuses.SlotFault (λ h. cc) (λ h. cc) e in
    let by = stuck_of ran own in
    record {
      answers = own.by.answers;
      answered = own.by.answered;
      at = by.at;
      stuck = by.stuck_is;
      refusal = by.refusal_is;
      told = subst (SendsText ran (sent_of (session_for ran own.by.answers))) own.own own.by.told;
    }

-- ---- an output that failed

cut_off : (ran : Ran) → IsSession ran → ran.status ≡ statuses.SinkFault → (by : IsAnswered ran)
    × IsCut ran (sent_of (session_for ran by.answers)) (ended_status (session_for ran by.answers))
cut_off ran (inr memory) e =
    let short = told_short ran _ statuses.NoMemory memory.told refl in
    absurd (let h : statuses.SinkFault ≡ statuses.NoMemory = sym e ∙ short in cc)
cut_off ran (inl by) e = elim (told_cases ran _ _ by.told) [
  | inr off ↦ (by, off.1)
  | inl same ↦
      let own : IsOwn ran statuses.SinkFault = record { by = by; own = sym same ∙ e } in
      let none = plan_refusal statuses.SinkFault refl (λ h. cc) in
      let refused = own_refused ran statuses.SinkFault refl own in
      absurd (none (words_of ran.words) (geometry_of ran) by.answers.files refused)
]

pub front_of : (ran : Ran) → IsSession ran → CutsTheText ran
front_of ran s e =
    let off = cut_off ran s e in
    record { answers = off.0.answers; answered = off.0.answered; front = off.1.front }

pub sink_fault_of : (ran : Ran) → IsSession ran → ComesBySink statuses.SinkFault ran
sink_fault_of ran s e = (cut_off ran s e).1.faults

pub sink_faults_of : (ran : Ran) → IsSession ran → CountsSinkFaults ran
sink_faults_of ran (inl by) = told_counts ran _ _ by.told
sink_faults_of ran (inr memory) = told_counts ran _ statuses.NoMemory memory.told

-- ---- what the work gave, and how it was told

-- a text and the line after it were sent, or memory was refused for the line
told_after : (ran : Ran) (text : List ℕ) (refusal : Option Refusal) →
    IsSentAfter text refusal ran.before.sink ran.after.sink ran.status →
    SendsText ran (option_map_or (λ r. text ++ line_of r) refusal text)
    (option_map_or status_of refusal statuses.Done)
    ⊎ (SendsByMemory refusal × SendsText ran (line_of refusals.NoMemory) statuses.NoMemory)
told_after ran text None told = inl told
told_after ran text (Some refusal) told = told

reported : (ran : Ran) (answers : Answers) (text : List ℕ) (refusal : Option Refusal) →
    MayAnswer ran answers → (session_for ran answers).text ≡ text →
    (session_for ran answers).refusal ≡ refusal →
    IsSentAfter text refusal ran.before.sink ran.after.sink ran.status → IsSession ran
reported ran answers text refusal answered text_is refusal_is told =
    let session = session_for ran answers in
    let sent : List ℕ → Option Refusal → Type 0 =
    λ t r. IsSentAfter t r ran.before.sink ran.after.sink ran.status in
    let here : sent text session.refusal = subst (sent text) (sym refusal_is) told in
    let there = subst (λ (t : List ℕ). sent t session.refusal) (sym text_is) here in
    elim (told_after ran session.text session.refusal there) [
      | inl whole ↦ inl (record { answers = answers; answered = answered; told = whole })
      | inr memory ↦ inr (record {
        told = memory.1;
        work = inr (inl (record { answers = answers; answered = answered; whole = memory.0 }));
      })
    ]

-- a report was told, or the line of a refusal before which no text was gathered
abbrev pub IsTold : Ran → Result Report Refusal → Type 0
IsTold ran (Ok report) = IsSentReport report ran.before.sink ran.after.sink ran.status
IsTold ran (Err refusal) = IsSentRefusal refusal ran.before.sink ran.after.sink ran.status

-- that of refused memory
memory_told : (ran : Ran) (given : Result Report Refusal) → given ≡ Err refusals.NoMemory →
    IsTold ran given → SendsText ran (line_of refusals.NoMemory) statuses.NoMemory
memory_told ran given is told =
    let line : IsTold ran (Err refusals.NoMemory) = subst (IsTold ran) is told in
    elim line [ inl whole ↦ whole | inr memory ↦ memory.1 ]

pub answered_so : (ran : Ran) (given : Result Report Refusal) →
    IsSessionAnswer ran.words ran.before.folder ran.after.folder (From ran) (To ran) given →
    IsTold ran given → IsSession ran
answered_so ran (Ok report) (inl by) told =
    reported ran by.answers report.text report.refusal by.answered by.gives.0 by.gives.1 told
answered_so ran (Err refusal) (inl by) told =
    reported ran by.answers [] (Some refusal) by.answered by.gives.0 by.gives.1 told
answered_so ran given (inr (inl by)) told = inr (record {
  told = memory_told ran given by.is told;
  work = inr (inl (record { answers = by.answers; answered = by.answered; whole = by.whole }));
})
answered_so ran given (inr (inr by)) told =
    inr (record { told = memory_told ran given by.is told; work = inl by.unasked })
