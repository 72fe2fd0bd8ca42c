-- What a session gave before anything was sent, by its plan and the work of that.
use Rattle.std.proofs.Common.{◌≡◌, ℕ, List, Option, None, Some, Result, Ok, Err, refl, sym, ap, subst, inl, inr, ◌∙◌, false}
use Rattle.std.proofs.lemmas.Result.{err_from_is_err_and}
use Rattle.bb_base.specs.Folder.{Folder}
use Rattle.bb_flash.specs.Device.{Device}
use Rattle.bb_flash.specs.declared.geometry.Geometry.{Geometry}
use Rattle.bb_flash.proofs.Moments.{later_same}
use Rattle.bb_drill.specs.declared.counts.DrillCounts.{DrillCounts}
use Rattle.bb_plan.specs.FilesRead.{AreRead, IsReadAs, reads_file}
use Rattle.bb_plan.specs.Plan.{Compared, Drilled, EarlyEnd, FileAnswers, Printed, Refused, SessionPlan, plan_as, plan_by_words, plan_reading, planned, task_as}
use Rattle.bb_plan.specs.declared.plan.PlannedTask.{PlannedTask}
use Rattle.bb_plan.specs.declared.plan.SlotImage.{SlotImage}
use Rattle.bb_plan.specs.declared.plan.PlannedTask.TheVariants as tasks
use Rattle.bb_plan.specs.declared.refusal.Refusal.{Refusal}
use Rattle.bb_plan.specs.declared.refusal.Refusal.TheVariants as refusals
use Rattle.bb_plan.proofs.Readings.{read_as_later, read_as_none}
use Rattle.bb_session.specs.Acting.{no_answers}
use Rattle.bb_session.specs.Comparing.{CompareAnswer, GivesCompared, IsSlotCompared, compare_text}
use Rattle.bb_session.specs.Session.{Answers, done_with, refused_for, session_by}
use Rattle.bb_session.specs.Work.{Gives, SendsByMemory}
use Rattle.bb_session.specs.declared.report.Report.{Report}
use Rattle.bb_tool.specs.Drilling.{IsDrilled}
use Rattle.bb_tool.specs.SessionAnswer.{AreAnswers, IsFollowed, IsSessionAnswer, IsTaskDone}
use Rattle.bb_tool.proofs.session.session.Goals as goal

-- where nothing was asked of the device
abbrev early_answers : FileAnswers → Option DrillCounts → Answers
early_answers files drill = record { files = files; load = Ok None; work = no_answers; drill = drill; compared = None }

module _ (words : List (List ℕ)) (folder folder' : Folder) (before after : Device) where
  -- what was answered to the plan of these words
  answered_by : (answers : Answers) (plan : Result SessionPlan EarlyEnd) → plan_by_words words before.geometry answers.files ≡ plan →
      AreRead (plan_reading words before.geometry) folder folder' answers.files → IsFollowed plan before after answers → IsDrilled plan answers.drill →
      AreAnswers words folder folder' before after answers
  answered_by answers plan is filed followed drilled = record {
    filed = filed;
    followed = subst (λ (p : Result SessionPlan EarlyEnd). IsFollowed p before after answers) (sym is) followed;
    drilled = subst (λ (p : Result SessionPlan EarlyEnd). IsDrilled p answers.drill) (sym is) drilled;
  }

  -- and what its session gave
  given_by : (answers : Answers) (plan : Result SessionPlan EarlyEnd) → plan_by_words words before.geometry answers.files ≡ plan →
      AreRead (plan_reading words before.geometry) folder folder' answers.files → IsFollowed plan before after answers → IsDrilled plan answers.drill →
      (given : Result Report Refusal) → Gives (session_by plan answers) given → IsSessionAnswer words folder folder' before after given
  given_by answers plan is filed followed drilled given gives = inl (record {
    answers = answers;
    answered = answered_by answers plan is filed followed drilled;
    gives = subst (λ (p : Result SessionPlan EarlyEnd). Gives (session_by p answers) given) (sym is) gives;
  })

  -- a comparison gave what it found, unless memory was refused for the text
  compared_by : (place : SlotImage) (files : FileAnswers) → plan_by_words words before.geometry files ≡ Err (Compared place) →
      AreRead (plan_reading words before.geometry) folder folder' files → (answer : CompareAnswer) → IsSlotCompared place before after answer →
      (given : Result Report Refusal) → GivesCompared answer given → IsSessionAnswer words folder folder' before after given
  compared_by place files is filed None compared given gives =
      given_by (record { files = files; load = Ok None; work = no_answers; drill = None; compared = None }) (Err (Compared place)) is filed compared
      refl given (subst (Gives (refused_for refusals.ReadFault)) (sym gives) (refl, refl))
  compared_by place files is filed (Some found) compared given (inl done) =
      given_by (record { files = files; load = Ok None; work = no_answers; drill = None; compared = Some found }) (Err (Compared place)) is filed
      compared refl given (subst (Gives (done_with (compare_text found))) (sym done) (refl, refl))
  compared_by place files is filed (Some found) compared given (inr memory) =
      let answers : Answers = record { files = files; load = Ok None; work = no_answers; drill = None; compared = Some found } in
      inr (inl (record {
        answers = answers;
        answered = answered_by answers (Err (Compared place)) is filed compared refl;
        whole = subst (λ (p : Result SessionPlan EarlyEnd). SendsByMemory (session_by p answers).refusal) (sym is) tt;
        is = memory;
      }))

  -- by its task, which was done, unless memory was refused
  pub planned_done : (task : PlannedTask) → IsReadAs (plan_reading words before.geometry) task_as folder folder' (Ok task) →
      (given : Result Report Refusal) → IsTaskDone (task_as task) before after given → IsSessionAnswer words folder folder' before after given
  planned_done task (inr (memory, short)) given done = absurd cc
  planned_done (tasks.OnCopies plan) (inl read) given (inl done) =
      given_by (record { files = read.answers; load = done.load; work = done.answers; drill = None; compared = None }) (Ok (plan_as plan)) (ap planned read.gives)
      read.are done.work refl given done.gives
  planned_done (tasks.OnCopies plan) (inl read) given (inr (inl text)) =
      let answers : Answers = record { files = read.answers; load = text.load; work = text.answers; drill = None; compared = None } in
      inr (inl (record {
        answers = answers;
        answered = answered_by answers (Ok (plan_as plan)) (ap planned read.gives) read.are text.work refl;
        whole =
            subst (λ (p : Result SessionPlan EarlyEnd). SendsByMemory (session_by p answers).refusal) (sym (ap planned read.gives)) text.whole;
        is = text.is;
      }))
  planned_done (tasks.OnCopies plan) (inl read) given (inr (inr memory)) = inr (inr memory)
  planned_done (tasks.Prints text) (inl read) given done =
      given_by (early_answers read.answers None) (Err (Printed text)) (ap planned read.gives) read.are done.1 refl given
      (subst (Gives (session_by (Err (Printed text)) (early_answers read.answers None))) (sym done.0) (refl, refl))
  planned_done (tasks.Drills numbers) (inl read) (Ok report) done =
      let made = done.0.0 in
      given_by (early_answers read.answers (Some made.counts)) (Err (Drilled numbers)) (ap planned read.gives) read.are done.1 made.counted (Ok report)
      (ap (λ (r : Report). r.text) (sym made.is), ap (λ (r : Report). r.refusal) (sym made.is))
  planned_done (tasks.Drills numbers) (inl read) (Err refusal) done =
      inr (inr (record { is = ap (λ (r : Refusal). Err r) done.0.1; unasked = done.1 }))
  planned_done (tasks.Compares place) (inl read) given (inl done) =
      compared_by place read.answers (ap planned read.gives) read.are done.answer done.compared given done.gives
  planned_done (tasks.Compares place) (inl read) given (inr memory) = inr (inr (record { is = memory.0; unasked = memory.1 }))

-- nothing was asked of the device, since the plan was refused
pub planned_refused : (words : List (List ℕ)) (folder folder' : Folder) (device : Device) (refusal : Refusal) →
    IsReadAs (plan_reading words device.geometry) task_as folder folder' (Err refusal) →
    IsSessionAnswer words folder folder' device device (Err refusal)
planned_refused words folder folder' device refusal (inl read) =
    given_by words folder folder' device device (early_answers read.answers None)
    (Err (Refused refusal)) (ap planned read.gives) read.are refl refl (Err refusal) (refl, refl)
planned_refused words folder folder' device refusal (inr (memory, short)) =
    let same : refusal ≡ refusals.NoMemory = cc in
    inr (inr (record { is = ap (λ (r : Refusal). Err r) same; unasked = refl }))

-- ---- the goals

pub returns-in_err-task-clause-gives : goal.returns-in_err-task-clause-gives
returns-in_err-task-clause-gives g c =
    let p = err_from_is_err_and c.from_residual.result c.from_residual.ensures.1 in
    let words = c.args.words.now in
    let before = g.N.Files.folder c.args.files.now in
    let after = g.N.Files.folder c.plan_session.new.files in
    let device = g.B.Flash.device c.args.board.now in
    let refusal : Refusal = c.in_err-task.field-0.0 in
    let is : c.from_residual.result ≡ Err refusal = p.1 ∙ ap (λ e. Err e) p.2 in
    subst (IsSessionAnswer words before after device device) (sym is)
    (planned_refused words before after device refusal
    (subst (λ (d : Geometry). IsReadAs (plan_reading words d) task_as before after (Err refusal)) c.geometry.ensures.value
    c.in_err-task.ensures.read))

pub returns-in_err-task-clause-files : goal.returns-in_err-task-clause-files
returns-in_err-task-clause-files g c =
    let refusal : Refusal = c.in_err-task.field-0.0 in
    read_as_later (plan_reading c.args.words.now c.geometry.result) task_as _ _ (Err refusal) c.in_err-task.ensures.read

pub returns-in_err-task-clause-unread : goal.returns-in_err-task-clause-unread
returns-in_err-task-clause-unread g c = λ none.
    let refusal : Refusal = c.in_err-task.field-0.0 in
    read_as_none (plan_reading c.args.words.now c.geometry.result) task_as _ _ (Err refusal) c.in_err-task.ensures.read
    (subst (λ (d : Geometry). reads_file (plan_reading c.args.words.now d) ≡ false) (sym c.geometry.ensures.value) none)

pub returns-in_err-task-clause-later : goal.returns-in_err-task-clause-later
returns-in_err-task-clause-later g c = later_same (g.B.Flash.device c.args.board.now)

pub returns-clause-gives : goal.returns-clause-gives
returns-clause-gives g c =
    let words = c.args.words.now in
    let before = g.N.Files.folder c.args.files.now in
    let after = g.N.Files.folder c.plan_session.new.files in
    planned_done words before after (g.B.Flash.device c.args.board.now) (g.B.Flash.device c.do_task.new.board) c.in_ok-task.task
    (subst (λ (d : Geometry). IsReadAs (plan_reading words d) task_as before after (Ok c.in_ok-task.task)) c.geometry.ensures.value c.in_ok-task.ensures.read)
    c.do_task.result c.do_task.ensures.done

pub returns-clause-files : goal.returns-clause-files
returns-clause-files g c =
    read_as_later (plan_reading c.args.words.now c.geometry.result) task_as _ _ (Ok c.in_ok-task.task) c.in_ok-task.ensures.read

pub returns-clause-unread : goal.returns-clause-unread
returns-clause-unread g c = λ none.
    read_as_none (plan_reading c.args.words.now c.geometry.result) task_as _ _ (Ok c.in_ok-task.task) c.in_ok-task.ensures.read
    (subst (λ (d : Geometry). reads_file (plan_reading c.args.words.now d) ≡ false) (sym c.geometry.ensures.value) none)
