-- What a session says of rounds and starts, from its work.
use Rattle.std.proofs.Common.{◌≡◌, ℕ, true, List, length, map, option_map, Option, Some, None, Ok, Err, refl, sym, ap, subst, ◌∙◌, inl, inr}
use Rattle.std.specs.Option.{ForSome, IsSomeAnd}
use Rattle.std.specs.Prelude.{unwrap_or}
use Rattle.bb_copies.specs.StandsFor.{first_passed, picked}
use Rattle.bb_copies.proofs.History.{picked_is_first}
use Rattle.bb_flash.specs.Device.{Device, content, starts}
use Rattle.bb_flash.specs.declared.plan.Plan.{Plan as StartPlan}
use Rattle.bb_state.specs.Keyed.{Keyed}
use Rattle.bb_shell.specs.Boot.{Round, first_table, last_round, plan_at, table_after}
use Rattle.bb_shell.specs.Counting.{turn_of_rounds}
use Rattle.bb_shell.specs.Ends.{AddsStart, RaisedBy, StartsOnce, failed_starts}
use Rattle.bb_shell.specs.Rounds.{answer_of}
use Rattle.bb_shell.specs.Sequence.{AddsBy, AddsLast, started_last}
use Rattle.bb_shell.specs.declared.outcome.Outcome.{Outcome}
use Rattle.bb_shell.specs.declared.outcome.Outcome.TheVariants as outcomes
use Rattle.bb_plan.specs.Plan.{Compared, Drilled, EarlyEnd, Printed, Refused, SessionPlan}
use Rattle.bb_layout.proofs.Converting.{convert_length, convert_same}
use Rattle.bb_layout.specs.Convert.{convert}
use Rattle.bb_layout.specs.Layout.{Laid}
use Rattle.bb_shell.specs.Stages.{first_area}
use Rattle.bb_state.specs.Shows.{EachShowsOrNothing}
use Rattle.bb_plan.specs.declared.plan.Work.{Work}
use Rattle.bb_plan.specs.declared.plan.Work.TheVariants.{Boot, Run}
use Rattle.bb_plan.specs.declared.refusal.Refusal.TheVariants as refusals
use Rattle.bb_plan.specs.declared.status.Status.TheVariants as statuses
use Rattle.bb_plan.proofs.Sizes.{IsSizedWork, planned_sized}
use Rattle.bb_session.specs.Acting.{AreRoundsOf, WorkAnswers, start_plans_of}
use Rattle.bb_session.specs.Comparing.{CompareAnswer}
use Rattle.bb_session.specs.Looking.{first_found, passed_in}
use Rattle.bb_session.specs.Session.{Answers, LoadAnswer, Session, acts_after, loaded_area, work_session}
use Rattle.bb_session.specs.SessionTurns.{EachStanding, turn_of}
use Rattle.bb_session.specs.Work.{IsLoadedAs, IsTableWork, IsWork}
use Rattle.bb_session.proofs.Acted.{boot_back, session_rounds}
use Rattle.bb_session.proofs.Kept.{found_or, load_found}
use Rattle.bb_session.proofs.Started.{FailsBy, work_cause, work_rounds, work_started, work_stored}
use Rattle.bb_session.proofs.Turns.{standing_at, told_content}
use Rattle.bb_tool.specs.Calls.{IsSession, MayAnswer, SendsText, geometry_of, session_for, session_plan_for}
use Rattle.bb_tool.specs.Ran.{Ran}
use Rattle.bb_tool.specs.Sending.{sent_of}
use Rattle.bb_tool.specs.SessionAnswer.{IsEnded, IsFollowed}
use Rattle.bb_tool.specs.Starting.{BootReadsOwn, BootsInTurn, CountsFailedStarts, IsBoundWork, IsTurnOf, KnowsStartFaults, NamesTheTarget, RunsRounds, StartsAtMostOne, StartsAfterSave, StartsTheLast}
use Rattle.bb_tool.proofs.Copying.{followed_is, work_of}
use Rattle.bb_tool.proofs.Endings.{PlanEnd, by_answers, own_answer}
use Rattle.bb_tool.proofs.Told.{some_refusal, tells}

module _ (ran : Ran) where
  abbrev From : Device
  From = ran.before.device

  abbrev To : Device
  To = ran.after.device

  -- of a load that answered Ok
  loaded_work : (answers : Answers) (plan : SessionPlan) → MayAnswer ran answers → session_plan_for ran answers ≡ Ok plan →
      (found : Option (List ℕ)) → answers.load ≡ Ok found → IsWork plan From To (Ok found) answers.work
  loaded_work answers plan answered is found load =
      subst (λ l. IsWork plan From To l answers.work) load (work_of ran answers plan answered is)

  loaded_session : (answers : Answers) (plan : SessionPlan) → session_plan_for ran answers ≡ Ok plan →
      (found : Option (List ℕ)) → answers.load ≡ Ok found → work_session plan (Ok found) answers.work ≡ session_for ran answers
  loaded_session answers plan is found load =
      ap (λ (l : LoadAnswer). work_session plan l answers.work) (sym load) ∙ followed_is ran answers plan is

  pub rounds_of : RunsRounds ran
  rounds_of answers plan answered is found load =
      subst (λ (s : Session). AreRoundsOf (start_plans_of plan.work) (acts_after plan found) s.rounds) (loaded_session answers plan is found load)
      (work_rounds plan From To found answers.work (loaded_work answers plan answered is found load))

  pub starts_of : StartsTheLast ran
  starts_of answers plan answered is =
      subst (λ (s : Session). AddsLast (start_plans_of plan.work) s.rounds From To) (followed_is ran answers plan is)
      (work_started plan From To answers.load answers.work (work_of ran answers plan answered is)).adds

  pub starts_saved_of : StartsAfterSave ran
  starts_saved_of answers plan answered is found load some =
      let session = loaded_session answers plan is found load in
      subst
      (λ (s : Session). ForSome (content To)
      (λ image. EachShowsOrNothing plan.keyed.layout (table_after (loaded_area plan.keyed.layout found) s.rounds) (passed_in plan.keyed From.geometry.page image)))
      session
      (work_stored plan From To found answers.work (loaded_work answers plan answered is found load)
      (ap (λ (s : Session). started_last s.rounds) session ∙ some))

  pub start_faults_of : CountsFailedStarts ran
  start_faults_of answers plan answered is =
      subst (λ (s : Session). RaisedBy (failed_starts s.rounds) From.start_faults To.start_faults) (followed_is ran answers plan is)
      (work_started plan From To answers.load answers.work (work_of ran answers plan answered is)).rose

  pub start_causes_of : KnowsStartFaults ran
  start_causes_of answers plan answered is name refusal =
      let session = followed_is ran answers plan is in
      subst (λ (s : Session). FailsBy (start_plans_of plan.work) (last_round s.rounds) From To) session
      (work_cause plan From To answers.load answers.work (work_of ran answers plan answered is)
      (refusals.StartFailed name) (ap (λ (s : Session). s.refusal) session ∙ refusal) refl)

  -- ---- whatever it answered

  -- without a work on copies nothing is started
  ended_starts : (end : EarlyEnd) (from to : Device) (compared : CompareAnswer) → IsEnded end from to compared → starts to ≡ starts from
  ended_starts (Compared place) from to compared done = done.quiet.starts.starts
  ended_starts (Printed text) from to compared done = ap starts done
  ended_starts (Drilled numbers) from to compared done = ap starts done
  ended_starts (Refused refusal) from to compared done = ap starts done

  some_start : (o : Option StartPlan) → IsSomeAnd o (StartsOnce From To) → (plan : StartPlan) × StartsOnce From To plan
  some_start None h = absurd h
  some_start (Some plan) h = (plan, h)

  one_or_none : (plans : List (Option StartPlan)) (last : Option Round) →
      AddsBy plans From To last → StartsAtMostOne ran
  one_or_none plans None h = inl h
  one_or_none plans (Some round) h = at round.outcome h
    where
      at : (outcome : Outcome) → AddsStart (plan_at plans round.target) outcome From To →
          StartsAtMostOne ran
      at outcomes.Started h = inr (some_start (plan_at plans round.target) h)
      at _ h = inl h

  answered_once : (answers : Answers) → MayAnswer ran answers → (plan : PlanEnd) →
      session_plan_for ran answers ≡ plan → StartsAtMostOne ran
  answered_once answers answered (Ok plan) is =
      one_or_none (start_plans_of plan.work) (last_round (session_for ran answers).rounds) (starts_of answers plan answered is)
  answered_once answers answered (Err end) is =
      inl (ended_starts end From To answers.compared (subst (λ (p : PlanEnd). IsFollowed p From To answers) is answered.followed))

  pub starts_once_of : IsSession ran → StartsAtMostOne ran
  starts_once_of s =
      by_answers ran (StartsAtMostOne ran) s (λ same. inl (ap starts same))
      (λ answers answered. answered_once answers answered (session_plan_for ran answers) refl)

-- ---- the target that is named

pub start_failed_of : (ran : Ran) → IsSession ran → NamesTheTarget ran
start_failed_of ran s e =
    let own = own_answer ran s statuses.StartFailed (λ h. cc) (λ h. cc) e in
    let session = session_for ran own.by.answers in
    let some = some_refusal session.refusal statuses.StartFailed (λ h. cc) own.own in
    let named = (tells some.0).target some.1.1 in
    record {
      answers = own.by.answers;
      answered = own.by.answered;
      name = named.0;
      refusal = some.1.0 ∙ ap (λ r. Some r) named.1;
      told = subst (SendsText ran (sent_of session)) own.own own.by.told;
    }

-- ---- the turn of a boot is one of those that the law of starts counts

-- what is read of the area that was found, or of the empty one
shown_or : (layout : Laid) (found : Option (List ℕ)) → convert layout (unwrap_or found first_area) ≡ loaded_area layout found
shown_or layout None = refl
shown_or layout (Some area) = refl

-- no other work is a boot, and no turn without a load
work_in_turn : (keyed : Keyed) (work : Work) (from to : Device) (load : LoadAnswer) →
    (answers : WorkAnswers) → IsSizedWork work keyed.layout →
    let plan : SessionPlan = record { keyed = keyed; work = work } in
    IsWork plan from to load answers → EachStanding keyed from to
    (λ first last before. IsTurnOf keyed.layout work before (turn_of plan load answers before.marks))
work_in_turn keyed (Boot targets cause plans) from to (Ok found) answers sized done =
    λ first e last f before here stands.
    let plan : SessionPlan = record { keyed = keyed; work = Boot targets cause plans } in
    let work : IsTableWork plan from to (Ok found) answers = done in
    let layout = keyed.layout in
    let page = from.geometry.page in
    let passed = passed_in keyed page first.image in
    let table = loaded_area keyed.layout found in
    let gave : IsLoadedAs keyed work.used from work.middle found = work.loaded.gives in
    let told = told_content from first e in
    let held = load_found keyed gave.area gave.loaded from work.middle first.image gave.gave told in
    let found_is : found ≡ first_found passed = gave.taken ∙ held in
    let stored : List ℕ = first_passed first_area passed in
    let gives : convert layout stored ≡ table =
    ap (convert layout) (sym (found_or first_area passed) ∙ ap (λ o. unwrap_or o first_area) (sym found_is))
    ∙ shown_or layout found in
    let standing = standing_at keyed page before first.image here stands in
    let run = work.ran in
    record {
      table = table;
      table_is =
          ap (option_map (convert layout))
          (picked_is_first first_area passed before.areas before.acked before.marks standing)
          ∙ ap (λ t. Some t) gives;
      sized =
          sym (ap length gives)
          ∙ convert_length layout.area_len layout.vars stored sized.layout_is.vars ∙ sym sized.bound;
      answers = map answer_of run.rounds;
      turn =
          ap (turn_of_rounds (picked before.marks) (Some table))
          (session_rounds work
          ∙ sym (boot_back targets plans (first_table targets cause true table) run.rounds run.are));
    }
work_in_turn keyed _ from to _ answers sized done = λ first e last f before here stands. tt

bound_work : (work : Work) (keyed : Keyed) → IsSizedWork work keyed.layout → IsBoundWork work
bound_work (Boot targets cause plans) keyed sized = sized.binding
bound_work (Run script targets cause plans) keyed sized = sized.binding
bound_work _ keyed sized = tt

own_work : (work : Work) (keyed : Keyed) → IsSizedWork work keyed.layout →
    BootReadsOwn keyed.layout work
own_work (Boot targets cause plans) keyed sized =
    λ table e.
    convert_same keyed.layout.area_len keyed.layout.vars table sized.layout_is.vars (e ∙ sized.bound)
own_work _ keyed sized = tt

pub boots_of : (ran : Ran) → BootsInTurn ran
boots_of ran answers plan answered is =
    let sized = planned_sized ran.words (geometry_of ran) answers.files plan is in
    record {
      binding = bound_work plan.work plan.keyed sized;
      own = own_work plan.work plan.keyed sized;
      turns =
          work_in_turn plan.keyed plan.work ran.before.device ran.after.device answers.load answers.work sized
          (work_of ran answers plan answered is);
    }
