-- The answers that the end of a script brings, and refused memory.
use Rattle.std.proofs.Common.{◌≡◌, ◌≢◌, ◌⊎◌, ℕ, true, false, List, ◌++◌, Option, Some, None, Ok, Err, refl, sym, ap, subst, ◌∙◌, inl, inr}
use Rattle.std.proofs.lemmas.Bool.{false≢true}
use Rattle.std.specs.Option.{IsSomeAnd, option_map_or}
use Rattle.bb_copies.specs.declared.answers.CopyFault.{CopyFault}
use Rattle.bb_interpreter.specs.declared.run.ScriptEnd.{ScriptEnd}
use Rattle.bb_interpreter.specs.declared.run.ScriptEnd.TheVariants as ends
use Rattle.bb_words.specs.Words.{words_of}
use Rattle.bb_plan.specs.Plan.{IsRefusedWith, Refused}
use Rattle.bb_plan.specs.Status.{is_planning}
use Rattle.bb_plan.specs.declared.refusal.Refusal.{Refusal}
use Rattle.bb_plan.specs.declared.refusal.Refusal.TheVariants as refusals
use Rattle.bb_plan.specs.declared.status.Status.{Status}
use Rattle.bb_plan.specs.declared.status.Status.TheVariants as statuses
use Rattle.bb_plan.proofs.Plans.{plan_refusal}
use Rattle.bb_session.specs.Scripting.{is_starved, refusal_by_end}
use Rattle.bb_session.specs.Session.{Answers, LoadAnswer, acts_after, end_by_acts, ended_status, script_end, session_by, shown, work_session}
use Rattle.bb_session.proofs.ScriptEnded.{HasPlayed, acted_script, acted_status, end_status, failed_end, failed_status, fault_other, is_scripts, limited_end, plan_front, starved_end}
use Rattle.bb_tool.specs.Calls.{IsAnswered, IsSession, IsWithoutMemory, SendsText, geometry_of, session_for, session_plan_for}
use Rattle.bb_tool.specs.Drilling.{IsDrilled}
use Rattle.bb_tool.specs.Lines.{line_of}
use Rattle.bb_tool.specs.Ran.{Ran}
use Rattle.bb_tool.specs.ScriptEnds.{ComesByEnd, IsFailedEnd, IsLimitedEnd, ShowsTheStatus}
use Rattle.bb_tool.specs.Sending.{sent_of}
use Rattle.bb_tool.specs.SessionAnswer.{IsFollowed}
use Rattle.bb_tool.proofs.Endings.{IsOwn, PlanEnd, comes_always, early_refused, own_answer, status_by}
use Rattle.bb_tool.proofs.Told.{tells, told_cases}

-- ---- a session that ran a script

abbrev Plays : PlanEnd → Answers → Status → Type 0
Plays plan answers answer = HasPlayed (session_by plan answers) (script_end plan answers.load answers.work) answer

-- one with an answer that scripts alone have ran one, or its plan was refused so
script_or_plan : (plan : PlanEnd) (answers : Answers) (answer : Status) → is_scripts answer ≡ true → answer ≢ statuses.Done →
    IsDrilled plan answers.drill → status_by plan answers ≡ answer → IsRefusedWith answer plan ⊎ Plays plan answers answer
script_or_plan (Err end) answers answer scripts other drilled e =
    inl
    (early_refused end answers.drill answers.compared answer other (λ h. false≢true (sym (ap is_scripts h) ∙ scripts)) drilled e)
script_or_plan (Ok plan) answers answer scripts other drilled e = inr (by answers.load e)
  where
    by : (load : LoadAnswer) → ended_status (work_session plan load answers.work) ≡ answer →
        HasPlayed (work_session plan load answers.work) (script_end (Ok plan) load answers.work) answer
    by (Ok found) e = acted_script plan (shown plan.keyed.layout found) (acts_after plan found) answers.work answer scripts e
    by (Err fault) e = absurd (false≢true (sym (fault_other fault) ∙ ap is_scripts e ∙ scripts))

-- an end of it has its status
ended_so : (Ends : ScriptEnd → Type 0) (answer : Status) →
    ((end : ScriptEnd) (fault : Option CopyFault) → Ends end → end_status end fault ≡ answer) → (plan : PlanEnd) (answers : Answers) →
    IsSomeAnd (script_end plan answers.load answers.work) Ends → status_by plan answers ≡ answer
ended_so Ends answer so (Err end) answers some = absurd some
ended_so Ends answer so (Ok plan) answers some = by answers.load some
  where
    acted : (found : Option (List ℕ)) (played : Option ScriptEnd) → end_by_acts (acts_after plan found) answers.work ≡ played → IsSomeAnd played Ends →
        ended_status (work_session plan (Ok found) answers.work) ≡ answer
    acted found None is some = absurd some
    acted found (Some end) is some =
        let has = acted_status plan (shown plan.keyed.layout found) (acts_after plan found) answers.work end is in
        has.1 ∙ so end has.0 some

    by : (load : LoadAnswer) → IsSomeAnd (script_end (Ok plan) load answers.work) Ends →
        ended_status (work_session plan load answers.work) ≡ answer
    by (Ok found) some = acted found (end_by_acts (acts_after plan found) answers.work) refl some
    by (Err fault) some = absurd some

-- ---- ScriptFailed and StepLimit

module _ (answer : Status) (scripts : is_scripts answer ≡ true) (late : is_planning answer ≡ false) (other : answer ≢ statuses.Done)
    (memory : answer ≢ statuses.NoMemory) where
  own_script : (ran : Ran) (own : IsOwn ran answer) → Plays (session_plan_for ran own.by.answers) own.by.answers answer
  own_script ran own =
      let answers = own.by.answers in
      elim (script_or_plan (session_plan_for ran answers) answers answer scripts other own.by.answered.drilled own.own) [
        | inl refused ↦ absurd (plan_refusal answer late memory (words_of ran.words) (geometry_of ran) answers.files refused)
        | inr played ↦ played
      ]

  comes_by_end : answer ≢ statuses.SinkFault → (Ends : ScriptEnd → Type 0) →
      ((end : ScriptEnd) (fault : Option CopyFault) → end_status end fault ≡ answer → Ends end) →
      ((end : ScriptEnd) (fault : Option CopyFault) → Ends end → end_status end fault ≡ answer) →
      (ran : Ran) → IsSession ran → ComesByEnd answer Ends ran
  comes_by_end sink Ends by_status has_status ran s = record {
    only = λ e.
        let own = own_answer ran s answer sink memory e in
        let played = own_script ran own in
        record {
          answers = own.by.answers;
          answered = own.by.answered;
          ended = subst (λ o. IsSomeAnd o Ends) (sym played.ended) (by_status played.end played.fault played.status);
        };
    always = λ each. comes_always ran s answer (λ answers answered.
        ended_so Ends answer has_status (session_plan_for ran answers) answers (each answers answered));
  }

failed_only : (end : ScriptEnd) (fault : Option CopyFault) → end_status end fault ≡ statuses.ScriptFailed → IsFailedEnd end
failed_only end fault e = let failed = failed_end end fault e in subst IsFailedEnd (sym failed.is) failed.other

failed_so : (end : ScriptEnd) (fault : Option CopyFault) → IsFailedEnd end → end_status end fault ≡ statuses.ScriptFailed
failed_so (ends.Done status) fault other = failed_status (ends.Done status) fault status refl other
failed_so _ fault other = absurd other

limited_so : (end : ScriptEnd) (fault : Option CopyFault) → IsLimitedEnd end → end_status end fault ≡ statuses.StepLimit
limited_so ends.StepLimit fault limited = refl
limited_so _ fault limited = absurd limited

pub script_failed_of : (ran : Ran) → IsSession ran → ComesByEnd statuses.ScriptFailed IsFailedEnd ran
script_failed_of = comes_by_end statuses.ScriptFailed refl refl (λ h. cc) (λ h. cc) (λ h. cc) IsFailedEnd failed_only failed_so

pub step_limit_of : (ran : Ran) → IsSession ran → ComesByEnd statuses.StepLimit IsLimitedEnd ran
step_limit_of =
    comes_by_end statuses.StepLimit refl refl (λ h. cc) (λ h. cc) (λ h. cc) IsLimitedEnd
    (λ end fault e. subst IsLimitedEnd (sym (limited_end end fault e)) tt) limited_so

pub shown_of : (ran : Ran) → IsSession ran → ShowsTheStatus ran
shown_of ran s e =
    let own = own_answer ran s statuses.ScriptFailed (λ h. cc) (λ h. cc) e in
    let played = own_script statuses.ScriptFailed refl refl (λ h. cc) (λ h. cc) ran own in
    let failed = failed_end played.end played.fault played.status in
    record {
      answers = own.by.answers;
      answered = own.by.answered;
      status = failed.status;
      refusal = played.refusal ∙ failed.shown;
      ended = played.ended ∙ ap (λ (end : ScriptEnd). Some end) failed.is;
      told = subst (SendsText ran (sent_of (session_for ran own.by.answers))) own.own own.by.told;
    }

-- ---- refused memory

memory_plan : (plan : PlanEnd) → IsRefusedWith statuses.NoMemory plan → plan ≡ Err (Refused refusals.NoMemory)
memory_plan (Err (Refused refusal)) h = ap (λ (r : Refusal). Err (Refused r)) ((tells refusal).memory h)
memory_plan _ h = absurd h

module _ (ran : Ran) (ending : IsAnswered ran) (memory : ended_status (session_for ran ending.answers) ≡ statuses.NoMemory) where
  abbrev plan : PlanEnd
  plan = session_plan_for ran ending.answers

  -- before the work on the device
  unplanned_memory : plan ≡ Err (Refused refusals.NoMemory) → IsWithoutMemory ran
  unplanned_memory is =
      let text : PlanEnd → Type 0 = λ p. SendsText ran (sent_of (session_by p ending.answers)) (status_by p ending.answers) in
      let left : PlanEnd → Type 0 = λ p. IsFollowed p ran.before.device ran.after.device ending.answers in
      record { told = subst text is ending.told; work = inl (subst left is ending.answered.followed) }

  -- or in its midst
  cut_short : Plays plan ending.answers statuses.NoMemory → IsWithoutMemory ran
  cut_short played =
      let session = session_for ran ending.answers in
      let is = starved_end played.end played.fault played.status in
      let refusal_is : session.refusal ≡ Some refusals.NoMemory =
      played.refusal ∙ ap (λ (e : ScriptEnd). refusal_by_end e played.fault) is in
      let text_is = played.starved (ap is_starved is) in
      let line : sent_of session ≡ line_of refusals.NoMemory =
      ap (λ (r : Option Refusal). option_map_or (λ e. session.text ++ line_of e) r session.text) refusal_is
      ∙ ap (λ (text : List ℕ). text ++ line_of refusals.NoMemory) text_is in
      record {
        told = subst (λ t. SendsText ran t statuses.NoMemory) line (subst (SendsText ran (sent_of session)) memory ending.told);
        work =
            inr
            (inr (record {
              answers = ending.answers;
              answered = ending.answered;
              cut = refusal_is;
              front = plan_front plan ending.answers;
            }));
      }

  memory_answered : IsWithoutMemory ran
  memory_answered =
      elim (script_or_plan plan ending.answers statuses.NoMemory refl (λ h. cc) ending.answered.drilled memory) [
        | inl refused ↦ unplanned_memory (memory_plan plan refused)
        | inr played ↦ cut_short played
      ]

pub no_memory_of : (ran : Ran) → IsSession ran → ran.status ≡ statuses.NoMemory → IsWithoutMemory ran
no_memory_of ran (inr memory) e = memory
no_memory_of ran (inl ending) e = elim (told_cases ran _ _ ending.told) [
  | inr off ↦ absurd (let h : statuses.SinkFault ≡ statuses.NoMemory = sym off.0 ∙ e in cc)
  | inl own ↦ memory_answered ran ending (sym own ∙ e)
]
