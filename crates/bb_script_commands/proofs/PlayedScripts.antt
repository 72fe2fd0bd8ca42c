-- A whole script, by what its rounds were answered.
use Rattle.std.proofs.Common.{◌≡◌, ◌≢◌, ℕ, List, [], ◌∷◌, ◌++◌, map, Option, Some, None, ap, refl, sym, subst, ◌∙◌}
use Rattle.std.specs.List.{AllByRecursion}
use Rattle.bb_flash.specs.Device.{Device}
use Rattle.bb_script.specs.Tree.{ScriptTree}
use Rattle.bb_interpreter.specs.Means.{means_steps, next_answer}
use Rattle.bb_interpreter.specs.Runs.{HasRunNothing, IsAct, RanScript, act_answer, course_of, standing_of}
use Rattle.bb_interpreter.specs.Standing.{Act, Answer, Course, Standing}
use Rattle.bb_interpreter.specs.Variables.{variable_pair}
use Rattle.bb_interpreter.specs.declared.commands.Reply.TheVariants as reply
use Rattle.bb_interpreter.specs.declared.run.ScriptEnd.{ScriptEnd}
use Rattle.bb_interpreter.specs.declared.run.ScriptEnd.TheVariants as ends
use Rattle.bb_interpreter.specs.declared.run.ScriptRun.{ScriptRun}
use Rattle.bb_shell.specs.Boot.{Round}
use Rattle.bb_shell.specs.Rounds.{RoundAnswer, answer_of}
use Rattle.bb_script_commands.proofs.Mirrors.{IsMore, Left, Mirrors, seen_as, seen_course, steps_so}
use Rattle.bb_script_commands.specs.Held.{Held, known_of}
use Rattle.bb_script_commands.specs.Playing.{IsPlayed, Played, course_at, course_end, played_outside, plays, script_played, unplayed}
use Rattle.bb_script_commands.specs.Scripts.{called_rounds, calls_on}
use Rattle.bb_script_commands.specs.StateNames.{state_outside}

-- how a run ended
end_acts : {D : Type 0} (end : ScriptEnd) (at : Standing Held D) → (course_at (course_of end at)).acts ≡ at.acts
end_acts (ends.Done status) at = refl
end_acts ends.Started at = refl
end_acts ends.StepLimit at = refl
end_acts ends.Fault at = refl
end_acts ends.NoMemory at = refl

end_more : {D : Type 0} (end : ScriptEnd) (at : Standing Held D) → IsMore at.answers → IsMore (course_at (course_of end at)).answers
end_more (ends.Done status) at h = h
end_more ends.Started at h = h
end_more ends.StepLimit at h = h
end_more ends.Fault at h = h
end_more ends.NoMemory at h = h

end_left : {D : Type 0} (end : ScriptEnd) (at : Standing Held D) → (end ≡ ends.NoMemory → at.grants ≡ Some 0) → Left (course_of end at)
end_left (ends.Done status) at h = tt
end_left ends.Started at h = tt
end_left ends.StepLimit at h = tt
end_left ends.Fault at h = tt
end_left ends.NoMemory at h = h refl

end_seen : {D : Type 0} (end : ScriptEnd) (at : Standing Held D) (later : List RoundAnswer) (rounds : List Round)
    → (course_end (seen_course (course_of end at) later rounds) ≡ end)
    × ((course_at (seen_course (course_of end at) later rounds)).text ≡ at.text)
    × ((course_at (seen_course (course_of end at) later rounds)).outside.rounds ≡ rounds)
end_seen (ends.Done status) at later rounds = (refl, refl, refl)
end_seen ends.Started at later rounds = (refl, refl, refl)
end_seen ends.StepLimit at later rounds = (refl, refl, refl)
end_seen ends.Fault at later rounds = (refl, refl, refl)
end_seen ends.NoMemory at later rounds = (refl, refl, refl)

-- what a play of all acts comes to
whole_play : {D : Type 0} (device : D → Device) (script : ScriptTree) (at to : Standing Held D) (end : ScriptEnd) (called : AllByRecursion (IsAct (calls_on device)) to.acts)
    → at.acts ≡ [] → means_steps state_outside next_answer script at ≡ course_of end to → IsMore to.answers → (end ≡ ends.NoMemory → to.grants ≡ Some 0)
    → (later : List RoundAnswer)
    → means_steps played_outside plays script (seen_as at (map answer_of (called_rounds device to.acts called) ++ later) [])
    ≡ seen_course (course_of end to) later (called_rounds device to.acts called)
whole_play device script at to end called none is more left later =
    let play = means_steps played_outside plays script in
    let m : Mirrors device at (course_of end to) play = subst (λ c. Mirrors device at c play) is (steps_so device script at) in
    let same : m.more ≡ to.acts = ap (λ l. l ++ m.more) (sym none) ∙ sym m.grows ∙ end_acts end to in
    subst
    (λ l. (all : AllByRecursion (IsAct (calls_on device)) l) →
    play (seen_as at (map answer_of (called_rounds device l all) ++ later) []) ≡ seen_course (course_of end to) later (called_rounds device l all))
    same (λ all. m.plays (end_more end to more) (end_left end to left) all later []) called

-- before any command
begun : {D : Type 0} (old : ScriptRun Held) (from : D) (answers : List (Answer Held D)) (grants : Option ℕ) (more : List RoundAnswer) → HasRunNothing old
    → ◌≡◌ {A = Standing Played (Unit {0})} (unplayed (known_of old.commands) more grants) (seen_as (standing_of old from [] answers grants) more [])
begun old from answers grants more fresh =
    λ i. record {
      outside = record { known = known_of old.commands; answers = more; rounds = [] };
      device = tt;
      own = (ap (map variable_pair) (sym fresh.variables)) i;
      text = (sym fresh.text) i;
      status = (sym fresh.status) i;
      count = (sym fresh.count) i;
      answers = [];
      grants = grants;
      acts = [];
    }

played_by : {D : Type 0} (device : D → Device) (script : ScriptTree) (old new : ScriptRun Held) (from to : D) (end : ScriptEnd)
    (acts : List (Act Held D)) (called : AllByRecursion (IsAct (calls_on device)) acts) (grants left : Option ℕ) (one : Answer Held D)
    → HasRunNothing old
    → means_steps state_outside next_answer script (standing_of old from [] (map act_answer acts ++ one ∷ []) grants) ≡ course_of end (standing_of new to acts (one ∷ []) left)
    → (end ≡ ends.NoMemory → left ≡ Some 0)
    → IsPlayed script (known_of old.commands) (called_rounds device acts called) grants end new.text
played_by device script old new from to end acts called grants left one fresh is none =
    let at = standing_of old from [] (map act_answer acts ++ one ∷ []) grants in
    let last = standing_of new to acts (one ∷ []) left in
    let rounds = called_rounds device acts called in
    let play = means_steps played_outside plays script in
    let whole : (later : List RoundAnswer) → script_played script (known_of old.commands) (map answer_of rounds ++ later) grants ≡ seen_course (course_of end last) later rounds =
    λ later. ap play (begun old from (map act_answer acts ++ one ∷ []) grants (map answer_of rounds ++ later) fresh)
    ∙ whole_play device script at last end called refl is tt none later in
    λ later. record {
      end_is = ap (λ (c : Course Played (Unit {0})). course_end c) (whole later) ∙ (end_seen end last later rounds).0;
      text_is = ap (λ (c : Course Played (Unit {0})). (course_at c).text) (whole later) ∙ (end_seen end last later rounds).1;
      rounds_are = ap (λ (c : Course Played (Unit {0})). (course_at c).outside.rounds) (whole later) ∙ (end_seen end last later rounds).2;
    }

-- a run whose memory sufficed
pub played_whole : {D : Type 0} (device : D → Device) (script : ScriptTree) (old new : ScriptRun Held) (from to : D) (end : ScriptEnd)
    (ran : RanScript (calls_on device) state_outside script old new from to end) → HasRunNothing old → end ≢ ends.NoMemory
    → IsPlayed script (known_of old.commands) (called_rounds device ran.acts ran.called) None end new.text
played_whole device script old new from to end ran fresh memory =
    let one : Answer Held _ = record { reply = reply.Fault; outside = new.commands; device = to } in
    played_by device script old new from to end ran.acts ran.called None None one fresh (ran.whole memory (one ∷ [])) (λ none. absurd (memory none))

-- and one that was refused memory
pub played_front : {D : Type 0} (device : D → Device) (script : ScriptTree) (old new : ScriptRun Held) (from to : D) (end : ScriptEnd)
    (ran : RanScript (calls_on device) state_outside script old new from to end) → HasRunNothing old → end ≡ ends.NoMemory
    → IsPlayed script (known_of old.commands) (called_rounds device ran.acts ran.called) (Some ran.asked) ends.NoMemory new.text
played_front device script old new from to end ran fresh memory =
    let one : Answer Held _ = record { reply = reply.Fault; outside = new.commands; device = to } in
    played_by device script old new from to ends.NoMemory ran.acts ran.called (Some ran.asked) (Some 0) one fresh (ran.front memory (one ∷ [])) (λ none. refl)

pub record IsPlayedSo {D : Type 0} (device : D → Device) (script : ScriptTree) (old new : ScriptRun Held) (from to : D) (end : ScriptEnd)
    (ran : RanScript (calls_on device) state_outside script old new from to end) : Type 0 where
  pub grants : Option ℕ
  pub played : IsPlayed script (known_of old.commands) (called_rounds device ran.acts ran.called) grants end new.text
  pub granted : end ≢ ends.NoMemory → grants ≡ None

-- whatever its end
pub played_so : {D : Type 0} (device : D → Device) (script : ScriptTree) (old new : ScriptRun Held) (from to : D) (end : ScriptEnd)
    (ran : RanScript (calls_on device) state_outside script old new from to end) → HasRunNothing old
    → IsPlayedSo device script old new from to end ran
played_so device script old new from to (ends.Done status) ran fresh =
    record { grants = None; played = played_whole device script old new from to (ends.Done status) ran fresh (λ p. cc); granted = λ other. refl }
played_so device script old new from to ends.Started ran fresh =
    record { grants = None; played = played_whole device script old new from to ends.Started ran fresh (λ p. cc); granted = λ other. refl }
played_so device script old new from to ends.StepLimit ran fresh =
    record { grants = None; played = played_whole device script old new from to ends.StepLimit ran fresh (λ p. cc); granted = λ other. refl }
played_so device script old new from to ends.Fault ran fresh =
    record { grants = None; played = played_whole device script old new from to ends.Fault ran fresh (λ p. cc); granted = λ other. refl }
played_so device script old new from to ends.NoMemory ran fresh =
    record { grants = Some ran.asked; played = played_front device script old new from to ends.NoMemory ran fresh refl; granted = λ other. absurd (other refl) }
