-- Where nothing failed in the rounds of a script, they are those of answers without a fault.
use Rattle.std.proofs.Common.{◌≡◌, ℕ, ◌+◌, ◌-◌, ◌≤◌, true, false, List, [], ◌∷◌, ◌++◌, length, map, Option, Some, None, ap, arith, cond, inl, inr, refl, sym, subst, ◌∙◌}
use Rattle.std.proofs.lemmas.Bool.{false≢true}
use Rattle.std.proofs.lemmas.List.{length-append, length-map, length-replicate}
use Rattle.std.proofs.lemmas.Option.{none-some}
use Rattle.std.specs.Option.{option_and_then, option_map_or}
use Rattle.std.specs.Prelude.{replicate}
use Rattle.bb_interpreter.specs.Standing.{GoesOn, Stops}
use Rattle.bb_interpreter.specs.declared.run.ScriptEnd.{ScriptEnd}
use Rattle.bb_script.specs.Tree.{ScriptTree}
use Rattle.bb_shell.proofs.Made.{AllSaved}
use Rattle.bb_shell.proofs.Sound.{NoneFailed}
use Rattle.bb_shell.specs.Boot.{Round, last_round}
use Rattle.bb_shell.specs.Counting.{target_started}
use Rattle.bb_shell.specs.Rounds.{RoundAnswer, answer_of, is_started, sound_answer}
use Rattle.bb_shell.specs.Sequence.{started_last}
use Rattle.bb_script_commands.specs.Held.{Known}
use Rattle.bb_script_commands.specs.Playing.{IsPlayed, PlaysTo, course_at, course_end, script_played, script_rounds, unplayed}
use Rattle.bb_script_commands.proofs.Parts.{Way, along, sounded, steps_so, way_rounds}
use Rattle.bb_script_commands.proofs.SoundCalls.{IsUnfailing, soundly}

soundly_is : (answers : List RoundAnswer) → soundly answers ≡ replicate (length answers) sound_answer
soundly_is [] = refl
soundly_is (answer ∷ later) = ap (λ l. sound_answer ∷ l) (soundly_is later)

-- as many as are wanted
soundly_all : (rounds : List Round) (n : ℕ) → length rounds ≤ n
    → soundly (map answer_of rounds ++ replicate (n - length rounds) sound_answer) ≡ replicate n sound_answer
soundly_all rounds n few =
    let more : List RoundAnswer = replicate (n - length rounds) sound_answer in
    let both = length-append (map answer_of rounds) more in
    let one = length-map rounds answer_of in
    let two : length more ≡ n - length rounds = length-replicate (n - length rounds) sound_answer in
    let many : length (map answer_of rounds ++ more) ≡ n = omega (arith, both, one, two, few) in
    soundly_is (map answer_of rounds ++ more) ∙ ap (λ k. replicate k sound_answer) many

sounded_end : (way : Way)
    → (course_end (along sounded way) ≡ course_end way)
    × ((course_at (along sounded way)).text ≡ (course_at way).text)
    × (way_rounds (along sounded way) ≡ way_rounds way)
sounded_end (GoesOn at) = (refl, refl, refl)
sounded_end (Stops why at) = (refl, refl, refl)

pub unfailing_played : (script : ScriptTree) (known : Known) (rounds : List Round) (grants : Option ℕ) (end : ScriptEnd) (text : List ℕ) (n : ℕ)
    → IsPlayed script known rounds grants end text → AllSaved rounds → NoneFailed rounds → length rounds ≤ n
    → PlaysTo script known (replicate n sound_answer) grants end text rounds
unfailing_played script known rounds grants end text n played saved unfailed few =
    let answers = map answer_of rounds ++ replicate (n - length rounds) sound_answer in
    let way = script_played script known answers grants in
    let to = played (replicate (n - length rounds) sound_answer) in
    let good : IsUnfailing (way_rounds way) = subst IsUnfailing (sym to.rounds_are) (saved, unfailed) in
    let same : script_played script known (replicate n sound_answer) grants ≡ along sounded way =
    ap (λ l. script_played script known l grants) (sym (soundly_all rounds n few)) ∙ (steps_so script).sound (unplayed known answers grants) good in
    let ended = sounded_end way in
    record {
      end_is = ap (λ (w : Way). course_end w) same ∙ ended.0 ∙ to.end_is;
      text_is = ap (λ (w : Way). (course_at w).text) same ∙ ended.1 ∙ to.text_is;
      rounds_are = ap (λ (w : Way). way_rounds w) same ∙ ended.2 ∙ to.rounds_are;
    }

-- ---- where nothing is started

started_some : (rounds : List Round) → started_last rounds ≡ true → target_started rounds ≡ None → ⊥
started_some rounds = by (last_round rounds)
  where
    by : (last : Option Round) → option_map_or (λ (r : Round). is_started r.outcome) last false ≡ true
        → option_and_then (λ (r : Round). cond (is_started r.outcome) (Some r.target) None) last ≡ None → ⊥
    by None started none = false≢true started
    by (Some round) started none = none-some round.target (sym none ∙ ap (λ t. cond t (Some round.target) None) started)

pub unstarted_unfailed : (script : ScriptTree) (known : Known) (rounds : List Round) (grants : Option ℕ) (end : ScriptEnd) (text : List ℕ) (n : ℕ)
    → IsPlayed script known rounds grants end text → AllSaved rounds → length rounds ≤ n
    → target_started (script_rounds script known (replicate n sound_answer) grants) ≡ None → NoneFailed rounds
unstarted_unfailed script known rounds grants end text n played saved few unstarted =
    let answers = map answer_of rounds ++ replicate (n - length rounds) sound_answer in
    let way = script_played script known answers grants in
    let to = played (replicate (n - length rounds) sound_answer) in
    let sound = script_played script known (soundly answers) grants in
    let same : sound ≡ script_played script known (replicate n sound_answer) grants =
    ap (λ l. script_played script known l grants) (soundly_all rounds n few) in
    elim ((steps_so script).calm (unplayed known answers grants) (subst AllSaved (sym to.rounds_are) saved) tt) [
      | inl none ↦ subst NoneFailed to.rounds_are none
      | inr started ↦
          absurd (started_some (way_rounds sound) (ap (λ (w : Way). started_last (way_rounds w)) started.is ∙ started.started)
          (ap (λ (w : Way). target_started (way_rounds w)) same ∙ unstarted))
    ]
