-- The session of a script, by the end, the text and the rounds of its play.
use Rattle.std.proofs.Common.{◌≡◌, ℕ, List, [], append-nil, map, sym, subst, ◌∙◌}
use Rattle.bb_interpreter.specs.Standing.{Course}
use Rattle.bb_interpreter.specs.declared.run.ScriptEnd.{ScriptEnd}
use Rattle.bb_script.specs.Tree.{ScriptTree}
use Rattle.bb_shell.specs.Boot.{Round}
use Rattle.bb_shell.specs.Rounds.{RoundAnswer, answer_of}
use Rattle.bb_shell.specs.Sequence.{refused_in}
use Rattle.bb_script_commands.specs.Held.{Known}
use Rattle.bb_script_commands.specs.Playing.{Played, PlaysTo, course_at, course_end}
use Rattle.bb_session.specs.Acting.{WorkAnswers, play_of}
use Rattle.bb_session.specs.Scripting.{refusal_by_end, text_by_end}
use Rattle.bb_session.specs.Session.{Session, played_session}
use Rattle.bb_session.specs.Work.{IsPlay}

abbrev pub ended_play : ScriptEnd → List ℕ → List Round → Session
ended_play end text rounds = record {
  text = text_by_end end text;
  refusal = refusal_by_end end (refused_in rounds);
  rounds = rounds;
}

play_is : (play : Course Played (Unit {0})) (end : ScriptEnd) (text : List ℕ) (rounds : List Round) → course_end play ≡ end →
    (course_at play).text ≡ text → (course_at play).outside.rounds ≡ rounds → played_session play ≡ ended_play end text rounds
play_is play end text rounds ending said ran = λ i. ended_play (ending i) (said i) (ran i)

-- of whatever answers play so
pub plays_session : (script : ScriptTree) (known : Known) (answers : WorkAnswers) (end : ScriptEnd) (text : List ℕ) (rounds : List Round) →
    PlaysTo script known answers.rounds answers.grants end text rounds → played_session (play_of script known answers) ≡ ended_play end text rounds
plays_session script known answers end text rounds to =
    play_is (play_of script known answers) end text rounds to.end_is to.text_is to.rounds_are

-- by what was answered to its rounds
pub plays_to : (script : ScriptTree) (known : Known) (answers : WorkAnswers) (rounds : List Round) → answers.rounds ≡ map answer_of rounds →
    (play : IsPlay script known answers.grants rounds) → PlaysTo script known answers.rounds answers.grants play.end play.text rounds
plays_to script known answers rounds is play =
    subst (λ (l : List RoundAnswer). PlaysTo script known l answers.grants play.end play.text rounds) (append-nil (map answer_of rounds) ∙ sym is)
    (play.played [])
