-- A command by answers without a fault: where nothing failed in its rounds, it does the same by
-- them; and where a start failed, it makes one by them.
use Rattle.std.proofs.Common.{◌≡◌, ◌⊎◌, ℕ, ◌&&◌, Bool, true, false, List, [], ◌∷◌, ◌++◌, length, map, Option, Some, None, ap, cond, inl, inr, refl, sym, subst, ◌∙◌}
use Rattle.std.proofs.lemmas.Bool.{false≢true}
use Rattle.std.specs.Option.{option_map_or}
use Rattle.bb_chooser.specs.Binding.{Binding}
use Rattle.bb_chooser.specs.Counting.{chosen_target, mark_good_of}
use Rattle.bb_copies.specs.declared.answers.CopyFault.{CopyFault}
use Rattle.bb_flash.specs.declared.plan.Plan.{Plan}
use Rattle.bb_interpreter.specs.declared.commands.Reply.TheVariants as reply
use Rattle.bb_shell.proofs.Ends.{and_none}
use Rattle.bb_shell.proofs.Made.{AllSaved}
use Rattle.bb_shell.proofs.Sound.{NoneFailed}
use Rattle.bb_shell.specs.Boot.{Round, boot_end, end_by, is_retried, last_round, plan_at}
use Rattle.bb_shell.specs.Ends.{is_failed_start}
use Rattle.bb_shell.specs.Rounds.{RoundAnswer, best_of, followed_by, is_started, outcome_by, round_by, rounds_by, sound_answer}
use Rattle.bb_shell.specs.Running.{is_refused_save}
use Rattle.bb_shell.specs.Sequence.{save_round, started_last}
use Rattle.bb_shell.specs.declared.boot_end.BootEnd.TheVariants as ends
use Rattle.bb_shell.specs.declared.outcome.Outcome.{Outcome}
use Rattle.bb_shell.specs.declared.outcome.Outcome.TheVariants.{Refused, Unplanned, Failed, Started}
use Rattle.bb_script_commands.proofs.FewRounds.{saved_both}
use Rattle.bb_script_commands.proofs.Joining.{started_joined}
use Rattle.bb_script_commands.specs.Calling.{Called, booting, saving, table_to_boot}
use Rattle.bb_script_commands.specs.Held.{Known}
use Rattle.bb_script_commands.specs.Playing.{called_by, mark_by, save_by}
use Rattle.bb_script_commands.specs.Sending.{boot_reply}
use Rattle.bb_script_commands.specs.declared.words.OutsideCommand.{OutsideCommand}
use Rattle.bb_script_commands.specs.declared.words.OutsideCommand.TheVariants.{Save, MarkGood, Show, Boot, Misused}

-- answers without a fault, as many
abbrev pub soundly : List RoundAnswer → List RoundAnswer
soundly answers = map (λ answer. sound_answer) answers

-- ---- rounds in which nothing failed

abbrev pub IsUnfailing : List Round → Type 0
IsUnfailing rounds = AllSaved rounds × NoneFailed rounds

failed_both : (one two : List Round) → NoneFailed (one ++ two) → NoneFailed one × NoneFailed two
failed_both [] two none = (tt, none)
failed_both (round ∷ one) two none =
    let rest = failed_both one two none.1 in
    ((none.0, rest.0), rest.1)

pub failed_joined : (one two : List Round) → NoneFailed one → NoneFailed two → NoneFailed (one ++ two)
failed_joined [] two first second = second
failed_joined (round ∷ one) two first second = (first.0, failed_joined one two first.1 second)

pub unfailing_both : (one two : List Round) → IsUnfailing (one ++ two) → IsUnfailing one × IsUnfailing two
unfailing_both one two good =
    let saved = saved_both one two good.0 in
    let none = failed_both one two good.1 in
    ((saved.0, none.0), (saved.1, none.1))

-- ---- the rounds of a boot

sound_outcome : (plan : Option Plan) (starts : Bool) (save : Option CopyFault) → is_refused_save (outcome_by plan starts save) ≡ false
    → is_failed_start (outcome_by plan starts save) ≡ false → outcome_by plan true None ≡ outcome_by plan starts save
sound_outcome plan starts (Some fault) saved made = absurd (false≢true (sym saved))
sound_outcome None starts None saved made = refl
sound_outcome (Some plan) true None saved made = refl
sound_outcome (Some plan) false None saved made = absurd (false≢true (sym made))

round_sound : (b : Binding) (plans : List (Option Plan)) (table : List ℕ) (answer : RoundAnswer) (target : ℕ)
    → (is_refused_save (round_by b plans table answer target).outcome ≡ false) × (is_failed_start (round_by b plans table answer target).outcome ≡ false)
    → round_by b plans table sound_answer target ≡ round_by b plans table answer target
round_sound b plans table answer target good =
    λ i. record {
      target = target;
      table = (round_by b plans table answer target).table;
      outcome = sound_outcome (plan_at plans target) answer.starts answer.save good.0 good.1 i;
    }

first_good : (round : Round) (rest : List Round) (retried : Bool) → IsUnfailing (cond retried (round ∷ rest) (round ∷ []))
    → (is_refused_save round.outcome ≡ false) × (is_failed_start round.outcome ≡ false)
first_good round rest true good = (good.0.0, good.1.0)
first_good round rest false good = (good.0.0, good.1.0)

-- the rounds that follow matter where another is tried
follow_same : (round : Round) (rest other : List Round) → (IsUnfailing rest → other ≡ rest) → (retried : Bool)
    → IsUnfailing (cond retried (round ∷ rest) (round ∷ [])) → cond retried (round ∷ other) (round ∷ []) ≡ cond retried (round ∷ rest) (round ∷ [])
follow_same round rest other again true good = ap (λ l. round ∷ l) (again (good.0.1, good.1.1))
follow_same round rest other again false good = refl

best_sound : (b : Binding) (plans : List (Option Plan)) (table : List ℕ) (answer : RoundAnswer) (answers : List RoundAnswer)
    → ((next : List ℕ) → IsUnfailing (rounds_by b plans next answers) → rounds_by b plans next (soundly answers) ≡ rounds_by b plans next answers)
    → (best : Option ℕ)
    → IsUnfailing (option_map_or (λ (t : ℕ). followed_by b (round_by b plans table answer t) (rounds_by b plans (round_by b plans table answer t).table answers)) best [])
    → option_map_or
    (λ (t : ℕ). followed_by b (round_by b plans table sound_answer t) (rounds_by b plans (round_by b plans table sound_answer t).table (soundly answers))) best []
    ≡ option_map_or (λ (t : ℕ). followed_by b (round_by b plans table answer t) (rounds_by b plans (round_by b plans table answer t).table answers)) best []
best_sound b plans table answer answers again None good = refl
best_sound b plans table answer answers again (Some target) good =
    let round = round_by b plans table answer target in
    let rest = rounds_by b plans round.table answers in
    ap (λ (r : Round). followed_by b r (rounds_by b plans r.table (soundly answers)))
    (round_sound b plans table answer target (first_good round rest (is_retried b round.outcome) good))
    ∙ follow_same round rest (rounds_by b plans round.table (soundly answers)) (again round.table) (is_retried b round.outcome) good

sound_rounds : (b : Binding) (plans : List (Option Plan)) (table : List ℕ) (answers : List RoundAnswer) → IsUnfailing (rounds_by b plans table answers)
    → rounds_by b plans table (soundly answers) ≡ rounds_by b plans table answers
unfolding rounds_by
sound_rounds b plans table [] good = refl
sound_rounds b plans table (answer ∷ answers) good =
    best_sound b plans table answer answers (λ next. sound_rounds b plans next answers) (best_of b table) good

-- ---- each command

sound_save : (known : Known) (table : List ℕ) (refusal : Option CopyFault) → IsUnfailing (save_round (length known.by.plans) table refusal ∷ [])
    → saving known table None ≡ saving known table refusal
sound_save known table None good = refl
sound_save known table (Some fault) good = absurd (false≢true (sym good.0.0))

save_sound : (known : Known) (table : List ℕ) (answers : List RoundAnswer) → IsUnfailing (save_by known table answers).rounds
    → save_by known table (soundly answers) ≡ save_by known table answers
save_sound known table [] good = refl
save_sound known table (answer ∷ later) good = sound_save known table answer.save good

mark_sound : (known : Known) (chosen : Option ℕ) (answers : List RoundAnswer) → IsUnfailing (mark_by known chosen answers).rounds
    → mark_by known chosen (soundly answers) ≡ mark_by known chosen answers
mark_sound known None answers good = refl
mark_sound known (Some target) answers good = save_sound known (mark_good_of known.by.chooser known.table) answers good

pub called_sound : (command : OutsideCommand) (known : Known) (answers : List RoundAnswer) → IsUnfailing (called_by command known answers).rounds
    → called_by command known (soundly answers) ≡ called_by command known answers
called_sound Save known answers good = save_sound known known.table answers good
called_sound MarkGood known answers good = mark_sound known (chosen_target known.by.chooser known.table) answers good
called_sound Show known answers good = refl
called_sound Boot known answers good = ap (booting known) (sound_rounds known.by.chooser known.by.plans (table_to_boot known) answers good)
called_sound Misused known answers good = refl

-- ---- where a start failed

-- a start ended the command
pub record IsStartingCall (called : Called) : Type 0 where
  pub text : List ℕ
  pub reply_is : called.reply ≡ reply.Started text
  pub last : started_last called.rounds ≡ true

record IsSameOutcome (one two : Outcome) : Type 0 where
  same : one ≡ two
  unfailed : is_failed_start two ≡ false

outcome_calm : (plan : Option Plan) (starts : Bool) (save : Option CopyFault) → is_refused_save (outcome_by plan starts save) ≡ false
    → IsSameOutcome (outcome_by plan true None) (outcome_by plan starts save) ⊎ (outcome_by plan true None ≡ Started)
outcome_calm plan starts (Some fault) saved = absurd (false≢true (sym saved))
outcome_calm None starts None saved = inl (record { same = refl; unfailed = refl })
outcome_calm (Some plan) true None saved = inl (record { same = refl; unfailed = refl })
outcome_calm (Some plan) false None saved = inr refl

-- no other round follows one that started
started_alone : (b : Binding) (round : Round) (rest : List Round) → round.outcome ≡ Started → started_last (followed_by b round rest) ≡ true
started_alone b round rest is =
    ap (λ t. started_last (cond t (round ∷ rest) (round ∷ []))) (ap (λ (o : Outcome). is_retried b o) is ∙ and_none b.rules.retry)
    ∙ ap (λ (o : Outcome). is_started o) is

abbrev IsCalm : List Round → List Round → Type 0
IsCalm rounds others = NoneFailed rounds ⊎ (started_last others ≡ true)

first_saved : (round : Round) (rest : List Round) (retried : Bool) → AllSaved (cond retried (round ∷ rest) (round ∷ [])) → is_refused_save round.outcome ≡ false
first_saved round rest true saved = saved.0
first_saved round rest false saved = saved.0

follow_calm : (round : Round) (rest other : List Round) → is_failed_start round.outcome ≡ false → (AllSaved rest → IsCalm rest other) → (retried : Bool)
    → AllSaved (cond retried (round ∷ rest) (round ∷ [])) → IsCalm (cond retried (round ∷ rest) (round ∷ [])) (cond retried (round ∷ other) (round ∷ []))
follow_calm round rest other unfailed again true saved =
    elim (again saved.1) [
      | inl none ↦ inl (unfailed, none)
      | inr started ↦ inr (started_joined (round ∷ []) other started)
    ]
follow_calm round rest other unfailed again false saved = inl (unfailed, tt)

best_calm : (b : Binding) (plans : List (Option Plan)) (table : List ℕ) (answer : RoundAnswer) (answers : List RoundAnswer)
    → ((next : List ℕ) → AllSaved (rounds_by b plans next answers) → IsCalm (rounds_by b plans next answers) (rounds_by b plans next (soundly answers)))
    → (best : Option ℕ)
    → AllSaved (option_map_or (λ (t : ℕ). followed_by b (round_by b plans table answer t) (rounds_by b plans (round_by b plans table answer t).table answers)) best [])
    → IsCalm
    (option_map_or (λ (t : ℕ). followed_by b (round_by b plans table answer t) (rounds_by b plans (round_by b plans table answer t).table answers)) best [])
    (option_map_or
    (λ (t : ℕ). followed_by b (round_by b plans table sound_answer t) (rounds_by b plans (round_by b plans table sound_answer t).table (soundly answers))) best [])
best_calm b plans table answer answers again None saved = inl tt
best_calm b plans table answer answers again (Some target) saved =
    let round = round_by b plans table answer target in
    let sound = round_by b plans table sound_answer target in
    let rest = rounds_by b plans round.table answers in
    let other = rounds_by b plans round.table (soundly answers) in
    elim (outcome_calm (plan_at plans target) answer.starts answer.save (first_saved round rest (is_retried b round.outcome) saved)) [
      | inl alike ↦
          let same : sound ≡ round = λ i. record { target = target; table = round.table; outcome = alike.same i } in
          subst (λ (r : Round). IsCalm (followed_by b round rest) (followed_by b r (rounds_by b plans r.table (soundly answers)))) (sym same)
          (follow_calm round rest other alike.unfailed (again round.table) (is_retried b round.outcome) saved)
      | inr started ↦ inr (started_alone b sound (rounds_by b plans sound.table (soundly answers)) started)
    ]

rounds_calm : (b : Binding) (plans : List (Option Plan)) (table : List ℕ) (answers : List RoundAnswer) → AllSaved (rounds_by b plans table answers)
    → IsCalm (rounds_by b plans table answers) (rounds_by b plans table (soundly answers))
unfolding rounds_by
rounds_calm b plans table [] saved = inl tt
rounds_calm b plans table (answer ∷ answers) saved =
    best_calm b plans table answer answers (λ next. rounds_calm b plans next answers) (best_of b table) saved

-- a boot of which the last round started
record HasStartLine (b : Binding) (tries : ℕ) (last : Option Round) : Type 0 where
  text : List ℕ
  is : boot_reply b (option_map_or (λ (r : Round). end_by b tries r r.outcome) last ends.NoTarget) ≡ reply.Started text

end_started : (b : Binding) (tries : ℕ) (round : Round) (outcome : Outcome) → is_started outcome ≡ true
    → (text : List ℕ) × (boot_reply b (end_by b tries round outcome) ≡ reply.Started text)
end_started b tries round (Refused fault) started = absurd (false≢true started)
end_started b tries round Unplanned started = absurd (false≢true started)
end_started b tries round Failed started = absurd (false≢true started)
end_started b tries round Started started = (_, refl)

last_started : (b : Binding) (tries : ℕ) (last : Option Round) → option_map_or (λ (r : Round). is_started r.outcome) last false ≡ true → HasStartLine b tries last
last_started b tries None started = absurd (false≢true started)
last_started b tries (Some round) started =
    let line = end_started b tries round round.outcome started in
    record { text = line.0; is = line.1 }

boot_starts : (known : Known) (rounds : List Round) → started_last rounds ≡ true → IsStartingCall (booting known rounds)
boot_starts known rounds started =
    let line = last_started known.by.chooser (length rounds) (last_round rounds) started in
    record { text = line.text; reply_is = line.is; last = started }

saved_unfailed : (known : Known) (table : List ℕ) (refusal : Option CopyFault) → NoneFailed (save_round (length known.by.plans) table refusal ∷ [])
saved_unfailed known table None = (refl, tt)
saved_unfailed known table (Some fault) = (refl, tt)

save_unfailed : (known : Known) (table : List ℕ) (answers : List RoundAnswer) → NoneFailed (save_by known table answers).rounds
save_unfailed known table [] = tt
save_unfailed known table (answer ∷ later) = saved_unfailed known table answer.save

mark_unfailed : (known : Known) (chosen : Option ℕ) (answers : List RoundAnswer) → NoneFailed (mark_by known chosen answers).rounds
mark_unfailed known None answers = tt
mark_unfailed known (Some target) answers = save_unfailed known (mark_good_of known.by.chooser known.table) answers

pub called_calm : (command : OutsideCommand) (known : Known) (answers : List RoundAnswer) → AllSaved (called_by command known answers).rounds
    → NoneFailed (called_by command known answers).rounds ⊎ IsStartingCall (called_by command known (soundly answers))
called_calm Save known answers saved = inl (save_unfailed known known.table answers)
called_calm MarkGood known answers saved = inl (mark_unfailed known (chosen_target known.by.chooser known.table) answers)
called_calm Show known answers saved = inl tt
called_calm Boot known answers saved =
    elim (rounds_calm known.by.chooser known.by.plans (table_to_boot known) answers saved) [
      | inl none ↦ inl none
      | inr started ↦
          inr (boot_starts known (rounds_by known.by.chooser known.by.plans (table_to_boot known) (soundly answers)) started)
    ]
called_calm Misused known answers saved = inl tt
