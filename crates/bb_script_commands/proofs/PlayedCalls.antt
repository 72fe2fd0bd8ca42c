-- A command by what its rounds were answered: what it did.
use Rattle.std.proofs.Common.{◌≡◌, ℕ, Bool, true, false, List, [], ◌∷◌, ◌++◌, map, Option, Some, None, ap, cond, refl, sym, subst, ◌∙◌}
use Rattle.std.proofs.lemmas.Bool.{false≢true}
use Rattle.std.specs.Option.{option_map_or}
use Rattle.std.specs.Prelude.{MatchBool}
use Rattle.bb_chooser.specs.Binding.{Binding}
use Rattle.bb_chooser.specs.Counting.{chosen_target, mark_good_of}
use Rattle.bb_copies.specs.declared.answers.CopyFault.{CopyFault}
use Rattle.bb_flash.specs.declared.plan.Plan.{Plan}
use Rattle.bb_interpreter.specs.Means.{replied}
use Rattle.bb_interpreter.specs.Standing.{GoesOn, Standing, Stops, followed, granted_by, with_status}
use Rattle.bb_interpreter.specs.declared.commands.Reply.{Reply}
use Rattle.bb_interpreter.specs.declared.commands.Reply.TheVariants as reply
use Rattle.bb_interpreter.specs.declared.stop.ScriptStop.TheVariants as stop
use Rattle.bb_shell.proofs.Answering.{best_is, best_none, rounds_are}
use Rattle.bb_shell.specs.Boot.{AreRounds, Round, boot_end, is_retried}
use Rattle.bb_shell.specs.Rounds.{RoundAnswer, answer_of, best_of, followed_by, round_by, rounds_by}
use Rattle.bb_shell.specs.Running.{refusal_of}
use Rattle.bb_shell.specs.Sequence.{saved_outcome}
use Rattle.bb_shell.specs.declared.boot_end.BootEnd.{BootEnd}
use Rattle.bb_shell.specs.declared.boot_end.BootEnd.TheVariants as ends
use Rattle.bb_script_commands.specs.Calling.{Called, Does, IsSaving, MarksGood, booting, saving, table_to_boot}
use Rattle.bb_script_commands.specs.Held.{Known}
use Rattle.bb_script_commands.specs.Playing.{Played, called_by, mark_by, save_by}
use Rattle.bb_script_commands.specs.Sending.{boot_reply, boot_sends}
use Rattle.bb_script_commands.specs.declared.words.OutsideCommand.{OutsideCommand}
use Rattle.bb_script_commands.specs.declared.words.OutsideCommand.TheVariants.{Save, MarkGood, Show, Boot, Misused}

-- ---- the rounds of a boot, with more answers than they took

-- the first round of some
first_is : (t : Bool) (one two : Round) (rest later : List Round) → cond t (one ∷ rest) (one ∷ []) ≡ two ∷ later → one ≡ two
first_is true one two rest later p = cc
first_is false one two rest later p = cc

-- what comes after a best target is found
found : (b : Binding) (plans : List (Option Plan)) (table : List ℕ) (target : ℕ) (answer : RoundAnswer) (answers : List RoundAnswer) → best_of b table ≡ Some target
    → rounds_by b plans table (answer ∷ answers)
    ≡ followed_by b (round_by b plans table answer target) (rounds_by b plans (round_by b plans table answer target).table answers)
unfolding rounds_by
found b plans table target answer answers is =
    ap (λ o. option_map_or
    (λ (t : ℕ). followed_by b (round_by b plans table answer t) (rounds_by b plans (round_by b plans table answer t).table answers)) o []) is

round_same : (b : Binding) (plans : List (Option Plan)) (table : List ℕ) (round : Round) (later : List Round) → AreRounds b plans table (round ∷ later)
    → best_of b table ≡ Some round.target → round_by b plans table (answer_of round) round.target ≡ round
round_same b plans table round later are best =
    let first = round_by b plans table (answer_of round) round.target in
    first_is (is_retried b first.outcome) first round (rounds_by b plans first.table (map answer_of later)) later
    (sym (found b plans table round.target (answer_of round) (map answer_of later) best) ∙ rounds_are b plans table (round ∷ later) are)

pub rounds_with : (b : Binding) (plans : List (Option Plan)) (table : List ℕ) (rounds : List Round) (more : List RoundAnswer) → AreRounds b plans table rounds
    → rounds_by b plans table (map answer_of rounds ++ more) ≡ rounds
unfolding AreRounds rounds_by
rounds_with b plans table [] [] are = refl
rounds_with b plans table [] (answer ∷ more) are =
    ap (λ o. option_map_or
    (λ (t : ℕ). followed_by b (round_by b plans table answer t) (rounds_by b plans (round_by b plans table answer t).table more)) o [])
    (best_none b table are)
rounds_with b plans table (round ∷ later) more are =
    let best = best_is b table round.target are.0.best in
    found b plans table round.target (answer_of round) (map answer_of later ++ more) best
    ∙ ap (λ (r : Round). followed_by b r (rounds_by b plans r.table (map answer_of later ++ more))) (round_same b plans table round later are best)
    ∙ follow (λ h. rounds_with b plans round.table later more h) (is_retried b round.outcome) refl are.1
  where
    follow : (AreRounds b plans round.table later → rounds_by b plans round.table (map answer_of later ++ more) ≡ later) → (t : Bool) → is_retried b round.outcome ≡ t
        → MatchBool (is_retried b round.outcome) (AreRounds b plans round.table later) (later ≡ [])
        → followed_by b round (rounds_by b plans round.table (map answer_of later ++ more)) ≡ round ∷ later
    follow again true e h =
        let rest = again (subst (λ s. MatchBool s (AreRounds b plans round.table later) (later ≡ [])) e h) in
        ap (λ s. cond s (round ∷ rounds_by b plans round.table (map answer_of later ++ more)) (round ∷ [])) e ∙ ap (λ l. round ∷ l) rest
    follow again false e h =
        let none : later ≡ [] = subst (λ s. MatchBool s (AreRounds b plans round.table later) (later ≡ [])) e h in
        ap (λ s. cond s (round ∷ rounds_by b plans round.table (map answer_of later ++ more)) (round ∷ [])) e ∙ ap (λ l. round ∷ l) (sym none)

-- ---- each command

saved_refusal : (refusal : Option CopyFault) → refusal_of (saved_outcome refusal) ≡ refusal
saved_refusal None = refl
saved_refusal (Some fault) = refl

by_called : (one two : Called) (known : Known) (command : OutsideCommand) (more : List RoundAnswer) → two ≡ one
    → called_by command known (map answer_of one.rounds ++ more) ≡ one → called_by command known (map answer_of two.rounds ++ more) ≡ two
by_called one two known command more is h =
    subst (λ c. called_by command known (map answer_of c.rounds ++ more) ≡ c) (sym is) h

save_is : (known : Known) (table : List ℕ) (called : Called) (more : List RoundAnswer) → IsSaving known table called
    → save_by known table (map answer_of called.rounds ++ more) ≡ called
save_is known table called more saves =
    subst (λ c. save_by known table (map answer_of c.rounds ++ more) ≡ c) (sym saves.is)
    (ap (saving known table) (saved_refusal saves.refusal))

mark_is : (known : Known) (chosen : Option ℕ) (called : Called) (more : List RoundAnswer) → MarksGood known called chosen
    → mark_by known chosen (map answer_of called.rounds ++ more) ≡ called
mark_is known None called more marks = sym marks
mark_is known (Some target) called more marks = save_is known (mark_good_of known.by.chooser known.table) called more marks

pub called_is : (command : OutsideCommand) (known : Known) (called : Called) (more : List RoundAnswer) → Does command known called
    → called_by command known (map answer_of called.rounds ++ more) ≡ called
called_is Save known called more does = save_is known known.table called more does
called_is MarkGood known called more does = mark_is known (chosen_target known.by.chooser known.table) called more does
called_is Show known called more does = sym does
called_is Boot known called more does =
    by_called (booting known does.rounds) called known Boot more does.is
    (ap (booting known) (rounds_with known.by.chooser known.by.plans (table_to_boot known) does.rounds more does.are))
called_is Misused known called more does = sym does

-- ---- one that had no memory for its text

abbrev IsStarved : Reply → Type 0
IsStarved answer = (at : Standing Played (Unit {0})) → at.grants ≡ Some 0 → replied answer at ≡ Stops stop.NoMemory at

done_starved : (status : ℕ) (text : List ℕ) → IsStarved (reply.Done status text)
done_starved status text at none =
    ap (λ g. followed (followed (granted_by g at) (λ at'. GoesOn (record at' { text = at'.text ++ text }))) (with_status status)) none

started_starved : (text : List ℕ) → IsStarved (reply.Started text)
started_starved text at none =
    ap (λ g. followed (followed (granted_by g at) (λ at'. GoesOn (record at' { text = at'.text ++ text }))) (λ at'. Stops stop.Started at')) none

boot_starved : (b : Binding) (end : BootEnd) → boot_sends end ≡ true → IsStarved (boot_reply b end)
boot_starved b (ends.Started target left tries) takes = started_starved _
boot_starved b ends.NoTarget takes = absurd (false≢true takes)
boot_starved b (ends.StartFailed target tries) takes = done_starved 1 _
boot_starved b (ends.Fault fault) takes = absurd (false≢true takes)

saving_takes : (known : Known) (table : List ℕ) (called : Called) → IsSaving known table called → called.takes_memory ≡ true → ⊥
saving_takes known table called saves takes = false≢true (ap (λ c. c.takes_memory) (sym saves.is) ∙ takes)

marking_takes : (known : Known) (chosen : Option ℕ) (called : Called) → MarksGood known called chosen → called.takes_memory ≡ true → ⊥
marking_takes known None called is takes = false≢true (ap (λ c. c.takes_memory) (sym is) ∙ takes)
marking_takes known (Some target) called is takes = saving_takes known (mark_good_of known.by.chooser known.table) called is takes

pub called_starved : (command : OutsideCommand) (known : Known) (called : Called) → Does command known called → called.takes_memory ≡ true
    → IsStarved called.reply
called_starved Save known called does takes = absurd (saving_takes known known.table called does takes)
called_starved MarkGood known called does takes = absurd (marking_takes known (chosen_target known.by.chooser known.table) called does takes)
called_starved Show known called does takes = subst (λ c. IsStarved c.reply) (sym does) (done_starved 0 _)
called_starved Boot known called does takes =
    subst (λ c. IsStarved c.reply) (sym does.is)
    (boot_starved known.by.chooser (boot_end known.by.chooser does.rounds) (ap (λ c. c.takes_memory) (sym does.is) ∙ takes))
called_starved Misused known called does takes = absurd (false≢true (ap (λ c. c.takes_memory) (sym does) ∙ takes))
