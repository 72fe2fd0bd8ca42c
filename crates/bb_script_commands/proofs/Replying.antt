-- What a reply says of the rounds of its command.
use Rattle.std.proofs.Common.{◌≡◌, ℕ, Bool, true, false, List, [], length, Option, Some, None, ap, inl, inr, refl, sym, subst}
use Rattle.std.proofs.lemmas.Bool.{false≢true}
use Rattle.std.specs.Option.{option_map_or}
use Rattle.std.specs.Prelude.{is_some, option_and_then}
use Rattle.bb_chooser.specs.Binding.{Binding}
use Rattle.bb_chooser.specs.Counting.{chosen_target, mark_good_of}
use Rattle.bb_copies.specs.declared.answers.CopyFault.{CopyFault}
use Rattle.bb_flash.specs.Device.{Device}
use Rattle.bb_interpreter.specs.declared.commands.Reply.{Reply}
use Rattle.bb_interpreter.specs.declared.commands.Reply.TheVariants as reply
use Rattle.bb_interpreter.specs.Outside.{is_done_reply}
use Rattle.bb_shell.specs.Boot.{Round, boot_end, end_by, has_failed, last_round}
use Rattle.bb_shell.specs.Rounds.{is_started}
use Rattle.bb_shell.proofs.Joined.{goes_unrefused}
use Rattle.bb_shell.specs.Running.{refusal_of}
use Rattle.bb_shell.specs.Sequence.{goes_on, refused_in, started_last}
use Rattle.bb_shell.specs.declared.boot_end.BootEnd.TheVariants as ends
use Rattle.bb_shell.specs.declared.outcome.Outcome.{Outcome}
use Rattle.bb_shell.specs.declared.outcome.Outcome.TheVariants.{Refused, Unplanned, Failed, Started}
use Rattle.bb_script_commands.specs.Calling.{Called, Does, HasCalledOne, IsSaving, MarksGood, answering, booting, saving}
use Rattle.bb_script_commands.specs.Held.{CanCall, Held, Known, known_of}
use Rattle.bb_script_commands.specs.Sending.{boot_reply, boot_sends, counts_lines}
use Rattle.bb_script_commands.specs.declared.words.OutsideCommand.{OutsideCommand}
use Rattle.bb_script_commands.specs.declared.words.OutsideCommand.TheVariants.{Save, MarkGood, Show, Boot, Misused}

-- what rounds are after a reply, or where memory was refused for its text
abbrev pub Fits : Reply → List Round → Type 0
Fits (reply.Done status text) rounds = goes_on rounds ≡ true
Fits (reply.Started text) rounds = started_last rounds ≡ true
Fits reply.Fault rounds = is_some (refused_in rounds) ≡ true
Fits reply.NoMemory rounds = refused_in rounds ≡ None

abbrev Suits : Called → Type 0
Suits called = Fits called.reply called.rounds × (called.takes_memory ≡ true → refused_in called.rounds ≡ None)

suits_by : (one two : Called) → two ≡ one → Suits one → Suits two
suits_by one two is h = subst Suits (sym is) h

-- ---- an answer, and a save

answering_suits : (known : Known) (takes : Bool) (status : ℕ) (text : List ℕ) → Suits (answering known takes status text)
answering_suits known takes status text = (refl, λ _. refl)

saving_suits : (known : Known) (table : List ℕ) (refusal : Option CopyFault) → Suits (saving known table refusal)
saving_suits known table None = (refl, λ takes. absurd (false≢true takes))
saving_suits known table (Some fault) = (refl, λ takes. absurd (false≢true takes))

is_saving_suits : (known : Known) (table : List ℕ) (called : Called) → IsSaving known table called → Suits called
is_saving_suits known table called saves = suits_by (saving known table saves.refusal) called saves.is (saving_suits known table saves.refusal)

marking_suits : (known : Known) (chosen : Option ℕ) (called : Called)
    → MarksGood known called chosen → Suits called
marking_suits known None called is = suits_by (answering known false 1 []) called is (answering_suits known false 1 [])
marking_suits known (Some target) called is = is_saving_suits known (mark_good_of known.by.chooser known.table) called is

-- ---- a boot

-- what is said of rounds is said of the last alone
abbrev FitsLast : Reply → Option Round → Type 0
FitsLast (reply.Done status text) last = option_map_or (λ (r : Round). has_failed r.outcome) last true ≡ true
FitsLast (reply.Started text) last = option_map_or (λ (r : Round). is_started r.outcome) last false ≡ true
FitsLast reply.Fault last = is_some (option_and_then (λ (r : Round). refusal_of r.outcome) last) ≡ true
FitsLast reply.NoMemory last = option_and_then (λ (r : Round). refusal_of r.outcome) last ≡ None

fits_so : (answer : Reply) (rounds : List Round) → FitsLast answer (last_round rounds) → Fits answer rounds
fits_so (reply.Done status text) rounds h = h
fits_so (reply.Started text) rounds h = h
fits_so reply.Fault rounds h = h
fits_so reply.NoMemory rounds h = h

last_fits : (b : Binding) (tries : ℕ) (round : Round) (outcome : Outcome) → outcome ≡ round.outcome
    → FitsLast (boot_reply b (end_by b tries round outcome)) (Some round)
last_fits b tries round (Refused fault) is = sym (ap (λ o. is_some (refusal_of o)) is)
last_fits b tries round Unplanned is = sym (ap has_failed is)
last_fits b tries round Failed is = sym (ap has_failed is)
last_fits b tries round Started is = sym (ap is_started is)

last_keeps : (b : Binding) (tries : ℕ) (round : Round) (outcome : Outcome) → outcome ≡ round.outcome
    → boot_sends (end_by b tries round outcome) ≡ true → refusal_of round.outcome ≡ None
last_keeps b tries round (Refused fault) is takes = absurd (false≢true takes)
last_keeps b tries round Unplanned is takes = sym (ap refusal_of is)
last_keeps b tries round Failed is takes = sym (ap refusal_of is)
last_keeps b tries round Started is takes = sym (ap refusal_of is)

booting_suits : (known : Known) (rounds : List Round) → Suits (booting known rounds)
booting_suits known rounds =
    let b = known.by.chooser in
    (fits_so (boot_reply b (boot_end b rounds)) rounds (fits (last_round rounds)), takes (last_round rounds))
  where
    fits : (last : Option Round)
        → FitsLast (boot_reply known.by.chooser (option_map_or (λ (r : Round). end_by known.by.chooser (length rounds) r r.outcome) last ends.NoTarget)) last
    fits None = refl
    fits (Some round) = last_fits known.by.chooser (length rounds) round round.outcome refl

    takes : (last : Option Round)
        → boot_sends (option_map_or (λ (r : Round). end_by known.by.chooser (length rounds) r r.outcome) last ends.NoTarget) ≡ true
        → option_and_then (λ (r : Round). refusal_of r.outcome) last ≡ None
    takes None h = refl
    takes (Some round) h = last_keeps known.by.chooser (length rounds) round round.outcome refl h

-- ---- each command

does_suits : (command : OutsideCommand) (known : Known) (called : Called) → Does command known called → Suits called
does_suits Save known called does = is_saving_suits known known.table called does
does_suits MarkGood known called does = marking_suits known (chosen_target known.by.chooser known.table) called does
does_suits Show known called does =
    let text = counts_lines known.by.chooser known.table in
    suits_by (answering known true 0 text) called does (answering_suits known true 0 text)
does_suits Boot known called does = suits_by (booting known does.rounds) called does.is (booting_suits known does.rounds)
does_suits Misused known called does = suits_by _ called does (answering_suits known false 2 [])

-- what a command replied fits its rounds
pub reply_fits : (command : OutsideCommand) (before after : Held) (from to : Device) (answer : Reply)
    (has : HasCalledOne command before from answer after to) → Fits answer has.called.rounds
reply_fits command before after from to answer has =
    let suits = does_suits command (known_of before) has.called has.does in
    elim has.replies [
      | inl is ↦ subst (λ r. Fits r has.called.rounds) (sym is) suits.0
      | inr refused ↦ subst (λ r. Fits r has.called.rounds) (sym refused.0) (suits.1 refused.1)
    ]

-- where the script goes on its rounds do, and commands may be called again
done_goes : (answer : Reply) (rounds : List Round) → Fits answer rounds → is_done_reply answer ≡ true → goes_on rounds ≡ true
done_goes (reply.Done status text) rounds h done = h
done_goes (reply.Started text) rounds h done = absurd (false≢true done)
done_goes reply.Fault rounds h done = absurd (false≢true done)
done_goes reply.NoMemory rounds h done = absurd (false≢true done)

pub called_goes : (command : OutsideCommand) (before after : Held) (from to : Device) (answer : Reply)
    (has : HasCalledOne command before from answer after to) → is_done_reply answer ≡ true → goes_on has.called.rounds ≡ true
called_goes command before after from to answer has done =
    done_goes answer has.called.rounds (reply_fits command before after from to answer has) done

pub ready_after : (command : OutsideCommand) (before after : Held) (from to : Device) (answer : Reply)
    → HasCalledOne command before from answer after to → is_done_reply answer ≡ true → CanCall after to
ready_after command before after from to answer has done =
    has.ran.ready (goes_unrefused has.called.rounds (called_goes command before after from to answer has done))
