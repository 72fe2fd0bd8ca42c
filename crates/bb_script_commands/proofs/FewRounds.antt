-- How many rounds a script has at most, where no save was refused.
use Rattle.std.proofs.Common.{◌≡◌, ℕ, ◌*◌, ◌^◌, ◌≤◌, false, List, [], ◌∷◌, ◌++◌, length, Option, Some, None, ap, arith, is_some, refl, sym, subst, ◌∙◌}
use Rattle.std.proofs.lemmas.Bool.{false≢true}
use Rattle.std.proofs.lemmas.List.{length-append}
use Rattle.std.specs.List.{AllByRecursion, flat_map}
use Rattle.bb_chooser.specs.Counting.{chosen_target, mark_good_of}
use Rattle.bb_copies.specs.declared.answers.CopyFault.{CopyFault}
use Rattle.bb_flash.specs.Device.{Device}
use Rattle.bb_script.specs.Tree.{ScriptTree}
use Rattle.bb_shell.proofs.LastRounds.{refused_cons}
use Rattle.bb_shell.proofs.Made.{AllSaved, all_saved}
use Rattle.bb_shell.specs.Boot.{Round}
use Rattle.bb_shell.specs.Running.{refusal_of}
use Rattle.bb_shell.specs.Sequence.{StopsThere, refused_in}
use Rattle.bb_script_commands.specs.Calling.{Called, Does, IsSaving, MarksGood, booting}
use Rattle.bb_script_commands.specs.Held.{Held, Known, known_of}
use Rattle.bb_script_commands.specs.OutsideWords.{outside_command}
use Rattle.bb_script_commands.specs.Playing.{FewLaw, IsCallIn, PlayedCall, call_rounds, most_script_rounds}
use Rattle.bb_script_commands.specs.Scripts.{RanOver, called_rounds}
use Rattle.bb_script_commands.specs.declared.run_end.RunResult.{RunResult}
use Rattle.bb_script_commands.specs.declared.words.OutsideCommand.{OutsideCommand}
use Rattle.bb_script_commands.specs.declared.words.OutsideCommand.TheVariants.{Save, MarkGood, Show, Boot, Misused}

-- ---- rounds whose saves were made

pub saved_both : (one two : List Round) → AllSaved (one ++ two) → AllSaved one × AllSaved two
saved_both [] two saved = (tt, saved)
saved_both (round ∷ one) two saved =
    let rest = saved_both one two saved.1 in
    ((saved.0, rest.0), rest.1)

unrefused : (refusal : Option CopyFault) → is_some refusal ≡ false → refusal ≡ None
unrefused None h = refl
unrefused (Some fault) h = absurd (false≢true (sym h))

pub saved_none : (rounds : List Round) → AllSaved rounds → refused_in rounds ≡ None
saved_none [] saved = refl
saved_none (round ∷ []) saved = unrefused (refusal_of round.outcome) saved.0
saved_none (round ∷ next ∷ later) saved = refused_cons round next later ∙ saved_none (next ∷ later) saved.1

-- ---- the rounds of a call

abbrev IsFew : Called → Type 0
IsFew called = length called.rounds ≤ 2 ^ 64

saving_few : (known : Known) (table : List ℕ) (called : Called) → IsSaving known table called → IsFew called
saving_few known table called saves = subst IsFew (sym saves.is) (let one : 1 ≤ 2 ^ 64 = omega arith in one)

marking_few : (known : Known) (chosen : Option ℕ) (called : Called) → MarksGood known called chosen → IsFew called
marking_few known None called is = subst IsFew (sym is) (let none : 0 ≤ 2 ^ 64 = omega arith in none)
marking_few known (Some target) called saves = saving_few known (mark_good_of known.by.chooser known.table) called saves

does_few : (command : OutsideCommand) (known : Known) (called : Called) → Does command known called → AllSaved called.rounds → IsFew called
does_few Save known called does saved = saving_few known known.table called does
does_few MarkGood known called does saved = marking_few known (chosen_target known.by.chooser known.table) called does
does_few Show known called does saved = subst IsFew (sym does) (let none : 0 ≤ 2 ^ 64 = omega arith in none)
does_few Boot known called does saved =
    let few = does.few (saved_none does.rounds (subst (λ (c : Called). AllSaved c.rounds) does.is saved)) in
    subst IsFew (sym does.is) (let most : length does.rounds ≤ 2 ^ 64 = omega (arith, few) in most)
does_few Misused known called does saved = subst IsFew (sym does) (let none : 0 ≤ 2 ^ 64 = omega arith in none)

-- ---- all of them

calls_few : (begun : Known) (calls : List PlayedCall) → AllByRecursion (IsCallIn begun) calls → AllSaved (flat_map call_rounds calls)
    → length (flat_map call_rounds calls) ≤ length calls * 2 ^ 64
calls_few begun [] each saved = omega arith
calls_few begun (call ∷ calls) each saved =
    let both = saved_both (call_rounds call) (flat_map call_rounds calls) saved in
    let first = does_few (outside_command call.words) call.known call.called each.0.does both.0 in
    let rest = calls_few begun calls each.1 both.1 in
    omega (arith, first, rest, length-append (call_rounds call) (flat_map call_rounds calls))

pub few_law : FewLaw
unfolding most_script_rounds
few_law begun rounds are stops none =
    let saved = subst AllSaved are.rounds_are (all_saved rounds stops none) in
    let same : length rounds ≡ length (flat_map call_rounds are.calls) = ap (λ (l : List Round). length l) are.rounds_are in
    let most = calls_few begun are.calls are.each saved in
    let calls = are.few in
    let all : length rounds ≤ 10000 * 2 ^ 64 = omega (arith, same, most, calls) in
    all

-- the rounds of a script that was run
pub few_over : {D : Type 0} (device : D → Device) (script : ScriptTree) (before : Held) (from to : D) (result : RunResult) (over : RanOver device script before from to result)
    → refused_in (called_rounds device over.ran.acts over.ran.called) ≡ None
    → length (called_rounds device over.ran.acts over.ran.called) ≤ most_script_rounds
few_over device script before from to result over none =
    few_law (known_of before) (called_rounds device over.ran.acts over.ran.called) over.calls over.all.ran.ran.stops none
