-- What a boot of a script leaves.
use Rattle.std.proofs.Common.{◌≡◌, ℕ, ◌<◌, ◌^◌, true, not, List, [], ◌∷◌, length, Option, Some, None, ap, arith, refl, sym, subst, ◌∙◌}
use Rattle.std.proofs.lemmas.Option.{none-some}
use Rattle.std.specs.Option.{option_map_or}
use Rattle.std.specs.Prelude.{is_none, option_and_then}
use Rattle.bb_chooser.specs.Binding.{Binding}
use Rattle.bb_copies.specs.declared.answers.CopyFault.{CopyFault}
use Rattle.bb_flash.specs.Device.{Device}
use Rattle.bb_state.specs.State.{IsOn, is_sure, keyed_of, last_table_of, used_of}
use Rattle.bb_state.specs.declared.state.State.{State}
use Rattle.bb_interpreter.specs.declared.commands.Reply.{Reply}
use Rattle.bb_shell.proofs.LastRounds.{kept_table, last_there}
use Rattle.bb_shell.proofs.Sequence.{ran_rounds, stops_there}
use Rattle.bb_shell.specs.Boot.{Round, boot_end, end_by, last_round}
use Rattle.bb_shell.specs.Ends.{IsBooted, is_fault_end}
use Rattle.bb_shell.specs.Running.{refusal_of}
use Rattle.bb_shell.specs.Sequence.{refused_in}
use Rattle.bb_shell.specs.declared.boot_end.BootEnd.{BootEnd}
use Rattle.bb_shell.specs.declared.boot_end.BootEnd.TheVariants as ends
use Rattle.bb_shell.specs.declared.outcome.Outcome.{Outcome}
use Rattle.bb_shell.specs.declared.outcome.Outcome.TheVariants.{Refused, Unplanned, Failed, Started}
use Rattle.bb_script_commands.specs.Calling.{HasCalledOne, booting, table_to_boot}
use Rattle.bb_script_commands.specs.Held.{CanCall, held_of, known_of}
use Rattle.bb_script_commands.specs.Sending.{FitsCount, Replies, boot_reply, boot_sends, ended_fault}
use Rattle.bb_script_commands.specs.declared.directions.Directions.{Directions}
use Rattle.bb_script_commands.specs.declared.words.OutsideCommand.TheVariants.{Boot}
use Rattle.bb_script_commands.specs.declared.so_far.SoFar.{SoFar}
use Rattle.bb_script_commands.proofs.Saving.{can_again}

-- ---- the end, by the last round

fault_by : (b : Binding) (tries : ℕ) (round : Round) (outcome : Outcome) → ended_fault (end_by b tries round outcome) ≡ refusal_of outcome
fault_by b tries round (Refused fault) = refl
fault_by b tries round Unplanned = refl
fault_by b tries round Failed = refl
fault_by b tries round Started = refl

-- the fault of the end is the refusal of the last round
pub end_fault : (b : Binding) (rounds : List Round) → ended_fault (boot_end b rounds) ≡ refused_in rounds
end_fault b rounds = at (last_round rounds)
  where
    at : (last : Option Round)
        → ended_fault (option_map_or (λ (r : Round). end_by b (length rounds) r r.outcome) last ends.NoTarget)
        ≡ option_and_then (λ (r : Round). refusal_of r.outcome) last
    at None = refl
    at (Some round) = fault_by b (length rounds) round round.outcome

-- an end is a fault, or has none
sure_by : (end : BootEnd) → not (is_fault_end end) ≡ is_none (ended_fault end)
sure_by (ends.Started target left tries) = refl
sure_by ends.NoTarget = refl
sure_by (ends.StartFailed target tries) = refl
sure_by (ends.Fault fault) = refl

-- ---- the number of rounds

few_last : (b : Binding) (tries : ℕ) (round : Round) (outcome : Outcome) → FitsCount (end_by b tries round outcome) → refusal_of outcome ≡ None → tries < 2 ^ 64
few_last b tries round (Refused fault) fits none = absurd (none-some fault (sym none))
few_last b tries round Unplanned fits none = fits
few_last b tries round Failed fits none = fits
few_last b tries round Started fits none = fits

few_by : (b : Binding) (rounds : List Round) → FitsCount (boot_end b rounds) → refused_in rounds ≡ None → length rounds < 2 ^ 64
few_by b [] fits none = omega arith
few_by b (round ∷ later) fits none =
    let last = last_there round later in
    few_last b (length (round ∷ later)) last.0 last.0.outcome
    (subst (λ o. FitsCount (option_map_or (λ (r : Round). end_by b (length (round ∷ later)) r r.outcome) o ends.NoTarget)) last.1 fits)
    (ap (option_and_then (λ (r : Round). refusal_of r.outcome)) (sym last.1) ∙ none)

-- ---- the whole of it

none_true : (o : Option CopyFault) → o ≡ None → is_none o ≡ true
none_true o e = ap (λ (p : Option CopyFault). is_none p) e

pub boot_called : (before after : State) (by : Directions) (so_far now : SoFar) (end : BootEnd) (answer : Reply) (from to : Device)
    → CanCall (held_of before by so_far) from
    → IsBooted by.chooser by.plans (table_to_boot (known_of (held_of before by so_far))) before after from to end
    → keyed_of after ≡ keyed_of before → is_sure after ≡ not (is_fault_end end) → IsOn after to
    → now.booted ≡ true → now.fault ≡ ended_fault end → FitsCount end → Replies (boot_reply by.chooser end) (boot_sends end) answer
    → HasCalledOne Boot (held_of before by so_far) from answer (held_of after by now) to
boot_called before after by so_far now end answer from to can booted keyed sure on was fault fits replies =
    let b = by.chooser in
    let rounds = booted.rounds in
    let refused : ended_fault end ≡ refused_in rounds = ap ended_fault booted.end_is ∙ end_fault b rounds in
    let is_sure_by : is_sure after ≡ is_none (refused_in rounds) = sure ∙ sure_by end ∙ ap (λ (o : Option CopyFault). is_none o) refused in
    record {
      called = booting (known_of (held_of before by so_far)) rounds;
      does = record { rounds = rounds; are = booted.are; is = refl; few = few_by b rounds (subst FitsCount booted.end_is fits) };
      replies = subst (λ e. Replies (boot_reply b e) (boot_sends e) answer) booted.end_is replies;
      table = booted.table;
      booted = was;
      ran = record {
        ran =
            ran_rounds (keyed_of before) by.plans rounds (Some (last_table_of before)) (used_of before) (used_of after) from to can.geometry
            (stops_there b by.plans (table_to_boot (known_of (held_of before by so_far))) rounds booted.are) booted.run;
        kept = λ none.
            ap (λ t. Some t) (booted.kept (is_sure_by ∙ none_true (refused_in rounds) none)) ∙ sym (kept_table (last_table_of before) rounds);
        fault = fault ∙ refused;
        sure = is_sure_by;
        keyed = keyed;
        by = refl;
        ready = λ none. can_again before after by so_far now from to can keyed (is_sure_by ∙ none_true (refused_in rounds) none) on (fault ∙ refused ∙ none);
      };
    }
