-- What a save of a script, and a command that only answers, leave.
use Rattle.std.proofs.Common.{◌≡◌, ℕ, Bool, true, false, List, [], ◌∷◌, length, Option, Some, None, ap, inl, inr, refl, sym, subst, ◌∙◌}
use Rattle.std.proofs.lemmas.Bool.{false≢true}
use Rattle.std.specs.Option.{option_map_or}
use Rattle.std.specs.Prelude.{IsSome, is_none}
use Rattle.bb_copies.specs.declared.answers.CopyFault.{CopyFault}
use Rattle.bb_copies.specs.Buckets.{AllAgree}
use Rattle.bb_flash.specs.Device.{Device}
use Rattle.bb_state.specs.Keyed.{Keyed}
use Rattle.bb_state.specs.Backed.{Backed}
use Rattle.bb_state.specs.Kinds.{any_holding}
use Rattle.bb_state.specs.State.{IsOn, is_sure, keyed_of, last_table_of, used_of}
use Rattle.bb_state.specs.declared.state.State.{State}
use Rattle.bb_chooser.specs.Counting.{chosen_target, mark_good_of, with_default_attempts}
use Rattle.bb_interpreter.specs.declared.commands.Reply.{Reply}
use Rattle.bb_interpreter.specs.declared.commands.Reply.TheVariants as reply
use Rattle.bb_shell.proofs.Sequence.{none_run, none_stops, once_stops, ran_rounds, save_run}
use Rattle.bb_shell.specs.Boot.{Round}
use Rattle.bb_shell.specs.Ends.{IsBoundIn, IsReady}
use Rattle.bb_shell.specs.Running.{IsSaveRun}
use Rattle.bb_shell.specs.Sequence.{refused_in, save_round}
use Rattle.bb_script_commands.specs.Calling.{Called, Does, HasCalledOne, IsSaving, MarksGood, answering, saved_reply, saving}
use Rattle.bb_script_commands.specs.Held.{CanCall, Held, Known, held_of, known_of}
use Rattle.bb_script_commands.specs.Ran.{RanFor}
use Rattle.bb_script_commands.specs.declared.directions.Directions.{Directions}
use Rattle.bb_script_commands.specs.declared.words.OutsideCommand.{OutsideCommand}
use Rattle.bb_script_commands.specs.declared.words.OutsideCommand.TheVariants.{MarkGood, Save}
use Rattle.bb_script_commands.specs.declared.so_far.SoFar.{SoFar}

-- a state whose commands may be called can be booted
pub ready_of : (state : State) (by : Directions) (so_far : SoFar) (device : Device) → CanCall (held_of state by so_far) device
    → IsReady by.chooser state device
ready_of state by so_far device can = record {
  sure = can.sure;
  on = record { geometry = can.geometry; agrees = can.agrees; whole = can.whole };
  bound = can.bound;
}

-- and they may be called again, where no fault came
pub can_again : (before after : State) (by : Directions) (so_far now : SoFar) (from to : Device)
    → CanCall (held_of before by so_far) from → keyed_of after ≡ keyed_of before → is_sure after ≡ true → IsOn after to
    → now.fault ≡ None → CanCall (held_of after by now) to
can_again before after by so_far now from to can keyed sure on unfailed = record {
  sure = sure;
  geometry = on.geometry;
  agrees = on.agrees;
  whole = on.whole;
  bound = subst (λ (k : Keyed). IsBoundIn by.chooser k.layout) (sym keyed) can.bound;
  unfailed = unfailed;
}

-- ---- nothing was run

pub ran_none : (held : Held) (device : Device) → CanCall held device → RanFor held held device device []
ran_none held device can =
    let b = held.backed in
    record {
      ran =
          ran_rounds b.keyed held.by.plans [] (Some b.kept) b.used b.used device device can.geometry none_stops
          (none_run b.keyed held.by.plans (Some b.kept) b.used device);
      kept = λ none. refl;
      fault = can.unfailed;
      sure = can.sure;
      keyed = refl;
      by = refl;
      ready = λ none. can;
    }

-- a command that answers so
pub answered_so : (command : OutsideCommand) (held : Held) (device : Device) (answer : Reply) (takes : Bool) (status : ℕ) (text : List ℕ)
    → CanCall held device → Does command (known_of held) (answering (known_of held) takes status text) → answer ≡ reply.Done status text
    → HasCalledOne command held device answer held device
answered_so command held device answer takes status text can does is = record {
  called = answering (known_of held) takes status text;
  does = does;
  replies = inl is;
  table = refl;
  booted = refl;
  ran = ran_none held device can;
}

-- or has no memory to do so
pub unanswered : (command : OutsideCommand) (held : Held) (device : Device) (status : ℕ) (text : List ℕ)
    → CanCall held device → Does command (known_of held) (answering (known_of held) true status text)
    → HasCalledOne command held device reply.NoMemory held device
unanswered command held device status text can does = record {
  called = answering (known_of held) true status text;
  does = does;
  replies = inr (refl, refl);
  table = refl;
  booted = refl;
  ran = ran_none held device can;
}

-- ---- a save

save_refused : (none : ℕ) (table : List ℕ) (refusal : Option CopyFault) → refused_in (save_round none table refusal ∷ []) ≡ refusal
save_refused none table None = refl
save_refused none table (Some fault) = refl

-- its round is the only one
pub save_ran : (before after : State) (by : Directions) (so_far now : SoFar) (refusal : Option CopyFault) (table : List ℕ) (from to : Device)
    → CanCall (held_of before by so_far) from
    → IsSaveRun (keyed_of before) (Some (last_table_of before)) (used_of before) (used_of after) table refusal from to
    → (refusal ≡ None → last_table_of after ≡ table) → is_sure after ≡ is_none refusal → keyed_of after ≡ keyed_of before → IsOn after to
    → now.fault ≡ refusal
    → RanFor (held_of before by so_far) (held_of after by now) from to (save_round (length by.plans) table refusal ∷ [])
save_ran before after by so_far now refusal table from to can run kept sure keyed on fault =
    let round = save_round (length by.plans) table refusal in
    let last = Some (last_table_of before) in
    let same = save_refused (length by.plans) table refusal in
    record {
      ran =
          ran_rounds (keyed_of before) by.plans (round ∷ []) last (used_of before) (used_of after) from to can.geometry (once_stops round)
          (save_run (keyed_of before) by.plans (length by.plans) last (used_of before) (used_of after) table refusal from to run);
      kept = λ none. ap (λ t. Some t) (kept (sym same ∙ none));
      fault = fault ∙ sym same;
      sure = sure ∙ ap (λ (o : Option CopyFault). is_none o) (sym same);
      keyed = keyed;
      by = refl;
      ready = λ none.
          can_again before after by so_far now from to can keyed (sure ∙ ap (λ (o : Option CopyFault). is_none o) (sym same ∙ none)) on
          (fault ∙ sym same ∙ none);
    }

pub save_called : (before after : State) (by : Directions) (so_far now : SoFar) (refusal : Option CopyFault) (answer : Reply) (from to : Device)
    → CanCall (held_of before by so_far) from
    → IsSaveRun (keyed_of before) (Some (last_table_of before)) (used_of before) (used_of after) before.table refusal from to
    → (refusal ≡ None → last_table_of after ≡ before.table) → is_sure after ≡ is_none refusal → keyed_of after ≡ keyed_of before → IsOn after to
    → now.fault ≡ refusal → now.booted ≡ so_far.booted → after.table ≡ before.table → answer ≡ saved_reply refusal
    → HasCalledOne Save (held_of before by so_far) from answer (held_of after by now) to
save_called before after by so_far now refusal answer from to can run kept sure keyed on fault booted table is = record {
  called = saving (known_of (held_of before by so_far)) before.table refusal;
  does = record { refusal = refusal; is = refl };
  replies = inl is;
  table = table;
  booted = booted;
  ran = save_ran before after by so_far now refusal before.table from to can run kept sure keyed on fault;
}

-- ---- the target that was chosen last

-- a state of which the table alone changed
pub can_moved : (before middle : State) (by : Directions) (so_far : SoFar) (device : Device) → middle.backing ≡ before.backing
    → CanCall (held_of before by so_far) device → CanCall (held_of middle by so_far) device
can_moved before middle by so_far device backing can = record {
  sure = ap (λ (b : Backed). b.sure) backing ∙ can.sure;
  geometry = can.geometry ∙ ap (λ (b : Backed). b.keyed.layout.geometry) (sym backing);
  agrees = subst (λ (b : Backed). AllAgree any_holding device b.buckets) (sym backing) can.agrees;
  whole = can.whole;
  bound = subst (λ (b : Backed). IsBoundIn by.chooser b.keyed.layout) (sym backing) can.bound;
  unfailed = can.unfailed;
}

none_by : (o : Option ℕ) → (IsSome o → ⊥) → o ≡ None
none_by None h = refl
none_by (Some x) h = absurd (h refl)

marking_none : (known : Known) (chosen : Option ℕ) (called : Called) → chosen ≡ None → called ≡ answering known false 1 []
    → MarksGood known called chosen
marking_none known None called none is = is
marking_none known (Some target) called none is = absurd (some_none target none)
  where
    some_none : (t : ℕ) → Some t ≡ None → ⊥
    some_none t p = cc

marking_some : (known : Known) (chosen : Option ℕ) (called : Called) → IsSome chosen → IsSaving known (mark_good_of known.by.chooser known.table) called
    → MarksGood known called chosen
marking_some known None called some saves = absurd (false≢true some)
marking_some known (Some target) called some saves = saves

-- there is none
pub unmarked : (before after : State) (by : Directions) (so_far : SoFar) (answer : Reply) (device : Device) → CanCall (held_of before by so_far) device
    → answer ≡ reply.Done 1 [] → (IsSome (chosen_target by.chooser before.table) → ⊥) → after.table ≡ mark_good_of by.chooser before.table → after.backing ≡ before.backing
    → HasCalledOne MarkGood (held_of before by so_far) device answer (held_of after by so_far) device
unmarked before after by so_far answer device can is lost marked backing =
    let held = held_of before by so_far in
    let none = none_by (chosen_target by.chooser before.table) lost in
    let same : after.table ≡ before.table =
    marked ∙ ap (λ chosen. option_map_or (with_default_attempts by.chooser before.table) chosen before.table) none in
    let here : HasCalledOne MarkGood held device answer held device =
    answered_so MarkGood held device answer false 1 [] can
    (marking_none (known_of held) (chosen_target by.chooser before.table) (answering (known_of held) false 1 []) none refl) is in
    subst (λ (b : Backed). HasCalledOne MarkGood held device answer (record { table = after.table; backed = b; by = by; so_far = so_far }) device) (sym backing)
    (subst (λ (t : List ℕ). HasCalledOne MarkGood held device answer (record { table = t; backed = before.backing; by = by; so_far = so_far }) device) (sym same) here)

-- what was run doesn't ask for the table that was there before
ran_from : (before after : Held) (table : List ℕ) (from to : Device) (rounds : List Round) → RanFor (record before { table = table }) after from to rounds
    → RanFor before after from to rounds
ran_from before after table from to rounds run = record {
  ran = run.ran;
  kept = run.kept;
  fault = run.fault;
  sure = run.sure;
  keyed = run.keyed;
  by = run.by;
  ready = run.ready;
}

-- there is one, and the table in which it is marked was saved
pub marked_so : (before middle : State) (by : Directions) (so_far : SoFar) (after : Held) (answer : Reply) (from to : Device)
    → IsSome (chosen_target by.chooser before.table) → middle.table ≡ mark_good_of by.chooser before.table → middle.backing ≡ before.backing
    → HasCalledOne Save (held_of middle by so_far) from answer after to
    → HasCalledOne MarkGood (held_of before by so_far) from answer after to
marked_so before middle by so_far after answer from to some marked backing has =
    let held = held_of before by so_far in
    record {
      called = has.called;
      does =
          marking_some (known_of held) (chosen_target by.chooser before.table) has.called some
          (record { refusal = has.does.refusal; is = has.does.is ∙ ap (λ t. saving (known_of held) t has.does.refusal) marked });
      replies = has.replies;
      table = has.table;
      booted = has.booted;
      ran =
          ran_from held after middle.table from to has.called.rounds
          (subst (λ (b : Backed). RanFor (record { table = middle.table; backed = b; by = by; so_far = so_far }) after from to has.called.rounds) backing has.ran);
    }

-- a command by its words
pub by_command : (one two : OutsideCommand) (before after : Held) (from to : Device) (answer : Reply) → one ≡ two
    → HasCalledOne two before from answer after to → HasCalledOne one before from answer after to
by_command one two before after from to answer is has = subst (λ k. HasCalledOne k before from answer after to) (sym is) has
