-- All rounds of a script's commands.
use Rattle.std.proofs.Common.{◌≡◌, ℕ, true, List, [], ◌∷◌, ◌++◌, length, Option, Some, None, ap, append-nil, append_assoc, arith, refl, sym, subst, ◌∙◌}
use Rattle.std.proofs.lemmas.Option.{none-some, same_Some}
use Rattle.std.specs.List.{AllByRecursion, flat_map}
use Rattle.std.specs.Option.{option_map}
use Rattle.std.specs.Prelude.{is_some}
use Rattle.bb_copies.specs.declared.answers.CopyFault.{CopyFault}
use Rattle.bb_flash.specs.Device.{Device}
use Rattle.bb_state.specs.Keyed.{Keyed}
use Rattle.bb_script.specs.Tree.{ScriptTree}
use Rattle.bb_interpreter.proofs.Steady.{IsKept, Stands, run_keeps}
use Rattle.bb_interpreter.specs.Runs.{HasRunNothing, IsAct, RanScript}
use Rattle.bb_interpreter.specs.Standing.{Act, Answer}
use Rattle.bb_interpreter.specs.declared.commands.Reply.{Reply}
use Rattle.bb_interpreter.specs.declared.commands.Reply.TheVariants as reply
use Rattle.bb_interpreter.specs.declared.run.ScriptEnd.{ScriptEnd}
use Rattle.bb_interpreter.specs.declared.run.ScriptEnd.TheVariants as ends
use Rattle.bb_interpreter.specs.declared.run.ScriptRun.{ScriptRun}
use Rattle.bb_shell.proofs.Joined.{goes_joined, goes_unrefused, refused_joined, started_unrefused}
use Rattle.bb_shell.specs.Boot.{Round}
use Rattle.bb_shell.specs.Sequence.{goes_on}
use Rattle.bb_script_commands.specs.Calling.{HasCalledOne}
use Rattle.bb_script_commands.specs.Held.{CanCall, Held, known_of}
use Rattle.bb_script_commands.specs.OutsideWords.{outside_command}
use Rattle.bb_script_commands.specs.Playing.{AreScriptRounds, IsCallIn, IsPlayed, PlayedCall, call_rounds}
use Rattle.bb_script_commands.specs.Ran.{RanFor}
use Rattle.bb_script_commands.specs.Scripts.{EndsBy, IsRunEnd, RanAll, RanOver, called_rounds, calls_on}
use Rattle.bb_script_commands.specs.declared.run_end.RunResult.{RunResult}
use Rattle.bb_script_commands.specs.StateNames.{state_outside, state_set}
use Rattle.bb_script_commands.proofs.Counted.{few_acts}
use Rattle.bb_script_commands.proofs.Joining.{for_joined, ran_set, started_joined}
use Rattle.bb_script_commands.proofs.PlayedScripts.{played_so}
use Rattle.bb_script_commands.proofs.Replying.{Fits, reply_fits}
use Rattle.bb_script_commands.proofs.Saving.{ran_none}

record HasRun (before after : Held) (from to : Device) (Which : List Round → Type 0) (rounds : List Round) : Type 0 where
  ran : RanFor before after from to rounds
  which : Which rounds

abbrev Goes : {D : Type 0} → (D → Device) → Held → D → Held → D → List (Act Held D) → Type 0
Goes device before from held d acts =
    (called : AllByRecursion (IsAct (calls_on device)) acts)
    → HasRun before held (device from) (device d) (λ rounds. goes_on rounds ≡ true) (called_rounds device acts called)

abbrev Halts : {D : Type 0} → (D → Device) → Held → D → ScriptEnd → Held → D → List (Act Held D) → Type 0
Halts device before from end held d acts =
    (called : AllByRecursion (IsAct (calls_on device)) acts)
    → HasRun before held (device from) (device d) (EndsBy end) (called_rounds device acts called)

-- ---- a variable that is set

set_keeps_by : (held after : Held) (set : Option (Option (List ℕ)))
    → option_map (λ s. option_map (λ t. record held { table = t }) s) set ≡ Some (Some after) → (t : List ℕ) × (after ≡ record held { table = t })
set_keeps_by held after None is = absurd (none-some (Some after) is)
set_keeps_by held after (Some None) is = absurd (none-some after (same_Some None (Some after) is))
set_keeps_by held after (Some (Some t)) is =
    (t, sym (same_Some (record held { table = t }) after (same_Some (Some (record held { table = t })) (Some after) is)))

set_keeps : (held after : Held) (name value : List ℕ) → state_outside.set_by held name value ≡ Some (Some after)
    → (t : List ℕ) × (after ≡ record held { table = t })
set_keeps held after name value is = set_keeps_by held after (state_set (known_of held) name value) is

-- ---- what a call keeps

all_split : {X : Type 0} (P : X → Type 0) (xs : List X) (x : X) → AllByRecursion P (xs ++ x ∷ []) → AllByRecursion P xs × P x
all_split P [] x all = (tt, all.0)
all_split P (y ∷ xs) x all =
    let later = all_split P xs x all.1 in
    ((all.0, later.0), later.1)

-- the rounds of a last command come after the others
rounds_split : {D : Type 0} (device : D → Device) (acts : List (Act Held D)) (act : Act Held D) (all : AllByRecursion (IsAct (calls_on device)) (acts ++ act ∷ []))
    → called_rounds device (acts ++ act ∷ []) all
    ≡ called_rounds device acts (all_split (IsAct (calls_on device)) acts act all).0 ++ (all_split (IsAct (calls_on device)) acts act all).1.called.rounds
unfolding called_rounds all_split
rounds_split device [] act all = append-nil all.0.called.rounds
rounds_split device (first ∷ acts) act all =
    let both = all_split (IsAct (calls_on device)) acts act all.1 in
    ap (λ rounds. all.0.called.rounds ++ rounds) (rounds_split device acts act all.1)
    ∙ sym (append_assoc all.0.called.rounds (called_rounds device acts both.0) both.1.called.rounds)

-- rounds after others that go on
fits_joined : (answer : Reply) (one two : List Round) → goes_on one ≡ true → Fits answer two → Fits answer (one ++ two)
fits_joined (reply.Done status text) one two goes h = goes_joined one two goes ∙ h
fits_joined (reply.Started text) one two goes h = started_joined one two h
fits_joined reply.Fault one two goes h = ap (λ o. is_some o) (refused_joined one two goes) ∙ h
fits_joined reply.NoMemory one two goes h = refused_joined one two goes ∙ h

called_so : {D : Type 0} (device : D → Device) (before : Held) (from : D) (held : Held) (d : D) (words : List (List ℕ)) (a : Answer Held D) (rounds : List Round)
    → (device from).geometry ≡ before.backed.keyed.layout.geometry → HasRun before held (device from) (device d) (λ rounds. goes_on rounds ≡ true) rounds
    → (has : HasCalledOne (outside_command words) held (device d) a.reply a.outside (device a.device))
    → HasRun before a.outside (device from) (device a.device) (Fits a.reply) (rounds ++ has.called.rounds)
called_so device before from held d words a rounds geometry run has = record {
  ran = for_joined before held a.outside (device from) (device d) (device a.device) rounds has.called.rounds geometry run.which run.ran has.ran;
  which =
      fits_joined a.reply rounds has.called.rounds run.which
      (reply_fits (outside_command words) held a.outside (device d) (device a.device) a.reply has);
}

as_stands : {D : Type 0} (device : D → Device) (before : Held) (from : D) (held : Held) (d : D) (acts : List (Act Held D)) (answer : Reply)
    → ((called : AllByRecursion (IsAct (calls_on device)) acts)
    → HasRun before held (device from) (device d) (Fits answer) (called_rounds device acts called))
    → Stands (Goes device before from) (Halts device before from) answer held d acts
as_stands device before from held d acts (reply.Done status text) h = λ all. let run = h all in record { ran = run.ran; which = run.which }
as_stands device before from held d acts (reply.Started text) h = λ all. let run = h all in record { ran = run.ran; which = run.which }
as_stands device before from held d acts reply.Fault h = λ all. let run = h all in record { ran = run.ran; which = run.which }
as_stands device before from held d acts reply.NoMemory h = λ all. let run = h all in record { ran = run.ran; which = run.which }

kept_so : {D : Type 0} (device : D → Device) (before : Held) (from : D) → (device from).geometry ≡ before.backed.keyed.layout.geometry
    → IsKept state_outside (Goes device before from) (Halts device before from)
kept_so device before from geometry = record {
  done = λ held d acts status h all. let run = h all in record { ran = run.ran; which = run.which };
  limited = λ held d acts h all. let run = h all in record { ran = run.ran; which = run.which };
  starved = λ held d acts h all.
      let run = h all in record { ran = run.ran; which = goes_unrefused (called_rounds device acts all) run.which };
  unsent = λ held d acts h all.
      let run = h all in record { ran = run.ran; which = started_unrefused (called_rounds device acts all) run.which };
  sets = λ held after d acts name value is h all.
      let run = h all in
      let keeps = set_keeps held after name value is in
      let rounds = called_rounds device acts all in
      record {
        ran =
            subst (λ (x : Held). RanFor before x (device from) (device d) rounds) (sym keeps.1)
            (ran_set before held keeps.0 (device from) (device d) rounds run.ran);
        which = run.which;
      };
  replies = λ held d acts words a h.
      as_stands device before from a.outside a.device (acts ++ (record { words = words; before = held; on = d; answer = a }) ∷ []) a.reply
      (λ all.
      let both = all_split (IsAct (calls_on device)) acts (record { words = words; before = held; on = d; answer = a }) all in
      subst (λ rounds. HasRun before a.outside (device from) (device a.device) (Fits a.reply) rounds)
      (sym (rounds_split device acts (record { words = words; before = held; on = d; answer = a }) all))
      (called_so device before from held d words a (called_rounds device acts both.0) geometry (h both.0) both.1));
}

-- ---- what its calls knew

-- a call knew the layout and the directions of the beginning
abbrev IsBegunBy : {D : Type 0} → Held → Act Held D → Type 0
IsBegunBy before act = (act.before.backed.keyed ≡ before.backed.keyed) × (act.before.by ≡ before.by)

record HasKnown {D : Type 0} (before held : Held) (acts : List (Act Held D)) : Type 0 where
  keyed : held.backed.keyed ≡ before.backed.keyed
  by : held.by ≡ before.by
  acts_are : AllByRecursion (IsBegunBy before) acts

abbrev Knows : {D : Type 0} → (D → Device) → Held → Held → D → List (Act Held D) → Type 0
Knows device before held d acts = AllByRecursion (IsAct (calls_on device)) acts → HasKnown before held acts

all_pushed : {X : Type 0} (P : X → Type 0) (xs : List X) (x : X) → AllByRecursion P xs → P x → AllByRecursion P (xs ++ x ∷ [])
all_pushed P [] x all last = (last, tt)
all_pushed P (y ∷ xs) x all last = (all.0, all_pushed P xs x all.1 last)

knows_next : {D : Type 0} (device : D → Device) (before held : Held) (d : D) (acts : List (Act Held D)) (words : List (List ℕ)) (a : Answer Held D)
    → Knows device before held d acts → Knows device before a.outside a.device (acts ++ (record { words = words; before = held; on = d; answer = a }) ∷ [])
knows_next device before held d acts words a h all =
    let act : Act Held _ = record { words = words; before = held; on = d; answer = a } in
    let both = all_split (IsAct (calls_on device)) acts act all in
    let known = h both.0 in
    let ran = both.1.ran in
    record {
      keyed = ran.keyed ∙ known.keyed;
      by = ran.by ∙ known.by;
      acts_are = all_pushed (IsBegunBy before) acts act known.acts_are (known.keyed, known.by);
    }

knows_stands : {D : Type 0} (device : D → Device) (before held : Held) (d : D) (acts : List (Act Held D)) (answer : Reply) → Knows device before held d acts
    → Stands (Knows device before) (λ end. Knows device before) answer held d acts
knows_stands device before held d acts (reply.Done status text) h = h
knows_stands device before held d acts (reply.Started text) h = h
knows_stands device before held d acts reply.Fault h = h
knows_stands device before held d acts reply.NoMemory h = h

knows_so : {D : Type 0} (device : D → Device) (before : Held) → IsKept state_outside (Knows device before) (λ end. Knows device before)
knows_so device before = record {
  done = λ held d acts status h. h;
  limited = λ held d acts h. h;
  starved = λ held d acts h. h;
  unsent = λ held d acts h. h;
  sets = λ held after d acts name value is h.
      let keeps = set_keeps held after name value is in
      subst (λ (x : Held). Knows device before x d acts) (sym keeps.1)
      (λ all. let known = h all in record { keyed = known.keyed; by = known.by; acts_are = known.acts_are });
  replies = λ held d acts words a h.
      knows_stands device before a.outside a.device (acts ++ (record { words = words; before = held; on = d; answer = a }) ∷ []) a.reply
      (knows_next device before held d acts words a h);
}

-- the calls of a run
calls_of : {D : Type 0} (device : D → Device) (acts : List (Act Held D)) → AllByRecursion (IsAct (calls_on device)) acts → List PlayedCall
calls_of device [] all = []
calls_of device (act ∷ acts) all =
    (record { words = act.words; known = known_of act.before; called = all.0.called }) ∷ calls_of device acts all.1

calls_length : {D : Type 0} (device : D → Device) (acts : List (Act Held D)) (all : AllByRecursion (IsAct (calls_on device)) acts)
    → length (calls_of device acts all) ≡ length acts
unfolding calls_of
calls_length device [] all = refl
calls_length device (act ∷ acts) all =
    let later = calls_length device acts all.1 in
    omega (arith, later)

calls_each : {D : Type 0} (device : D → Device) (before : Held) (acts : List (Act Held D)) (all : AllByRecursion (IsAct (calls_on device)) acts)
    → AllByRecursion (IsBegunBy before) acts → AllByRecursion (IsCallIn (known_of before)) (calls_of device acts all)
unfolding calls_of
calls_each device before [] all known = tt
calls_each device before (act ∷ acts) all known =
    let call : IsCallIn (known_of before) (record { words = act.words; known = known_of act.before; called = all.0.called }) =
    record { layout = ap (λ (k : Keyed). k.layout) known.0.0; by = known.0.1; does = all.0.does } in
    (call, calls_each device before acts all.1 known.1)

calls_rounds : {D : Type 0} (device : D → Device) (acts : List (Act Held D)) (all : AllByRecursion (IsAct (calls_on device)) acts)
    → called_rounds device acts all ≡ flat_map call_rounds (calls_of device acts all)
unfolding called_rounds calls_of
calls_rounds device [] all = refl
calls_rounds device (act ∷ acts) all = ap (λ rounds. all.0.called.rounds ++ rounds) (calls_rounds device acts all.1)

script_calls : {D : Type 0} (device : D → Device) (script : ScriptTree) (old new : ScriptRun Held) (from to : D) (end : ScriptEnd)
    (ran : RanScript (calls_on device) state_outside script old new from to end) → HasRunNothing old
    → AreScriptRounds (known_of old.commands) (called_rounds device ran.acts ran.called)
script_calls device script old new from to end ran fresh =
    let known =
    run_keeps state_outside (Knows device old.commands) (λ last. Knows device old.commands) (knows_so device old.commands) (calls_on device) script old new from to end
    ran (λ all. record { keyed = refl; by = refl; acts_are = tt }) ran.called in
    let few = few_acts state_outside (calls_on device) script old new from to end ran fresh in
    record {
      calls = calls_of device ran.acts ran.called;
      few = omega (arith, few, calls_length device ran.acts ran.called);
      each = calls_each device old.commands ran.acts ran.called known.acts_are;
      rounds_are = calls_rounds device ran.acts ran.called;
    }

-- ---- the end

begins : {D : Type 0} (device : D → Device) (before : Held) (from : D) → CanCall before (device from) → Goes device before from before from []
unfolding called_rounds
begins device before from can all = record { ran = ran_none before (device from) can; which = refl }

run_rounds : {D : Type 0} (device : D → Device) (script : ScriptTree) (old new : ScriptRun Held) (from to : D) (end : ScriptEnd)
    → CanCall old.commands (device from) → (ran : RanScript (calls_on device) state_outside script old new from to end)
    → HasRun old.commands new.commands (device from) (device to) (EndsBy end) (called_rounds device ran.acts ran.called)
run_rounds device script old new from to end can ran =
    run_keeps state_outside (Goes device old.commands from) (Halts device old.commands from) (kept_so device old.commands from can.geometry)
    (calls_on device)
    script old new from to end ran (begins device old.commands from can) ran.called

pub ran_all : {D : Type 0} (device : D → Device) (script : ScriptTree) (old new : ScriptRun Held) (from to : D) (end : ScriptEnd)
    → CanCall old.commands (device from) → (ran : RanScript (calls_on device) state_outside script old new from to end)
    → RanAll old.commands new.commands (device from) (device to) end (called_rounds device ran.acts ran.called)
ran_all device script old new from to end can ran =
    let run = run_rounds device script old new from to end can ran in
    record { ran = run.ran; ends = run.which }

-- a script that ended in a fault has one
pub fault_kept : (before after : Held) (from to : Device) (rounds : List Round) → RanAll before after from to ends.Fault rounds
    → is_some after.so_far.fault ≡ true
fault_kept before after from to rounds all = ap (λ o. is_some o) all.ran.fault ∙ all.ends

can_begin : (one two : Held) (device : Device) → two ≡ one → CanCall one device → CanCall two device
can_begin one two device is can = subst (λ (h : Held). CanCall h device) (sym is) can

pub fault_known : {D : Type 0} (device : D → Device) (script : ScriptTree) (before : Held) (old new : ScriptRun Held) (from to : D) (end : ScriptEnd)
    (fault : Option CopyFault) → CanCall before (device from) → old.commands ≡ before
    → RanScript (calls_on device) state_outside script old new from to end → fault ≡ new.commands.so_far.fault → end ≡ ends.Fault → is_some fault ≡ true
fault_known device script before old new from to end fault can begins ran is faulted =
    ap (λ o. is_some o) is
    ∙ fault_kept old.commands new.commands (device from) (device to) (called_rounds device ran.acts ran.called)
    (subst (λ e. RanAll old.commands new.commands (device from) (device to) e (called_rounds device ran.acts ran.called)) faulted
    (ran_all device script old new from to end (can_begin before old.commands (device from) begins can) ran))

pub ran_over : {D : Type 0} (device : D → Device) (script : ScriptTree) (before : Held) (old new : ScriptRun Held) (from to : D) (end : ScriptEnd)
    (result : RunResult) → CanCall before (device from) → HasRunNothing old → old.commands ≡ before
    → RanScript (calls_on device) state_outside script old new from to end
    → IsRunEnd end new.commands.so_far.fault result.end → result.text ≡ new.text
    → result.state.table ≡ new.commands.table → result.state.backing ≡ new.commands.backed
    → RanOver device script before from to result
ran_over device script before old new from to end result can fresh begins ran end_is text table backing =
    let rounds = called_rounds device ran.acts ran.called in
    let play = played_so device script old new from to end ran fresh in
    record {
      old = old;
      new = new;
      end = end;
      fresh = fresh;
      begins = begins;
      ran = ran;
      text = text;
      end_is = end_is;
      table = table;
      backing = backing;
      all =
          subst (λ (h : Held). RanAll h new.commands (device from) (device to) end rounds) begins
          (ran_all device script old new from to end (can_begin before old.commands (device from) begins can) ran);
      calls =
          subst (λ (h : Held). AreScriptRounds (known_of h) rounds) begins
          (script_calls device script old new from to end ran fresh);
      grants = play.grants;
      played =
          subst (λ (l : List ℕ). IsPlayed script (known_of before) rounds play.grants end l) (sym text)
          (subst (λ (h : Held). IsPlayed script (known_of h) rounds play.grants end new.text) begins play.played);
      granted = play.granted;
    }
