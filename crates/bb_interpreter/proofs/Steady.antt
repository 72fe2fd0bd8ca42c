-- What every command from outside and every variable that is set there keeps is kept by a script.
use Rattle.std.proofs.Common.{◌≡◌, ℕ, ◌+◌, ◌-◌, ◌==◌, Bool, true, false, List, [], ◌∷◌, ◌++◌, map, Option, Some, None, cond, nat_le, nat_lt, refl, subst}
use Rattle.bb_script.specs.Fields.{expansion_of}
use Rattle.bb_script.specs.Tree.{ScriptTree, CommandTree, ChoiceTree, no_steps, step, call, set, choose, repeat, no_else, otherwise, branch}
use Rattle.bb_script.specs.Words.{Atom}
use Rattle.bb_script.specs.declared.script.When.{When}
use Rattle.bb_interpreter.specs.Assigned.{assigned_value}
use Rattle.bb_interpreter.specs.Echo.{echo_text}
use Rattle.bb_interpreter.specs.Means as means
use Rattle.bb_interpreter.specs.Means.{built_in_of, does_built_in, does_expanded, does_fields, does_named, does_outside, is_due, loops_over, means_choice, means_command, means_steps, put_by, puts, replied, rounds, sends, values_at, when_due, next_answer}
use Rattle.bb_interpreter.specs.Outside.{Outside, set_status}
use Rattle.bb_interpreter.specs.Runs.{CallGives, RanScript, act_answer, course_of, standing_of}
use Rattle.bb_interpreter.specs.Standing.{Act, Answer, Course, GoesOn, Meaning, Standing, Stops, counts_one, either, followed, granted, granted_by, with_status}
use Rattle.bb_interpreter.specs.declared.built_in.BuiltIn.{BuiltIn}
use Rattle.bb_interpreter.specs.declared.built_in.BuiltIn.TheVariants as built_in
use Rattle.bb_interpreter.specs.declared.commands.Reply.{Reply}
use Rattle.bb_interpreter.specs.declared.commands.Reply.TheVariants as reply
use Rattle.bb_interpreter.specs.declared.run.ScriptEnd.{ScriptEnd}
use Rattle.bb_interpreter.specs.declared.run.ScriptEnd.TheVariants as ends
use Rattle.bb_interpreter.specs.declared.run.ScriptRun.{ScriptRun}
use Rattle.bb_interpreter.specs.declared.stop.ScriptStop.{ScriptStop}
use Rattle.bb_interpreter.specs.declared.stop.ScriptStop.TheVariants as stop

-- what holds after a reply: P where a script goes on, else Q of how it ends
abbrev pub Stands : {C D : Type 0} → (P : C → D → List (Act C D) → Type 0) → (Q : ScriptEnd → C → D → List (Act C D) → Type 0)
    → Reply → C → D → List (Act C D) → Type 0
Stands P Q (reply.Done status text) c d acts = P c d acts
Stands P Q (reply.Started text) c d acts = Q ends.Started c d acts
Stands P Q reply.Fault c d acts = Q ends.Fault c d acts
Stands P Q reply.NoMemory c d acts = Q ends.NoMemory c d acts

-- P is kept while a script goes on, and Q holds of how it ends
pub record IsKept {C D : Type 0} (o : Outside C) (P : C → D → List (Act C D) → Type 0) (Q : ScriptEnd → C → D → List (Act C D) → Type 0) : Type 0 where
  pub done : (c : C) (d : D) (acts : List (Act C D)) (status : ℕ) → P c d acts → Q (ends.Done status) c d acts
  pub limited : (c : C) (d : D) (acts : List (Act C D)) → P c d acts → Q ends.StepLimit c d acts
  pub starved : (c : C) (d : D) (acts : List (Act C D)) → P c d acts → Q ends.NoMemory c d acts
  pub unsent : (c : C) (d : D) (acts : List (Act C D)) → Q ends.Started c d acts → Q ends.NoMemory c d acts
  pub sets : (c after : C) (d : D) (acts : List (Act C D)) (name value : List ℕ) → o.set_by c name value ≡ Some (Some after) → P c d acts → P after d acts
  pub replies :
      (c : C) (d : D) (acts : List (Act C D)) (words : List (List ℕ)) (a : Answer C D) → P c d acts →
      Stands P Q a.reply a.outside a.device (acts ++ (record { words = words; before = c; on = d; answer = a }) ∷ [])

abbrev end_of : ScriptStop → ScriptEnd
end_of stop.Started = ends.Started
end_of stop.StepLimit = ends.StepLimit
end_of stop.Fault = ends.Fault
end_of stop.NoMemory = ends.NoMemory

abbrev At : {C D : Type 0} → (C → D → List (Act C D) → Type 0) → Standing C D → Type 0
At P at = P at.outside at.device at.acts

abbrev After : {C D : Type 0} → (P : C → D → List (Act C D) → Type 0) → (Q : ScriptEnd → C → D → List (Act C D) → Type 0) → Course C D → Type 0
After P Q (GoesOn at) = At P at
After P Q (Stops why at) = At (Q (end_of why)) at

module _ {C D : Type 0} (o : Outside C) (P : C → D → List (Act C D) → Type 0) (Q : ScriptEnd → C → D → List (Act C D) → Type 0) (kept : IsKept o P Q) where
  then : (course : Course C D) (next : Meaning C D) → After P Q course → ((at : Standing C D) → At P at → After P Q (next at)) → After P Q (followed course next)
  then (GoesOn at) next h more = more at h
  then (Stops stop at) next h more = h

  one_of : (b : Bool) (one two : Meaning C D) (at : Standing C D) → After P Q (one at) → After P Q (two at) → After P Q (either b one two at)
  one_of true one two at h k = h
  one_of false one two at h k = k

  if_so : (b : Bool) (one two : Course C D) → After P Q one → After P Q two → After P Q (cond b one two)
  if_so true one two h k = h
  if_so false one two h k = k

  counted : (at : Standing C D) → At P at → After P Q (counts_one at)
  counted at h =
      if_so (nat_le 10000 at.count) (Stops stop.StepLimit at) (GoesOn (record at { count = at.count + 1 })) (kept.limited at.outside at.device at.acts h) h

  granted_for : (grants : Option ℕ) (at : Standing C D) → At P at → After P Q (granted_by grants at)
  granted_for None at h = h
  granted_for (Some n) at h =
      if_so (nat_lt 0 n) (GoesOn (record at { grants = Some (n - 1) })) (Stops stop.NoMemory at) h (kept.starved at.outside at.device at.acts h)

  has_memory : (at : Standing C D) → At P at → After P Q (granted at)
  has_memory at h = granted_for at.grants at h

  -- ---- variables

  put_so : (name value : List ℕ) (at : Standing C D) (setting : Option (Option C)) → o.set_by at.outside name value ≡ setting → At P at
      → At P (put_by name value setting at)
  put_so name value at None is h = h
  put_so name value at (Some None) is h = h
  put_so name value at (Some (Some after)) is h = kept.sets at.outside after at.device at.acts name value is h

  puts_so : (name value : List ℕ) (at : Standing C D) → At P at → After P Q (puts o name value at)
  puts_so name value at h =
      then (granted at) (λ at'. GoesOn (put_by name value (o.set_by at'.outside name value) at')) (has_memory at h)
      (λ at' k. put_so name value at' (o.set_by at'.outside name value) refl k)

  assigned_so : (name : List ℕ) (value : Option (List ℕ)) (at : Standing C D) → At P at → After P Q (means.assigns_value o name value at)
  assigned_so name None at h = h
  assigned_so name (Some value) at h =
      then (puts o name value at) (with_status (set_status (o.set_by at.outside name value))) (puts_so name value at h) (λ at' k. k)

  assigns_so : (name : List ℕ) (rest : List Atom) (at : Standing C D) → At P at → After P Q (means.assigns o name rest at)
  assigns_so name rest at h =
      then (granted at) (λ at'. means.assigns_value o name (assigned_value (values_at o at') at'.status name rest) at') (has_memory at h)
      (λ at' k. assigned_so name (assigned_value (values_at o at') at'.status name rest) at' k)

  -- ---- commands

  sends_so : (text : List ℕ) (at : Standing C D) → At P at → After P Q (sends text at)
  sends_so text at h = then (granted at) (λ at'. GoesOn (record at' { text = at'.text ++ text })) (has_memory at h) (λ at' k. k)

  built_in_so : (kind : BuiltIn) (words : List (List ℕ)) (at : Standing C D) → At P at → After P Q (does_built_in kind words at)
  built_in_so built_in.Echo words at h = then (sends (echo_text words) at) (with_status 0) (sends_so (echo_text words) at h) (λ at' k. k)
  built_in_so built_in.True words at h = h
  built_in_so built_in.False words at h = h
  built_in_so built_in.Test words at h = h
  built_in_so built_in.Brackets words at h = h

  -- a text that is sent before a stop
  starts_with : (grants : Option ℕ) (text : List ℕ) (at : Standing C D) → At (Q ends.Started) at
      → After P Q (followed (followed (granted_by grants at) (λ at'. GoesOn (record at' { text = at'.text ++ text }))) (λ at'. Stops stop.Started at'))
  starts_with None text at h = h
  starts_with (Some n) text at h = by (nat_lt 0 n)
    where
      by : (b : Bool)
          → After P Q
          (followed
          (followed (cond b (GoesOn (record at { grants = Some (n - 1) })) (Stops stop.NoMemory at))
          (λ at'. GoesOn (record at' { text = at'.text ++ text })))
          (λ at'. Stops stop.Started at'))
      by true = h
      by false = kept.unsent at.outside at.device at.acts h

  replied_so : (answer : Reply) (at : Standing C D) → Stands P Q answer at.outside at.device at.acts → After P Q (replied answer at)
  replied_so (reply.Done status text) at h = then (sends text at) (with_status status) (sends_so text at h) (λ at' k. k)
  replied_so (reply.Started text) at h = starts_with at.grants text at h
  replied_so reply.Fault at h = h
  replied_so reply.NoMemory at h = h

  answered_so : (words : List (List ℕ)) (answers : List (Answer C D)) (at : Standing C D) → At P at → After P Q (means.answered words answers at)
  answered_so words [] at h = h
  answered_so words (a ∷ later) at h =
      replied_so a.reply
      (record at {
        outside = a.outside;
        device = a.device;
        answers = later;
        acts = at.acts ++ (record { words = words; before = at.outside; on = at.device; answer = a }) ∷ [];
      })
      (kept.replies at.outside at.device at.acts words a h)

  outside_so : (name : List ℕ) (fields : List (List ℕ)) (at : Standing C D) → At P at → After P Q (does_outside o next_answer name fields at)
  outside_so name fields at h =
      one_of (o.is_command name) (λ at'. means.answered fields at'.answers at') (with_status 127) at (answered_so fields at.answers at h) h

  named_so : (built_in : Option BuiltIn) (name : List ℕ) (words : List (List ℕ)) (at : Standing C D) → At P at → After P Q (does_named o next_answer built_in name words at)
  named_so None name words at h = outside_so name (name ∷ words) at h
  named_so (Some kind) name words at h = built_in_so kind words at h

  fields_so : (fields : List (List ℕ)) (at : Standing C D) → At P at → After P Q (does_fields o next_answer fields at)
  fields_so [] at h = h
  fields_so (name ∷ words) at h = named_so (built_in_of name) name words at h

  expanded_so : (fields : Option (List (List ℕ))) (at : Standing C D) → At P at → After P Q (does_expanded o next_answer fields at)
  expanded_so None at h = h
  expanded_so (Some fields) at h = fields_so fields at h

  calls_so : (words : List (List Atom)) (at : Standing C D) → At P at → After P Q (means.calls o next_answer words at)
  calls_so words at h =
      then (granted at) (λ at'. does_expanded o next_answer (expansion_of (values_at o at') at'.status words) at') (has_memory at h)
      (λ at' k. expanded_so (expansion_of (values_at o at') at'.status words) at' k)

  -- ---- the flow

  rounds_so : (name : List ℕ) (body : Meaning C D) → ((at : Standing C D) → At P at → After P Q (body at)) → (fields : List (List ℕ)) (at : Standing C D) → At P at
      → After P Q (rounds o name body fields at)
  rounds_so name body keeps [] at h = h
  rounds_so name body keeps (field ∷ later) at h =
      then (counts_one at) (λ at1. followed (puts o name field at1) (λ at2. followed (body at2) (rounds o name body later))) (counted at h)
      (λ at1 h1.
      then (puts o name field at1) (λ at2. followed (body at2) (rounds o name body later)) (puts_so name field at1 h1)
      (λ at2 h2. then (body at2) (rounds o name body later) (keeps at2 h2) (λ at3 h3. rounds_so name body keeps later at3 h3)))

  looped_so : (name : List ℕ) (body : Meaning C D) → ((at : Standing C D) → At P at → After P Q (body at)) → (fields : Option (List (List ℕ))) (at : Standing C D) → At P at
      → After P Q (loops_over o name body fields at)
  looped_so name body keeps None at h = h
  looped_so name body keeps (Some []) at h = h
  looped_so name body keeps (Some (field ∷ later)) at h = rounds_so name body keeps (field ∷ later) at h

  loops_so : (name : List ℕ) (words : List (List Atom)) (body : Meaning C D) → ((at : Standing C D) → At P at → After P Q (body at)) → (at : Standing C D) → At P at
      → After P Q (means.loops o name words body at)
  loops_so name words body keeps at h =
      then (granted at) (λ at'. loops_over o name body (expansion_of (values_at o at') at'.status words) at') (has_memory at h)
      (λ at' k. looped_so name body keeps (expansion_of (values_at o at') at'.status words) at' k)

  due_so : (due : When) (command : Meaning C D) (at : Standing C D) → After P Q (command at) → At P at → After P Q (when_due due command at)
  due_so due command at k h = one_of (is_due due at.status) command GoesOn at k h

  mutual
    steps_so : (script : ScriptTree) (at : Standing C D) → At P at → After P Q (means_steps o next_answer script at)
    steps_so no_steps at h = h
    steps_so (step due command later) at h =
        then (when_due due (means_command o next_answer command) at) (means_steps o next_answer later)
        (due_so due (means_command o next_answer command) at (command_so command at h) h)
        (λ at' k. steps_so later at' k)

    command_so : (command : CommandTree) (at : Standing C D) → At P at → After P Q (means_command o next_answer command at)
    command_so (call words) at h = then (counts_one at) (means.calls o next_answer words) (counted at h) (λ at' k. calls_so words at' k)
    command_so (set name rest) at h = then (counts_one at) (means.assigns o name rest) (counted at h) (λ at' k. assigns_so name rest at' k)
    command_so (choose choice) at h = choice_so choice at h
    command_so (repeat name words body) at h = loops_so name words (means_steps o next_answer body) (λ at' k. steps_so body at' k) at h

    choice_so : (choice : ChoiceTree) (at : Standing C D) → At P at → After P Q (means_choice o next_answer choice at)
    choice_so no_else at h = h
    choice_so (otherwise steps) at h = steps_so steps at h
    choice_so (branch test body later) at h =
        then (means_steps o next_answer test at) (means.by_success (means_steps o next_answer body) (means_choice o next_answer later)) (steps_so test at h)
        (λ at' k. one_of (at'.status == 0) (means_steps o next_answer body) (means_choice o next_answer later) at' (steps_so body at' k) (choice_so later at' k))

  by_end : (end : ScriptEnd) (at : Standing C D) → After P Q (course_of end at) → At (Q end) at
  by_end (ends.Done status) at h = kept.done at.outside at.device at.acts status h
  by_end ends.Started at h = h
  by_end ends.StepLimit at h = h
  by_end ends.Fault at h = h
  by_end ends.NoMemory at h = h

  from_course : (script : ScriptTree) (old new : ScriptRun C) (from to : D) (end : ScriptEnd) (acts : List (Act C D)) (left leaves : Option ℕ)
      → P old.commands from []
      → means_steps o next_answer script (standing_of old from [] (map act_answer acts ++ []) left) ≡ course_of end (standing_of new to acts [] leaves)
      → Q end new.commands to acts
  from_course script old new from to end acts left leaves h means =
      by_end end (standing_of new to acts [] leaves)
      (subst (After P Q) means (steps_so script (standing_of old from [] (map act_answer acts ++ []) left) h))

  -- after a whole run
  pub run_keeps : (gives : CallGives C D) (script : ScriptTree) (old new : ScriptRun C) (from to : D) (end : ScriptEnd)
      (ran : RanScript gives o script old new from to end) → P old.commands from [] → Q end new.commands to ran.acts
  run_keeps gives script old new from to (ends.Done status) ran h =
      from_course script old new from to (ends.Done status) ran.acts None None h (ran.whole (λ p. cc) [])
  run_keeps gives script old new from to ends.Started ran h = from_course script old new from to ends.Started ran.acts None None h (ran.whole (λ p. cc) [])
  run_keeps gives script old new from to ends.StepLimit ran h = from_course script old new from to ends.StepLimit ran.acts None None h (ran.whole (λ p. cc) [])
  run_keeps gives script old new from to ends.Fault ran h = from_course script old new from to ends.Fault ran.acts None None h (ran.whole (λ p. cc) [])
  run_keeps gives script old new from to ends.NoMemory ran h =
      from_course script old new from to ends.NoMemory ran.acts (Some ran.asked) (Some 0) h (ran.front refl [])
