-- A script calls no more commands than it counts.
use Rattle.std.proofs.Common.{◌≡◌, ℕ, ◌+◌, ◌-◌, ◌==◌, ◌≤◌, Bool, true, false, List, [], ◌∷◌, ◌++◌, length, map, Option, Some, None, arith, cond, nat_le, nat_lt, refl, subst}
use Rattle.std.proofs.lemmas.Bool.{leb-false}
use Rattle.std.proofs.lemmas.List.{length-append}
use Rattle.bb_script.specs.Fields.{expansion_of}
use Rattle.bb_script.specs.Tree.{ScriptTree, CommandTree, ChoiceTree, no_steps, step, call, set, choose, repeat, no_else, otherwise, branch}
use Rattle.bb_script.specs.Words.{Atom}
use Rattle.bb_script.specs.declared.script.When.{When}
use Rattle.bb_interpreter.specs.Assigned.{assigned_value}
use Rattle.bb_interpreter.specs.Echo.{echo_text}
use Rattle.bb_interpreter.specs.Means as means
use Rattle.bb_interpreter.specs.Means.{answered, built_in_of, does_built_in, does_expanded, does_fields, does_named, does_outside, is_due, loops_over, means_choice, means_command, means_steps, next_answer, put_by, puts, replied, rounds, sends, values_at, when_due}
use Rattle.bb_interpreter.specs.Outside.{Outside, set_status}
use Rattle.bb_interpreter.specs.Runs.{CallGives, HasRunNothing, RanScript, act_answer, course_of, standing_of}
use Rattle.bb_interpreter.specs.Standing.{Act, Answer, Course, GoesOn, Meaning, Standing, Stops, counts_one, either, followed, granted, granted_by, with_status}
use Rattle.bb_interpreter.specs.declared.built_in.BuiltIn.{BuiltIn}
use Rattle.bb_interpreter.specs.declared.built_in.BuiltIn.TheVariants as built_in
use Rattle.bb_interpreter.specs.declared.commands.Reply.{Reply}
use Rattle.bb_interpreter.specs.declared.commands.Reply.TheVariants as reply
use Rattle.bb_interpreter.specs.declared.run.ScriptEnd.{ScriptEnd}
use Rattle.bb_interpreter.specs.declared.run.ScriptEnd.TheVariants as ends
use Rattle.bb_interpreter.specs.declared.run.ScriptRun.{ScriptRun}
use Rattle.bb_interpreter.specs.declared.stop.ScriptStop.{ScriptStop}
use Rattle.bb_interpreter.specs.declared.stop.ScriptStop.TheVariants as stop

-- so many were called, and so many more may be for what was counted
record Counts (spare count called : ℕ) : Type 0 where
  room : called + spare ≤ count
  most : count ≤ 10000

abbrev At : {C D : Type 0} → ℕ → Standing C D → Type 0
At spare at = Counts spare at.count (length at.acts)

-- after a stop no more may be
abbrev After : {C D : Type 0} → ℕ → Course C D → Type 0
After spare (GoesOn at) = At spare at
After spare (Stops why at) = At 0 at

settled : (spare count called : ℕ) → Counts spare count called → Counts 0 count called
settled spare count called h = record { room = omega (arith, h.room); most = h.most }

called_once : (count called after : ℕ) → after ≡ called + 1 → Counts 1 count called → Counts 0 count after
called_once count called after one h = record { room = omega (arith, h.room, one); most = h.most }

counted_once : (count called : ℕ) → nat_le 10000 count ≡ false → Counts 0 count called → Counts 1 (count + 1) called
counted_once count called more h =
    let below = leb-false 10000 count more in
    record { room = omega (arith, h.room); most = omega (arith, below) }

module _ {C D : Type 0} (o : Outside C) where
  then : (spare left : ℕ) (course : Course C D) (next : Meaning C D) → After spare course → ((at : Standing C D) → At spare at → After left (next at))
      → After left (followed course next)
  then spare left (GoesOn at) next h more = more at h
  then spare left (Stops why at) next h more = h

  -- what may be called may be left out
  rests : (course : Course C D) → After 1 course → After 0 course
  rests (GoesOn at) h = settled 1 at.count (length at.acts) h
  rests (Stops why at) h = h

  one_of : (spare : ℕ) (b : Bool) (one two : Meaning C D) (at : Standing C D) → After spare (one at) → After spare (two at) → After spare (either b one two at)
  one_of spare true one two at h k = h
  one_of spare false one two at h k = k

  counted : (at : Standing C D) → At 0 at → After 1 (counts_one at)
  counted at h = by (nat_le 10000 at.count) refl
    where
      by : (b : Bool) → nat_le 10000 at.count ≡ b → After 1 (cond b (Stops stop.StepLimit at) (GoesOn (record at { count = at.count + 1 })))
      by true e = h
      by false e = counted_once at.count (length at.acts) e h

  granted_for : (spare : ℕ) (grants : Option ℕ) (at : Standing C D) → At spare at → After spare (granted_by grants at)
  granted_for spare None at h = h
  granted_for spare (Some n) at h = by (nat_lt 0 n)
    where
      by : (b : Bool) → After spare (cond b (GoesOn (record at { grants = Some (n - 1) })) (Stops stop.NoMemory at))
      by true = h
      by false = settled spare at.count (length at.acts) h

  has_memory : (spare : ℕ) (at : Standing C D) → At spare at → After spare (granted at)
  has_memory spare at h = granted_for spare at.grants at h

  -- ---- variables

  put_so : (name value : List ℕ) (at : Standing C D) (setting : Option (Option C)) → At 0 at → At 0 (put_by name value setting at)
  put_so name value at None h = h
  put_so name value at (Some None) h = h
  put_so name value at (Some (Some after)) h = h

  puts_so : (name value : List ℕ) (at : Standing C D) → At 0 at → After 0 (puts o name value at)
  puts_so name value at h =
      then 0 0 (granted at) (λ at'. GoesOn (put_by name value (o.set_by at'.outside name value) at')) (has_memory 0 at h)
      (λ at' k. put_so name value at' (o.set_by at'.outside name value) k)

  assigned_so : (name : List ℕ) (value : Option (List ℕ)) (at : Standing C D) → At 0 at → After 0 (means.assigns_value o name value at)
  assigned_so name None at h = h
  assigned_so name (Some value) at h =
      then 0 0 (puts o name value at) (with_status (set_status (o.set_by at.outside name value))) (puts_so name value at h) (λ at' k. k)

  assigns_so : (name : List ℕ) (rest : List Atom) (at : Standing C D) → At 0 at → After 0 (means.assigns o name rest at)
  assigns_so name rest at h =
      then 0 0 (granted at) (λ at'. means.assigns_value o name (assigned_value (values_at o at') at'.status name rest) at') (has_memory 0 at h)
      (λ at' k. assigned_so name (assigned_value (values_at o at') at'.status name rest) at' k)

  -- ---- commands

  sends_so : (text : List ℕ) (at : Standing C D) → At 0 at → After 0 (sends text at)
  sends_so text at h = then 0 0 (granted at) (λ at'. GoesOn (record at' { text = at'.text ++ text })) (has_memory 0 at h) (λ at' k. k)

  built_in_so : (kind : BuiltIn) (words : List (List ℕ)) (at : Standing C D) → At 0 at → After 0 (does_built_in kind words at)
  built_in_so built_in.Echo words at h = then 0 0 (sends (echo_text words) at) (with_status 0) (sends_so (echo_text words) at h) (λ at' k. k)
  built_in_so built_in.True words at h = h
  built_in_so built_in.False words at h = h
  built_in_so built_in.Test words at h = h
  built_in_so built_in.Brackets words at h = h

  replied_so : (answer : Reply) (at : Standing C D) → At 0 at → After 0 (replied answer at)
  replied_so (reply.Done status text) at h = then 0 0 (sends text at) (with_status status) (sends_so text at h) (λ at' k. k)
  replied_so (reply.Started text) at h = then 0 0 (sends text at) (λ at'. Stops stop.Started at') (sends_so text at h) (λ at' k. k)
  replied_so reply.Fault at h = h
  replied_so reply.NoMemory at h = h

  -- a command from outside is one more
  answered_so : (words : List (List ℕ)) (answers : List (Answer C D)) (at : Standing C D) → At 1 at → After 0 (answered words answers at)
  answered_so words [] at h = settled 1 at.count (length at.acts) h
  answered_so words (a ∷ later) at h =
      let act : Act C D = record { words = words; before = at.outside; on = at.device; answer = a } in
      replied_so a.reply
      (record at { outside = a.outside; device = a.device; answers = later; acts = at.acts ++ act ∷ [] })
      (called_once at.count (length at.acts) (length (at.acts ++ act ∷ [])) (length-append at.acts (act ∷ [])) h)

  outside_so : (name : List ℕ) (fields : List (List ℕ)) (at : Standing C D) → At 1 at → After 0 (does_outside o next_answer name fields at)
  outside_so name fields at h =
      one_of 0 (o.is_command name) (λ at'. answered fields at'.answers at') (with_status 127) at (answered_so fields at.answers at h)
      (settled 1 at.count (length at.acts) h)

  named_so : (built_in : Option BuiltIn) (name : List ℕ) (words : List (List ℕ)) (at : Standing C D) → At 1 at → After 0 (does_named o next_answer built_in name words at)
  named_so None name words at h = outside_so name (name ∷ words) at h
  named_so (Some kind) name words at h = built_in_so kind words at (settled 1 at.count (length at.acts) h)

  fields_so : (fields : List (List ℕ)) (at : Standing C D) → At 1 at → After 0 (does_fields o next_answer fields at)
  fields_so [] at h = settled 1 at.count (length at.acts) h
  fields_so (name ∷ words) at h = named_so (built_in_of name) name words at h

  expanded_so : (fields : Option (List (List ℕ))) (at : Standing C D) → At 1 at → After 0 (does_expanded o next_answer fields at)
  expanded_so None at h = settled 1 at.count (length at.acts) h
  expanded_so (Some fields) at h = fields_so fields at h

  calls_so : (words : List (List Atom)) (at : Standing C D) → At 1 at → After 0 (means.calls o next_answer words at)
  calls_so words at h =
      then 1 0 (granted at) (λ at'. does_expanded o next_answer (expansion_of (values_at o at') at'.status words) at') (has_memory 1 at h)
      (λ at' k. expanded_so (expansion_of (values_at o at') at'.status words) at' k)

  -- ---- the flow

  rounds_so : (name : List ℕ) (body : Meaning C D) → ((at : Standing C D) → At 0 at → After 0 (body at)) → (fields : List (List ℕ)) (at : Standing C D) → At 0 at
      → After 0 (rounds o name body fields at)
  rounds_so name body keeps [] at h = h
  rounds_so name body keeps (field ∷ later) at h =
      then 0 0 (counts_one at) (λ at1. followed (puts o name field at1) (λ at2. followed (body at2) (rounds o name body later))) (rests (counts_one at) (counted at h))
      (λ at1 h1.
      then 0 0 (puts o name field at1) (λ at2. followed (body at2) (rounds o name body later)) (puts_so name field at1 h1)
      (λ at2 h2. then 0 0 (body at2) (rounds o name body later) (keeps at2 h2) (λ at3 h3. rounds_so name body keeps later at3 h3)))

  looped_so : (name : List ℕ) (body : Meaning C D) → ((at : Standing C D) → At 0 at → After 0 (body at)) → (fields : Option (List (List ℕ))) (at : Standing C D) → At 0 at
      → After 0 (loops_over o name body fields at)
  looped_so name body keeps None at h = h
  looped_so name body keeps (Some []) at h = h
  looped_so name body keeps (Some (field ∷ later)) at h = rounds_so name body keeps (field ∷ later) at h

  loops_so : (name : List ℕ) (words : List (List Atom)) (body : Meaning C D) → ((at : Standing C D) → At 0 at → After 0 (body at)) → (at : Standing C D) → At 0 at
      → After 0 (means.loops o name words body at)
  loops_so name words body keeps at h =
      then 0 0 (granted at) (λ at'. loops_over o name body (expansion_of (values_at o at') at'.status words) at') (has_memory 0 at h)
      (λ at' k. looped_so name body keeps (expansion_of (values_at o at') at'.status words) at' k)

  due_so : (due : When) (command : Meaning C D) (at : Standing C D) → After 0 (command at) → At 0 at → After 0 (when_due due command at)
  due_so due command at k h = one_of 0 (is_due due at.status) command GoesOn at k h

  mutual
    steps_so : (script : ScriptTree) (at : Standing C D) → At 0 at → After 0 (means_steps o next_answer script at)
    steps_so no_steps at h = h
    steps_so (step due command later) at h =
        then 0 0 (when_due due (means_command o next_answer command) at) (means_steps o next_answer later)
        (due_so due (means_command o next_answer command) at (command_so command at h) h)
        (λ at' k. steps_so later at' k)

    command_so : (command : CommandTree) (at : Standing C D) → At 0 at → After 0 (means_command o next_answer command at)
    command_so (call words) at h = then 1 0 (counts_one at) (means.calls o next_answer words) (counted at h) (λ at' k. calls_so words at' k)
    command_so (set name rest) at h =
        then 0 0 (counts_one at) (means.assigns o name rest) (rests (counts_one at) (counted at h)) (λ at' k. assigns_so name rest at' k)
    command_so (choose choice) at h = choice_so choice at h
    command_so (repeat name words body) at h = loops_so name words (means_steps o next_answer body) (λ at' k. steps_so body at' k) at h

    choice_so : (choice : ChoiceTree) (at : Standing C D) → At 0 at → After 0 (means_choice o next_answer choice at)
    choice_so no_else at h = h
    choice_so (otherwise steps) at h = steps_so steps at h
    choice_so (branch test body later) at h =
        then 0 0 (means_steps o next_answer test at) (means.by_success (means_steps o next_answer body) (means_choice o next_answer later)) (steps_so test at h)
        (λ at' k. one_of 0 (at'.status == 0) (means_steps o next_answer body) (means_choice o next_answer later) at' (steps_so body at' k) (choice_so later at' k))

  -- ---- a whole script

  by_end : (end : ScriptEnd) (at : Standing C D) → After 0 (course_of end at) → length at.acts ≤ 10000
  by_end (ends.Done status) at h = omega (arith, h.room, h.most)
  by_end ends.Started at h = omega (arith, h.room, h.most)
  by_end ends.StepLimit at h = omega (arith, h.room, h.most)
  by_end ends.Fault at h = omega (arith, h.room, h.most)
  by_end ends.NoMemory at h = omega (arith, h.room, h.most)

  from_course : (script : ScriptTree) (old new : ScriptRun C) (from to : D) (end : ScriptEnd) (acts : List (Act C D)) (left leaves : Option ℕ) → HasRunNothing old
      → means_steps o next_answer script (standing_of old from [] (map act_answer acts ++ []) left) ≡ course_of end (standing_of new to acts [] leaves)
      → length acts ≤ 10000
  from_course script old new from to end acts left leaves fresh means =
      let count : old.count ≡ 0 = fresh.count in
      by_end end (standing_of new to acts [] leaves)
      (subst (After 0) means
      (steps_so script (standing_of old from [] (map act_answer acts ++ []) left) (record { room = omega (arith, count); most = omega (arith, count) })))

  -- of a run that did what it means
  pub few_acts : (gives : CallGives C D) (script : ScriptTree) (old new : ScriptRun C) (from to : D) (end : ScriptEnd) (ran : RanScript gives o script old new from to end)
      → HasRunNothing old → length ran.acts ≤ 10000
  few_acts gives script old new from to (ends.Done status) ran fresh = from_course script old new from to (ends.Done status) ran.acts None None fresh (ran.whole (λ p. cc) [])
  few_acts gives script old new from to ends.Started ran fresh = from_course script old new from to ends.Started ran.acts None None fresh (ran.whole (λ p. cc) [])
  few_acts gives script old new from to ends.StepLimit ran fresh = from_course script old new from to ends.StepLimit ran.acts None None fresh (ran.whole (λ p. cc) [])
  few_acts gives script old new from to ends.Fault ran fresh = from_course script old new from to ends.Fault ran.acts None None fresh (ran.whole (λ p. cc) [])
  few_acts gives script old new from to ends.NoMemory ran fresh =
      from_course script old new from to ends.NoMemory ran.acts (Some ran.asked) (Some 0) fresh (ran.front refl [])
