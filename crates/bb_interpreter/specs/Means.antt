-- What a script does: one case for each construct of the language (IEEE Std 1003.1-2017, Shell
-- Command Language, 2.8.2 Exit Status for Commands, 2.9.1 Simple Commands, 2.9.3 Lists and 2.9.4
-- Compound Commands).
use Rattle.std.specs.Prelude.{ℕ, ◌==◌, Bool, true, not, List, [], ◌∷◌, ◌++◌, codes, Option, Some, None, if◌then◌else◌}
use Rattle.std.specs.Str.{bytes_eq}
use Rattle.bb_script.specs.declared.script.When.{When}
use Rattle.bb_script.specs.declared.script.When.TheVariants.{Always, OnSuccess, OnFailure}
use Rattle.bb_script.specs.Fields.{expansion_of}
use Rattle.bb_script.specs.Tree.{ScriptTree, CommandTree, ChoiceTree, no_steps, step, call, set, choose, repeat, no_else, otherwise, branch}
use Rattle.bb_interpreter.specs.Assigned.{assigned_value}
use Rattle.bb_script.specs.Words.{Atom}
use Rattle.bb_interpreter.specs.declared.built_in.BuiltIn.{BuiltIn}
use Rattle.bb_interpreter.specs.declared.built_in.BuiltIn.TheVariants as built_in
use Rattle.bb_interpreter.specs.declared.commands.Reply.{Reply}
use Rattle.bb_interpreter.specs.declared.commands.Reply.TheVariants as reply
use Rattle.bb_interpreter.specs.declared.stop.ScriptStop.TheVariants as stop
use Rattle.bb_interpreter.specs.Echo.{echo_text}
use Rattle.bb_interpreter.specs.Outside.{Outside, set_status, known_value}
use Rattle.bb_interpreter.specs.Standing.{Answer, Asks, Standing, GoesOn, Stops, Meaning, counts_one, either, followed, granted, with_status}
use Rattle.bb_interpreter.specs.Test.{brackets_status, test_status}
use Rattle.bb_interpreter.specs.Variables.{own_set}

-- ---- variables

-- the values of variables where a run stands
abbrev pub values_at : {C D : Type 0} → Outside C → Standing C D → List ℕ → List ℕ
values_at o at = known_value o at.outside at.own

-- after a variable is set; one from outside that refuses its value keeps its own
abbrev pub put_by : {C D : Type 0} → List ℕ → List ℕ → Option (Option C) → Standing C D → Standing C D
put_by name value None at = record at { own = own_set at.own name value }
put_by name value (Some None) at = at
put_by name value (Some (Some after)) at = record at { outside = after }

abbrev pub puts : {C D : Type 0} → Outside C → List ℕ → List ℕ → Meaning C D
puts o name value at =
    followed (granted at) (λ at'. GoesOn (put_by name value (o.set_by at'.outside name value) at'))

-- an assignment, by the value that its word expands to
abbrev pub assigns_value : {C D : Type 0} → Outside C → List ℕ → Option (List ℕ) → Meaning C D
assigns_value o name None at = with_status 1 at
assigns_value o name (Some value) at =
    followed (puts o name value at) (with_status (set_status (o.set_by at.outside name value)))

abbrev pub assigns : {C D : Type 0} → Outside C → List ℕ → List Atom → Meaning C D
assigns o name rest at =
    followed (granted at)
    (λ at'. assigns_value o name (assigned_value (values_at o at') at'.status name rest) at')

-- ---- commands

abbrev pub sends : {C D : Type 0} → List ℕ → Meaning C D
sends text at = followed (granted at) (λ at'. GoesOn (record at' { text = at'.text ++ text }))

abbrev pub built_in_of : List ℕ → Option BuiltIn
built_in_of name =
    if bytes_eq name (codes "echo") then Some built_in.Echo else (
    if bytes_eq name (codes "true") then Some built_in.True else (
    if bytes_eq name (codes "false") then Some built_in.False else (
    if bytes_eq name (codes "test") then Some built_in.Test else (
    if bytes_eq name (codes "[") then Some built_in.Brackets else None))))

abbrev pub does_built_in : {C D : Type 0} → BuiltIn → List (List ℕ) → Meaning C D
does_built_in built_in.Echo words at = followed (sends (echo_text words) at) (with_status 0)
does_built_in built_in.True words at = with_status 0 at
does_built_in built_in.False words at = with_status 1 at
does_built_in built_in.Test words at = with_status (test_status words) at
does_built_in built_in.Brackets words at = with_status (brackets_status words) at

-- after a command from outside, by its reply
abbrev pub replied : {C D : Type 0} → Reply → Meaning C D
replied (reply.Done status text) at = followed (sends text at) (with_status status)
replied (reply.Started text) at = followed (sends text at) (λ at'. Stops stop.Started at')
replied reply.Fault at = Stops stop.Fault at
replied reply.NoMemory at = Stops stop.NoMemory at

-- a command from outside is called, by the answers that are still to come
abbrev pub answered : {C D : Type 0} → List (List ℕ) → List (Answer C D) → Meaning C D
answered words [] at = GoesOn at
answered words (a ∷ later) at =
    replied a.reply (record at {
      outside = a.outside;
      device = a.device;
      answers = later;
      acts = at.acts ++ (record { words = words; before = at.outside; on = at.device; answer = a }) ∷ [];
    })

-- by the next of them
abbrev pub next_answer : {C D : Type 0} → Asks C D
next_answer words at = answered words at.answers at

-- the outside may have no command of this name
abbrev pub does_outside : {C D : Type 0} → Outside C → Asks C D → List ℕ → List (List ℕ) → Meaning C D
does_outside o asks name fields at =
    either (o.is_command name) (asks fields) (with_status 127) at

abbrev pub does_named : {C D : Type 0} → Outside C → Asks C D → Option BuiltIn → List ℕ → List (List ℕ) → Meaning C D
does_named o asks None name words at = does_outside o asks name (name ∷ words) at
does_named o asks (Some built_in) name words at = does_built_in built_in words at

abbrev pub does_fields : {C D : Type 0} → Outside C → Asks C D → List (List ℕ) → Meaning C D
does_fields o asks [] at = with_status 0 at
does_fields o asks (name ∷ words) at = does_named o asks (built_in_of name) name words at

abbrev pub does_expanded : {C D : Type 0} → Outside C → Asks C D → Option (List (List ℕ)) → Meaning C D
does_expanded o asks None at = with_status 1 at
does_expanded o asks (Some fields) at = does_fields o asks fields at

abbrev pub calls : {C D : Type 0} → Outside C → Asks C D → List (List Atom) → Meaning C D
calls o asks words at =
    followed (granted at)
    (λ at'. does_expanded o asks (expansion_of (values_at o at') at'.status words) at')

-- ---- the flow

-- whether a step is due by the last status
abbrev pub is_due : When → ℕ → Bool
is_due Always status = true
is_due OnSuccess status = status == 0
is_due OnFailure status = not (status == 0)

abbrev pub when_due : {C D : Type 0} → When → Meaning C D → Meaning C D
when_due due command at = either (is_due due at.status) command GoesOn at

abbrev pub by_success : {C D : Type 0} → Meaning C D → Meaning C D → Meaning C D
by_success one two at = either (at.status == 0) one two at

-- the rounds of a `for`
abbrev pub rounds : {C D : Type 0} → Outside C → List ℕ → Meaning C D → List (List ℕ) → Meaning C D
rounds o name body [] at = GoesOn at
rounds o name body (field ∷ later) at =
    followed (counts_one at) (λ at1.
    followed (puts o name field at1) (λ at2.
    followed (body at2) (rounds o name body later)))

abbrev pub loops_over : {C D : Type 0} → Outside C → List ℕ → Meaning C D → Option (List (List ℕ)) → Meaning C D
loops_over o name body None at = with_status 1 at
loops_over o name body (Some []) at = with_status 0 at
loops_over o name body (Some (field ∷ later)) at = rounds o name body (field ∷ later) at

abbrev pub loops : {C D : Type 0} → Outside C → List ℕ → List (List Atom) → Meaning C D → Meaning C D
loops o name words body at =
    followed (granted at)
    (λ at'. loops_over o name body (expansion_of (values_at o at') at'.status words) at')

abbrev mutual
  pub means_steps : {C D : Type 0} → Outside C → Asks C D → ScriptTree → Meaning C D
  means_steps o asks no_steps at = GoesOn at
  means_steps o asks (step due command later) at =
      followed (when_due due (means_command o asks command) at) (means_steps o asks later)

  pub means_command : {C D : Type 0} → Outside C → Asks C D → CommandTree → Meaning C D
  means_command o asks (call words) at = followed (counts_one at) (calls o asks words)
  means_command o asks (set name rest) at = followed (counts_one at) (assigns o name rest)
  means_command o asks (choose choice) at = means_choice o asks choice at
  means_command o asks (repeat name words body) at = loops o name words (means_steps o asks body) at

  pub means_choice : {C D : Type 0} → Outside C → Asks C D → ChoiceTree → Meaning C D
  means_choice o asks no_else at = with_status 0 at
  means_choice o asks (otherwise steps) at = means_steps o asks steps at
  means_choice o asks (branch test body later) at =
      followed (means_steps o asks test at) (by_success (means_steps o asks body) (means_choice o asks later))
