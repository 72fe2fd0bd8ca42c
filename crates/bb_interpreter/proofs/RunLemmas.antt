-- A whole run, by what its steps did.
use Rattle.std.proofs.Common.{◌≡◌, ℕ, ◌+◌, List, [], ◌++◌, map, Option, Some, None, ap, arith, refl, ◌∙◌}
use Rattle.bb_script.specs.Tree.{ScriptTree}
use Rattle.bb_interpreter.specs.declared.run.ScriptEnd.TheVariants as ends
use Rattle.bb_interpreter.specs.declared.run.ScriptRun.{ScriptRun}
use Rattle.bb_interpreter.specs.declared.stop.ScriptStop.TheVariants as stop
use Rattle.bb_interpreter.specs.Means.{means_steps, next_answer}
use Rattle.bb_interpreter.specs.Outside.{Outside}
use Rattle.bb_interpreter.specs.Standing.{Answer, GoesOn, Meaning, Stops}
use Rattle.bb_interpreter.specs.Runs.{CallGives, RanScript, LeftAt, Leads, act_answer, standing_of}
use Rattle.bb_interpreter.proofs.Joins.{Whatever}

whole_by : {C D : Type 0} (gives : CallGives C D) (LeavesMemory : Option ℕ → Type 0) (one two : Meaning C D)
    (old new : ScriptRun C) (from to : D) (leads : Leads gives LeavesMemory one two old new from to)
    → LeavesMemory None → (later : List (Answer C D))
    → one (standing_of old from [] (map act_answer leads.acts ++ later) None) ≡ two (standing_of new to leads.acts later None)
whole_by gives LeavesMemory one two old new from to leads left later = leads.does [] later None left

front_by : {C D : Type 0} (gives : CallGives C D) (LeavesMemory : Option ℕ → Type 0) (one two : Meaning C D)
    (old new : ScriptRun C) (from to : D) (leads : Leads gives LeavesMemory one two old new from to)
    → LeavesMemory (Some 0) → (later : List (Answer C D))
    → one (standing_of old from [] (map act_answer leads.acts ++ later) (Some leads.asked)) ≡ two (standing_of new to leads.acts later (Some 0))
front_by gives LeavesMemory one two old new from to leads left later =
    let e : leads.asked ≡ leads.asked + 0 = omega arith in
    ap (λ n. one (standing_of old from [] (map act_answer leads.acts ++ later) (Some n))) e
    ∙ leads.does [] later (Some 0) left

pub run_done : {C D : Type 0} (gives : CallGives C D) (o : Outside C) (script : ScriptTree) (old new : ScriptRun C) (from to : D)
    → Leads gives Whatever (means_steps o next_answer script) GoesOn old new from to
    → RanScript gives o script old new from to (ends.Done new.status)
run_done gives o script old new from to leads = record {
  acts = leads.acts;
  called = leads.called;
  asked = leads.asked;
  whole = λ not_memory. whole_by gives Whatever (means_steps o next_answer script) GoesOn old new from to leads tt;
  front = λ memory. absurd (cc);
}

pub run_started : {C D : Type 0} (gives : CallGives C D) (o : Outside C) (script : ScriptTree) (old new : ScriptRun C) (from to : D)
    → Leads gives (LeftAt stop.Started) (means_steps o next_answer script) (λ at. Stops stop.Started at) old new from to
    → RanScript gives o script old new from to ends.Started
run_started gives o script old new from to leads = record {
  acts = leads.acts;
  called = leads.called;
  asked = leads.asked;
  whole = λ not_memory. whole_by gives (LeftAt stop.Started) (means_steps o next_answer script) (λ at. Stops stop.Started at) old new from to leads tt;
  front = λ memory. absurd (cc);
}

pub run_limited : {C D : Type 0} (gives : CallGives C D) (o : Outside C) (script : ScriptTree) (old new : ScriptRun C) (from to : D)
    → Leads gives (LeftAt stop.StepLimit) (means_steps o next_answer script) (λ at. Stops stop.StepLimit at) old new from to
    → RanScript gives o script old new from to ends.StepLimit
run_limited gives o script old new from to leads = record {
  acts = leads.acts;
  called = leads.called;
  asked = leads.asked;
  whole = λ not_memory. whole_by gives (LeftAt stop.StepLimit) (means_steps o next_answer script) (λ at. Stops stop.StepLimit at) old new from to leads tt;
  front = λ memory. absurd (cc);
}

pub run_faulted : {C D : Type 0} (gives : CallGives C D) (o : Outside C) (script : ScriptTree) (old new : ScriptRun C) (from to : D)
    → Leads gives (LeftAt stop.Fault) (means_steps o next_answer script) (λ at. Stops stop.Fault at) old new from to
    → RanScript gives o script old new from to ends.Fault
run_faulted gives o script old new from to leads = record {
  acts = leads.acts;
  called = leads.called;
  asked = leads.asked;
  whole = λ not_memory. whole_by gives (LeftAt stop.Fault) (means_steps o next_answer script) (λ at. Stops stop.Fault at) old new from to leads tt;
  front = λ memory. absurd (cc);
}

pub run_starved : {C D : Type 0} (gives : CallGives C D) (o : Outside C) (script : ScriptTree) (old new : ScriptRun C) (from to : D)
    → Leads gives (LeftAt stop.NoMemory) (means_steps o next_answer script) (λ at. Stops stop.NoMemory at) old new from to
    → RanScript gives o script old new from to ends.NoMemory
run_starved gives o script old new from to leads = record {
  acts = leads.acts;
  called = leads.called;
  asked = leads.asked;
  whole = λ not_memory. absurd (not_memory refl);
  front = λ memory. front_by gives (LeftAt stop.NoMemory) (means_steps o next_answer script) (λ at. Stops stop.NoMemory at) old new from to leads refl;
}
