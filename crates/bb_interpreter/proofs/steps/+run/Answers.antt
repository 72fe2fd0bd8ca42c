use Rattle.std.proofs.Common.{rules, ◌+◌, true, false, ◌∷◌, map, drop, ap, arith, refl, sym, ◌∙◌}
use Rattle.std.proofs.lemmas.Result.{err_from_is_err_and}
use Rattle.bb_script.specs.declared.script.Choice.{out-Choice}
use Rattle.bb_script.specs.declared.script.ForLoop.{out-ForLoop}
use Rattle.bb_script.specs.declared.script.ScriptBranch.{out-ScriptBranch}
use Rattle.bb_script.specs.declared.script.When.{When}
use Rattle.bb_script.specs.Tree.{CommandTree, ScriptTree, choice_tree, steps_tree}
use Rattle.bb_script.specs.Fields.{expansion_of}
use Rattle.bb_script.specs.Words.{word_atoms}
use Rattle.std.specs.Option.{option_map}
use Rattle.bb_script.specs.Views.{branch_pair, command_tree, otherwise_tree, script_tree, step_pair}
use Rattle.bb_interpreter.specs.Means.{is_due, loops, means_choice, means_command, means_steps, rounds, next_answer}
use Rattle.bb_interpreter.specs.Runs.{LeftAt, script_values}
use Rattle.bb_interpreter.specs.Standing.{GoesOn, Stops, with_status}
use Rattle.bb_interpreter.proofs.Flow.{after_body, after_count, after_put, after_step, after_test, by_zero, skipped, was_due}
use Rattle.bb_interpreter.proofs.Joins.{Whatever, leads_from, leads_on, leads_same, leads_so}
use Rattle.bb_interpreter.proofs.Opened.{branch_out, choice_out, else_seen, loop_out, next, next_item, nothing_left, nothing_seen, script_out, step_out}
use Rattle.bb_interpreter.proofs.SimpleLemmas.{loop_starved, looped_none, looped_over, looped_over_none, with_new_status}
use Rattle.bb_interpreter.proofs.steps.+run.Goals as goal

pub run_steps-loop-step-init : goal.run_steps-loop-step-init
run_steps-loop-step-init g t c = record {
  leads =
      leads_same g.C.Commands.call_gives _ _ c.args.run.now _
      (ap (means_steps g.C.Commands.outside next_answer) (script_out c.args.script.now ∙ ap (λ l. steps_tree (map step_pair l)) (sym c.deref-step-items.ensures.value)));
  ready = c.requires;
}

pub run_steps-loop-step-preserved : goal.run_steps-loop-step-preserved
run_steps-loop-step-preserved g t c =
    let items = c.deref-step-items.result.now in
    record {
      leads =
          after_step g.C.Commands.call_gives g.C.Commands.outside Whatever _ GoesOn (step_pair c.step-item.result) _ (map step_pair (drop (c.loop-step.step-index + 1) items)) _ _ _ _ _ _
          (next step_pair items c.loop-step.step-index c.step-item.result c.loop-step-test.true c.step-item.is)
          c.loop-step.invariant.leads c.in_ok-run_step.ensures.leads;
      ready = c.in_ok-run_step.ensures.ready;
    }

pub run_steps-returns-in_err-run_step-clause-leads : goal.run_steps-returns-in_err-run_step-clause-leads
run_steps-returns-in_err-run_step-clause-leads g t c =
    let items = c.deref-step-items.result.now in
    let p = err_from_is_err_and c.from_residual.result c.from_residual.ensures.1 in
    rw (p.1, p.2)
    (after_step g.C.Commands.call_gives g.C.Commands.outside (LeftAt c.in_err-run_step.field-0.0) _ (λ at. Stops c.in_err-run_step.field-0.0 at) (step_pair c.step-item.result) _ (map step_pair (drop (c.loop-step.step-index + 1) items)) _ _ _ _ _ _
    (next step_pair items c.loop-step.step-index c.step-item.result c.loop-step-test.true c.step-item.is)
    c.loop-step.invariant.leads c.in_err-run_step.ensures.leads)

pub run_step-returns-then-not-is_due-clause-leads : goal.run_step-returns-then-not-is_due-clause-leads
run_step-returns-then-not-is_due-clause-leads g t c =
    let seen = step_pair c.args.step.now in
    let due = ap (λ (s : When × CommandTree). is_due s.0 c.args.run.now.status) (step_out c.args.step.now) in
    skipped g.C.Commands.call_gives seen.0 (means_command g.C.Commands.outside next_answer seen.1) c.args.run.now _ (due ∙ sym c.is_due.ensures ∙ c.if-not-is_due.true)

pub run_step-returns-clause-leads : goal.run_step-returns-clause-leads
run_step-returns-clause-leads g t c =
    let seen = step_pair c.args.step.now in
    let due = ap (λ (s : When × CommandTree). is_due s.0 c.args.run.now.status) (step_out c.args.step.now) in
    was_due g.C.Commands.call_gives _ seen.0 (means_command g.C.Commands.outside next_answer seen.1) _ c.args.run.now _ _ _ (due ∙ sym c.is_due.ensures ∙ c.if-not-is_due.false)
    (leads_from g.C.Commands.call_gives _ _ (means_command g.C.Commands.outside next_answer (command_tree c.args.step.now.command)) _ _ _ _ _ (ap (λ (s : When × CommandTree). means_command g.C.Commands.outside next_answer s.1) (step_out c.args.step.now)) c.run_command.ensures.leads)

pub run_choice-loop-branch-init : goal.run_choice-loop-branch-init
run_choice-loop-branch-init g t c =
    let other = otherwise_tree (out-Choice c.args.choice.now).other in
    record {
      leads =
          leads_same g.C.Commands.call_gives _ _ c.args.run.now _
          (ap (means_choice g.C.Commands.outside next_answer) (choice_out c.args.choice.now ∙ ap (λ l. choice_tree (map branch_pair l) other) (sym c.deref-branch-items.ensures.value)));
      ready = c.requires;
    }

pub run_choice-loop-branch-preserved : goal.run_choice-loop-branch-preserved
run_choice-loop-branch-preserved g t c =
    let items = c.deref-branch-items.result.now in
    let item = c.branch-item.result in
    let other = otherwise_tree (out-Choice c.args.choice.now).other in
    let later = map branch_pair (drop (c.loop-branch.branch-index + 1) items) in
    record {
      leads =
          by_zero g.C.Commands.call_gives (means_steps g.C.Commands.outside next_answer (branch_pair item).1) (means_choice g.C.Commands.outside next_answer (choice_tree later other)) _ _ _ _ _ false (search (rules, c.if-run-eq0.false))
          (after_test g.C.Commands.call_gives g.C.Commands.outside Whatever _ GoesOn (branch_pair item) _ later other _ _ _ _ _ _ (next branch_pair items c.loop-branch.branch-index item c.loop-branch-test.true c.branch-item.is)
          c.loop-branch.invariant.leads
          (leads_from g.C.Commands.call_gives _ _ (means_steps g.C.Commands.outside next_answer (script_tree (out-ScriptBranch item).test)) _ _ _ _ _ (ap (λ (b : ScriptTree × ScriptTree). means_steps g.C.Commands.outside next_answer b.0) (branch_out item)) c.in_ok-run_steps.ensures.leads));
      ready = c.in_ok-run_steps.ensures.ready;
    }

pub run_choice-returns-in_err-run_steps-clause-leads : goal.run_choice-returns-in_err-run_steps-clause-leads
run_choice-returns-in_err-run_steps-clause-leads g t c =
    let items = c.deref-branch-items.result.now in
    let item = c.branch-item.result in
    let other = otherwise_tree (out-Choice c.args.choice.now).other in
    let later = map branch_pair (drop (c.loop-branch.branch-index + 1) items) in
    let p = err_from_is_err_and c.from_residual.result c.from_residual.ensures.1 in
    rw (p.1, p.2)
    (after_test g.C.Commands.call_gives g.C.Commands.outside (LeftAt c.in_err-run_steps.field-0.0) _ (λ at. Stops c.in_err-run_steps.field-0.0 at) (branch_pair item) _ later other _ _ _ _ _ _ (next branch_pair items c.loop-branch.branch-index item c.loop-branch-test.true c.branch-item.is)
    c.loop-branch.invariant.leads
    (leads_from g.C.Commands.call_gives _ _ (means_steps g.C.Commands.outside next_answer (script_tree (out-ScriptBranch item).test)) _ _ _ _ _ (ap (λ (b : ScriptTree × ScriptTree). means_steps g.C.Commands.outside next_answer b.0) (branch_out item)) c.in_err-run_steps.ensures.leads))

pub run_choice-returns-then-run-eq0-clause-leads : goal.run_choice-returns-then-run-eq0-clause-leads
run_choice-returns-then-run-eq0-clause-leads g t c =
    let items = c.deref-branch-items.result.now in
    let item = c.branch-item.result in
    let other = otherwise_tree (out-Choice c.args.choice.now).other in
    let later = map branch_pair (drop (c.loop-branch.branch-index + 1) items) in
    leads_on g.C.Commands.call_gives _ _ (means_steps g.C.Commands.outside next_answer (branch_pair item).1) _ _ _ _ _ _ _
    (by_zero g.C.Commands.call_gives (means_steps g.C.Commands.outside next_answer (branch_pair item).1) (means_choice g.C.Commands.outside next_answer (choice_tree later other)) _ _ _ _ _ true (search (rules, c.if-run-eq0.true))
    (after_test g.C.Commands.call_gives g.C.Commands.outside Whatever _ GoesOn (branch_pair item) _ later other _ _ _ _ _ _ (next branch_pair items c.loop-branch.branch-index item c.loop-branch-test.true c.branch-item.is)
    c.loop-branch.invariant.leads
    (leads_from g.C.Commands.call_gives _ _ (means_steps g.C.Commands.outside next_answer (script_tree (out-ScriptBranch item).test)) _ _ _ _ _ (ap (λ (b : ScriptTree × ScriptTree). means_steps g.C.Commands.outside next_answer b.0) (branch_out item)) c.in_ok-run_steps.ensures.leads)))
    (leads_from g.C.Commands.call_gives _ _ (means_steps g.C.Commands.outside next_answer (script_tree (out-ScriptBranch item).body)) _ _ _ _ _ (ap (λ (b : ScriptTree × ScriptTree). means_steps g.C.Commands.outside next_answer b.1) (branch_out item)) c.run_steps-then-run-eq0.ensures.leads)

pub run_choice-returns-in-Else-clause-leads : goal.run_choice-returns-in-Else-clause-leads
run_choice-returns-in-Else-clause-leads g t c =
    let other = otherwise_tree (out-Choice c.args.choice.now).other in
    let left = ap (λ l. means_choice g.C.Commands.outside next_answer (choice_tree (map branch_pair l) other)) (nothing_left c.deref-branch-items.result.now c.loop-branch.branch-index c.loop-branch-test.false) in
    leads_on g.C.Commands.call_gives _ _ _ _ _ _ _ _ _ _ c.loop-branch.invariant.leads
    (leads_from g.C.Commands.call_gives _ _ (means_steps g.C.Commands.outside next_answer (script_tree c.in-Else.steps)) _ _ _ _ _ (left ∙ ap (means_choice g.C.Commands.outside next_answer) (else_seen (out-Choice c.args.choice.now).other c.in-Else.steps c.in-Else.is)) c.run_steps-in-Else.ensures.leads)

pub run_choice-returns-in-Nothing-clause-leads : goal.run_choice-returns-in-Nothing-clause-leads
run_choice-returns-in-Nothing-clause-leads g t c =
    let other = otherwise_tree (out-Choice c.args.choice.now).other in
    let left = ap (λ l. means_choice g.C.Commands.outside next_answer (choice_tree (map branch_pair l) other)) (nothing_left c.deref-branch-items.result.now c.loop-branch.branch-index c.loop-branch-test.false) in
    leads_on g.C.Commands.call_gives _ _ _ _ _ c.loop-branch.run _ _ _ _ c.loop-branch.invariant.leads
    (leads_from g.C.Commands.call_gives _ _ (with_status 0) _ _ _ _ _ (left ∙ ap (means_choice g.C.Commands.outside next_answer) (nothing_seen (out-Choice c.args.choice.now).other c.in-Nothing.is)) (leads_so g.C.Commands.call_gives _ (with_status 0) GoesOn c.loop-branch.run _ _ (λ before later left' is. refl)))

pub run_rounds-loop-field-init : goal.run_rounds-loop-field-init
run_rounds-loop-field-init g t c = record {
  leads = leads_same g.C.Commands.call_gives _ _ c.args.run.now _ refl;
  ready = c.requires;
}

pub run_rounds-loop-field-preserved : goal.run_rounds-loop-field-preserved
run_rounds-loop-field-preserved g t c =
    let name = c.args.name.now in
    let body = means_steps g.C.Commands.outside next_answer (script_tree c.args.body.now) in
    let field = c.as_slice.result.now in
    let later = drop (c.loop-field.field-index + 1) c.args.fields.now in
    record {
      leads =
          after_body g.C.Commands.call_gives g.C.Commands.outside Whatever _ GoesOn name body later _ c.put.new.run _ _ _ _
          (after_put g.C.Commands.call_gives g.C.Commands.outside Whatever _ GoesOn name body field later _ c.count.new.run c.put.new.run _ _ _
          (after_count g.C.Commands.call_gives g.C.Commands.outside Whatever _ GoesOn name body field _ later _ _ c.count.new.run _ _ _ (next_item c.args.fields.now c.loop-field.field-index c.field-item.result c.loop-field-test.true c.field-item.is ∙ ap (λ f. f ∷ later) (sym c.as_slice.ensures))
          c.loop-field.invariant.leads (c.in_ok-count.ensures.leads _))
          (c.in_ok-put.ensures.leads _))
          c.in_ok-run_steps.ensures.leads;
      ready = c.in_ok-run_steps.ensures.ready;
    }

pub run_rounds-returns-in_err-count-clause-leads : goal.run_rounds-returns-in_err-count-clause-leads
run_rounds-returns-in_err-count-clause-leads g t c =
    let name = c.args.name.now in
    let body = means_steps g.C.Commands.outside next_answer (script_tree c.args.body.now) in
    let field = c.field-item.result in
    let later = drop (c.loop-field.field-index + 1) c.args.fields.now in
    let e = c.in_err-count.field-0.0 in
    let p = err_from_is_err_and c.from_residual.result c.from_residual.ensures.1 in
    rw (p.1, p.2)
    (after_count g.C.Commands.call_gives g.C.Commands.outside (LeftAt e) _ (λ at. Stops e at) name body field _ later _ _ c.count.new.run _ _ _ (next_item c.args.fields.now c.loop-field.field-index field c.loop-field-test.true c.field-item.is)
    c.loop-field.invariant.leads (c.in_err-count.ensures.leads _))

pub run_rounds-returns-in_err-put-clause-leads : goal.run_rounds-returns-in_err-put-clause-leads
run_rounds-returns-in_err-put-clause-leads g t c =
    let name = c.args.name.now in
    let body = means_steps g.C.Commands.outside next_answer (script_tree c.args.body.now) in
    let field = c.as_slice.result.now in
    let later = drop (c.loop-field.field-index + 1) c.args.fields.now in
    let e = c.in_err-put.field-0.0 in
    let p = err_from_is_err_and c.from_residual-in_err-put.result c.from_residual-in_err-put.ensures.1 in
    rw (p.1, p.2)
    (after_put g.C.Commands.call_gives g.C.Commands.outside (LeftAt e) _ (λ at. Stops e at) name body field later _ c.count.new.run c.put.new.run _ _ _
    (after_count g.C.Commands.call_gives g.C.Commands.outside Whatever _ GoesOn name body field _ later _ _ c.count.new.run _ _ _ (next_item c.args.fields.now c.loop-field.field-index c.field-item.result c.loop-field-test.true c.field-item.is ∙ ap (λ f. f ∷ later) (sym c.as_slice.ensures))
    c.loop-field.invariant.leads (c.in_ok-count.ensures.leads _))
    (c.in_err-put.ensures.leads _))

pub run_rounds-returns-in_err-run_steps-clause-leads : goal.run_rounds-returns-in_err-run_steps-clause-leads
run_rounds-returns-in_err-run_steps-clause-leads g t c =
    let name = c.args.name.now in
    let body = means_steps g.C.Commands.outside next_answer (script_tree c.args.body.now) in
    let field = c.as_slice.result.now in
    let later = drop (c.loop-field.field-index + 1) c.args.fields.now in
    let e = c.in_err-run_steps.field-0.0 in
    let p = err_from_is_err_and c.from_residual-in_err-run_steps.result c.from_residual-in_err-run_steps.ensures.1 in
    rw (p.1, p.2)
    (after_body g.C.Commands.call_gives g.C.Commands.outside (LeftAt e) _ (λ at. Stops e at) name body later _ c.put.new.run _ _ _ _
    (after_put g.C.Commands.call_gives g.C.Commands.outside Whatever _ GoesOn name body field later _ c.count.new.run c.put.new.run _ _ _
    (after_count g.C.Commands.call_gives g.C.Commands.outside Whatever _ GoesOn name body field _ later _ _ c.count.new.run _ _ _ (next_item c.args.fields.now c.loop-field.field-index c.field-item.result c.loop-field-test.true c.field-item.is ∙ ap (λ f. f ∷ later) (sym c.as_slice.ensures))
    c.loop-field.invariant.leads (c.in_ok-count.ensures.leads _))
    (c.in_ok-put.ensures.leads _))
    c.in_err-run_steps.ensures.leads)

pub run_loop-returns-in_err-fields-clause-leads : goal.run_loop-returns-in_err-fields-clause-leads
run_loop-returns-in_err-fields-clause-leads g t c =
    let d = c.args.device.now in
    let l = out-ForLoop c.args.for_loop.now in
    let body = means_steps g.C.Commands.outside next_answer (script_tree l.body) in
    let words = map word_atoms l.words.items in
    let p = err_from_is_err_and c.from_residual.result c.from_residual.ensures.1 in
    rw (p.1, p.2 ∙ c.in_err-fields.ensures.memory)
    (leads_from g.C.Commands.call_gives _ _ (loops g.C.Commands.outside l.name.items words body) _ c.args.run.now c.args.run.now d d
    (ap (means_command g.C.Commands.outside next_answer) (loop_out c.args.for_loop.now))
    (loop_starved g.C.Commands.call_gives g.C.Commands.outside l.name.items words body c.args.run.now d))

pub run_loop-returns-in-None-clause-leads : goal.run_loop-returns-in-None-clause-leads
run_loop-returns-in-None-clause-leads g t c =
    let d = c.args.device.now in
    let l = out-ForLoop c.args.for_loop.now in
    let body = means_steps g.C.Commands.outside next_answer (script_tree l.body) in
    let words = map word_atoms l.words.items in
    leads_from g.C.Commands.call_gives _ _ (loops g.C.Commands.outside l.name.items words body) _ c.args.run.now (with_new_status c.args.run.now 1) d d
    (ap (means_command g.C.Commands.outside next_answer) (loop_out c.args.for_loop.now))
    (looped_none g.C.Commands.call_gives g.C.Commands.outside l.name.items words body c.args.run.now d
    (ap (λ ws. expansion_of (script_values g.C.Commands.outside c.args.run.now) c.args.run.now.status (map word_atoms ws)) (sym c.as_slice.ensures.value) ∙ sym c.in_ok-fields.ensures.fields ∙ ap (option_map (λ f. f.items)) c.in-None.is))

pub run_loop-returns-then-is_empty-clause-leads : goal.run_loop-returns-then-is_empty-clause-leads
run_loop-returns-then-is_empty-clause-leads g t c =
    let d = c.args.device.now in
    let l = out-ForLoop c.args.for_loop.now in
    let body = means_steps g.C.Commands.outside next_answer (script_tree l.body) in
    let words = map word_atoms l.words.items in
    leads_from g.C.Commands.call_gives _ _ (loops g.C.Commands.outside l.name.items words body) _ c.args.run.now (with_new_status c.args.run.now 0) d d
    (ap (means_command g.C.Commands.outside next_answer) (loop_out c.args.for_loop.now))
    (looped_over_none g.C.Commands.call_gives g.C.Commands.outside l.name.items words c.in-Some.fields.items body c.args.run.now d
    (ap (λ ws. expansion_of (script_values g.C.Commands.outside c.args.run.now) c.args.run.now.status (map word_atoms ws)) (sym c.as_slice.ensures.value) ∙ sym c.in_ok-fields.ensures.fields ∙ ap (option_map (λ f. f.items)) c.in-Some.is)
    (grind (arith, c.is_empty.ensures, c.if-is_empty.true)))

pub run_loop-returns-else-is_empty-clause-leads : goal.run_loop-returns-else-is_empty-clause-leads
run_loop-returns-else-is_empty-clause-leads g t c =
    let d = c.args.device.now in
    let l = out-ForLoop c.args.for_loop.now in
    let body = means_steps g.C.Commands.outside next_answer (script_tree l.body) in
    let words = map word_atoms l.words.items in
    leads_from g.C.Commands.call_gives _ _ (loops g.C.Commands.outside l.name.items words body) _ c.args.run.now c.run_rounds.new.run d c.run_rounds.new.device
    (ap (means_command g.C.Commands.outside next_answer) (loop_out c.args.for_loop.now))
    (looped_over g.C.Commands.call_gives g.C.Commands.outside _ _ l.name.items words c.in-Some.fields.items body c.args.run.now c.run_rounds.new.run d c.run_rounds.new.device
    (ap (λ ws. expansion_of (script_values g.C.Commands.outside c.args.run.now) c.args.run.now.status (map word_atoms ws)) (sym c.as_slice.ensures.value) ∙ sym c.in_ok-fields.ensures.fields ∙ ap (option_map (λ f. f.items)) c.in-Some.is)
    (grind (arith, c.is_empty.ensures, c.if-is_empty.false))
    (leads_from g.C.Commands.call_gives _ (rounds g.C.Commands.outside l.name.items body c.in-Some.fields.items) (rounds g.C.Commands.outside c.as_slice-name.result.now body c.as_slice-in-Some.result.now) _ c.args.run.now c.run_rounds.new.run d c.run_rounds.new.device
    (ap (λ n. rounds g.C.Commands.outside n body c.in-Some.fields.items) (sym c.as_slice-name.ensures.value) ∙ ap (λ fs. rounds g.C.Commands.outside c.as_slice-name.result.now body fs) (sym c.as_slice-in-Some.ensures.value))
    c.run_rounds.ensures.leads))
