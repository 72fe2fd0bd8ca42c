use Rattle.std.proofs.Common.{drop, map}
use Rattle.bb_script.specs.declared.script.Choice.{out-Choice}
use Rattle.bb_script.specs.Tree.{choice_tree, steps_tree}
use Rattle.bb_script.specs.Views.{branch_pair, if_tree, otherwise_tree, script_tree, step_pair}
use Rattle.bb_interpreter.specs.Means.{means_choice, means_steps, rounds, next_answer}
use Rattle.bb_interpreter.specs.Runs.{Leads}
use Rattle.bb_interpreter.proofs.Joins.{Whatever}
use Rattle.bb_interpreter.proofs.steps.+run.Given as goal

abbrev pub invariant-run_steps-loop-step : goal.invariant-run_steps-loop-step
invariant-run_steps-loop-step g l = record {
  leads : Leads g.C.Commands.call_gives Whatever (means_steps g.C.Commands.outside next_answer (script_tree l.fn.script)) (means_steps g.C.Commands.outside next_answer (steps_tree (map step_pair (drop l.step-index l.step-items)))) l.fn.run l.run l.fn.device l.device;
  ready : g.C.Commands.can_call l.run.commands l.device;
}

abbrev pub invariant-run_choice-loop-branch : goal.invariant-run_choice-loop-branch
invariant-run_choice-loop-branch g l =
    let other = otherwise_tree (out-Choice l.fn.choice).other in
    record {
      leads : Leads g.C.Commands.call_gives Whatever (means_choice g.C.Commands.outside next_answer (if_tree l.fn.choice)) (means_choice g.C.Commands.outside next_answer (choice_tree (map branch_pair (drop l.branch-index l.branch-items)) other)) l.fn.run l.run l.fn.device l.device;
      ready : g.C.Commands.can_call l.run.commands l.device;
    }

abbrev pub invariant-run_rounds-loop-field : goal.invariant-run_rounds-loop-field
invariant-run_rounds-loop-field g l =
    let body = means_steps g.C.Commands.outside next_answer (script_tree l.fn.body) in
    record {
      leads : Leads g.C.Commands.call_gives Whatever (rounds g.C.Commands.outside l.fn.name body l.fn.fields) (rounds g.C.Commands.outside l.fn.name body (drop l.field-index l.fn.fields)) l.fn.run l.run l.fn.device l.device;
      ready : g.C.Commands.can_call l.run.commands l.device;
    }
