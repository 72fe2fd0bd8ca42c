use Rattle.std.proofs.Common.{subst}
use Rattle.bb_script.specs.Views.{script_tree}
use Rattle.bb_interpreter.specs.Means.{means_steps, next_answer}
use Rattle.bb_interpreter.specs.Runs.{LeftAt, Leads}
use Rattle.bb_interpreter.specs.Standing.{Stops}
use Rattle.bb_interpreter.proofs.RunLemmas.{run_done, run_faulted, run_limited, run_started, run_starved}
use Rattle.bb_interpreter.proofs.run.ScriptRun.run.Goals as goal

pub returns-in-Ok-clause-run : goal.returns-in-Ok-clause-run
returns-in-Ok-clause-run g c =
    run_done g.C.Commands.call_gives g.C.Commands.outside (script_tree c.args.script.now) c.args.self.now c.run_steps.new.run c.args.device.now c.run_steps.new.device c.in-Ok.ensures.leads

pub returns-in-Err-Started-clause-run : goal.returns-in-Err-Started-clause-run
returns-in-Err-Started-clause-run g c =
    run_started g.C.Commands.call_gives g.C.Commands.outside (script_tree c.args.script.now) c.args.self.now c.run_steps.new.run c.args.device.now c.run_steps.new.device
    (subst (λ e. Leads g.C.Commands.call_gives (LeftAt e) (means_steps g.C.Commands.outside next_answer (script_tree c.args.script.now)) (λ at. Stops e at) c.args.self.now c.run_steps.new.run c.args.device.now c.run_steps.new.device) c.in-Err-Started.field-0-is c.in-Err-Started.ensures.leads)

pub returns-in-Err-StepLimit-clause-run : goal.returns-in-Err-StepLimit-clause-run
returns-in-Err-StepLimit-clause-run g c =
    run_limited g.C.Commands.call_gives g.C.Commands.outside (script_tree c.args.script.now) c.args.self.now c.run_steps.new.run c.args.device.now c.run_steps.new.device
    (subst (λ e. Leads g.C.Commands.call_gives (LeftAt e) (means_steps g.C.Commands.outside next_answer (script_tree c.args.script.now)) (λ at. Stops e at) c.args.self.now c.run_steps.new.run c.args.device.now c.run_steps.new.device) c.in-Err-StepLimit.field-0-is c.in-Err-StepLimit.ensures.leads)

pub returns-in-Err-Fault-clause-run : goal.returns-in-Err-Fault-clause-run
returns-in-Err-Fault-clause-run g c =
    run_faulted g.C.Commands.call_gives g.C.Commands.outside (script_tree c.args.script.now) c.args.self.now c.run_steps.new.run c.args.device.now c.run_steps.new.device
    (subst (λ e. Leads g.C.Commands.call_gives (LeftAt e) (means_steps g.C.Commands.outside next_answer (script_tree c.args.script.now)) (λ at. Stops e at) c.args.self.now c.run_steps.new.run c.args.device.now c.run_steps.new.device) c.in-Err-Fault.field-0-is c.in-Err-Fault.ensures.leads)

pub returns-in-Err-NoMemory-clause-run : goal.returns-in-Err-NoMemory-clause-run
returns-in-Err-NoMemory-clause-run g c =
    run_starved g.C.Commands.call_gives g.C.Commands.outside (script_tree c.args.script.now) c.args.self.now c.run_steps.new.run c.args.device.now c.run_steps.new.device
    (subst (λ e. Leads g.C.Commands.call_gives (LeftAt e) (means_steps g.C.Commands.outside next_answer (script_tree c.args.script.now)) (λ at. Stops e at) c.args.self.now c.run_steps.new.run c.args.device.now c.run_steps.new.device) c.in-Err-NoMemory.field-0-is c.in-Err-NoMemory.ensures.leads)
