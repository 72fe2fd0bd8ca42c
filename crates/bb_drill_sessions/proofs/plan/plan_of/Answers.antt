use Rattle.std.proofs.Common.{List, ℕ, Ok, subst}
use Rattle.bb_base.specs.MemFiles.{folder_of}
use Rattle.bb_drill.specs.Board.{board_geometry}
use Rattle.bb_plan.specs.FilesRead.{IsReadAs}
use Rattle.bb_plan.specs.Plan.{plan_reading, task_as}
use Rattle.bb_plan.specs.declared.plan.PlannedTask.{PlannedTask}
use Rattle.bb_plan.specs.declared.plan.PlannedTask.TheVariants as tasks
use Rattle.bb_drill_sessions.proofs.Plans.{plan_read}
use Rattle.bb_drill_sessions.proofs.plan.plan_of.Goals as goal

pub returns-in-OnCopies-clause-is : goal.returns-in-OnCopies-clause-is
returns-in-OnCopies-clause-is c =
    let before = folder_of c.in_ok-files.files in
    let after = folder_of c.plan_session.new.files in
    plan_read c.args.command before after c.in-OnCopies.plan c.in_ok-files.ensures
    (subst (λ (w : List (List ℕ)). IsReadAs (plan_reading w board_geometry) task_as before after (Ok (tasks.OnCopies c.in-OnCopies.plan))) c.in_ok-words.ensures
    (subst (λ (t : PlannedTask). IsReadAs (plan_reading c.in_ok-words.words board_geometry) task_as before after (Ok t)) c.in-OnCopies.is c.in-Ok.ensures.read))
