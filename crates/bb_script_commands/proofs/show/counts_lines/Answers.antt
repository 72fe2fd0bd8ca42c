use Rattle.std.proofs.Common.{arith}
use Rattle.bb_script_commands.proofs.Listing.{counts_next}
use Rattle.bb_script_commands.proofs.show.counts_lines.Goals as goal

pub loop-target-preserved : goal.loop-target-preserved
loop-target-preserved c =
    counts_next c.args.chooser.now c.args.table.now c.loop-target.target c.loop-target.text c.add_counts_line.new.text c.target_name-name.result.now
    c.priority-priority.result c.attempts-attempts.result (omega arith) c.target_name-name.ensures c.priority-priority.ensures
    c.attempts-attempts.ensures c.loop-target.invariant c.in_ok-add_counts_line.ensures
