use Rattle.std.proofs.Common.{arith}
use Rattle.std.proofs.lemmas.Grind.{common_steps}
use Rattle.bb_fdt.proofs.WalkLemmas.{item_step, open_with_prop}
use Rattle.bb_fdt.proofs.node.+read_node.Goals as goal

pub loop-nodes-preserved : goal.loop-nodes-preserved
loop-nodes-preserved t c =
    let joins = open_with_prop c.args.level c.args.name c.loop-nodes.props c.push-in-Property.new.self c.loop-nodes.nodes c.in_ok-read_prop-in-Property.field-0 c.in_ok-push-in-Property.ensures.ok in
    grind (arith, common_steps, item_step)
