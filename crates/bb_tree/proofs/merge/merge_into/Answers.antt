use Rattle.std.proofs.lemmas.Result.{IfOk-weaker}
use Rattle.bb_tree.proofs.Bodies.{Changes-body}
use Rattle.bb_tree.proofs.merge.merge_into.Goals as goal

pub returns : goal.returns
returns c =
    let old = c.args.slots.now.items in
    let new = c.merge_nodes.new.slots.items in
    IfOk-weaker _ _ _ (λ _ h. Changes-body c.args.k c.args.node old c.put_props.new.slots.items new c.in_ok-put_props.ensures h) c.merge_nodes.ensures
