use Rattle.std.proofs.Common.{◌≡◌, ◌≤◌, length, arith, ap, ◌∙◌, ◌++◌, replicate}
use Rattle.bb_dtbrec.specs.Spine.{end_piece}
use Rattle.bb_dtbrec.proofs.Writing.{spelt_last}
use Rattle.bb_dtbrec.proofs.nodes.nodes_of.Goals as goal

pub returns : goal.returns
returns c =
    let past : length c.args.vars.now ≤ c.loop-place.place = omega arith in
    let count : c.len.result ≡ length c.loop-place.ends.items = omega arith in
    c.in_ok-end_nodes.ensures
    ∙ ap (λ n. c.loop-place.pieces.items ++ replicate n end_piece) count
    ∙ spelt_last c.args.vars.now c.loop-place.place c.loop-place.pieces.items
    c.loop-place.ends.items past c.loop-place.invariant
