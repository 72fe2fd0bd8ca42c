use Rattle.std.proofs.Common.{◌≡◌, ◌-◌, length, arith, take}
use Rattle.bb_layout.specs.Record.{grown_by}
use Rattle.bb_dtbrec.specs.Layouts.{field_for}
use Rattle.bb_dtbrec.proofs.Writing.{path_opened, shared_within}
use Rattle.bb_dtbrec.proofs.nodes.open_path.Goals as goal

pub overflow_sub-len : goal.overflow_sub-len
overflow_sub-len c =
    let within =
    shared_within (grown_by field_for (take c.args.place c.args.vars.now)) c.args.path.now
    c.args.pieces.now.items c.args.ends.now.items c.shared_before-shared.result c.requires.spelt
    c.shared_before-shared.ensures in
    omega arith

pub returns : goal.returns
returns c =
    let count : c.len.result - c.shared_before-shared.result
    ≡ length c.args.ends.now.items - c.shared_before-shared.result = omega arith in
    path_opened (grown_by field_for (take c.args.place c.args.vars.now)) c.args.path.now
    c.args.pieces.now.items c.end_nodes.new.pieces.items c.begin_nodes.new.pieces.items
    c.args.ends.now.items c.truncate.new.self.items c.begin_nodes.new.ends.items
    c.shared_before-shared.result (c.len.result - c.shared_before-shared.result) c.requires.led
    c.shared_before-shared.ensures c.requires.spelt count c.in_ok-end_nodes.ensures
    c.truncate.ensures.items c.in_ok-begin_nodes.ensures.pieces c.in_ok-begin_nodes.ensures.ends
