use Rattle.std.proofs.Common.{◌<◌, ◌≤◌, length, arith, sym, take}
use Rattle.bb_layout.specs.Record.{grown_by}
use Rattle.bb_layout.proofs.Records.{formed_at}
use Rattle.bb_dtbrec.specs.Layouts.{field_for}
use Rattle.bb_dtbrec.proofs.SpineSteps.{end_within, some_end}
use Rattle.bb_dtbrec.proofs.Writing.{property_put}
use Rattle.bb_dtbrec.proofs.nodes.add_var.Goals as goal

pub open_path-requires-clause-led : goal.open_path-requires-clause-led
open_path-requires-clause-led c =
    (formed_at c.args.vars.now c.args.place c.in-Some.var.now c.requires.formed
    (sym c.in-Some.ensures)).led

pub unreachable-requires-in_default-pop : goal.unreachable-requires-in_default-pop
unreachable-requires-in_default-pop c =
    let led = (formed_at c.args.vars.now c.args.place c.in-Some.var.now c.requires.formed
    (sym c.in-Some.ensures)).led in
    let some : 0 < length c.open_path.new.ends.items =
    some_end (grown_by field_for (take c.args.place c.args.vars.now)) c.in-Some.var.now.path
    c.open_path.new.pieces.items c.open_path.new.ends.items c.in_ok-open_path.ensures led in
    omega (arith, c.in_default-pop.ensures.cases.0)

pub field-requires : goal.field-requires
field-requires c =
    let formed = formed_at c.args.vars.now c.args.place c.in-Some.var.now c.requires.formed
    (sym c.in-Some.ensures) in
    omega (arith, formed.end)

pub put-requires : goal.put-requires
put-requires c =
    end_within (grown_by field_for (take c.args.place c.args.vars.now)) c.in-Some.var.now.path
    c.open_path.new.pieces.items c.open_path.new.ends.items c.pop.new.self.items
    c.in-Some-pop.at c.in_ok-open_path.ensures c.in-Some-pop.ensures.items

pub overflow_add-at : goal.overflow_add-at
overflow_add-at c =
    let within : c.in-Some-pop.at ≤ length c.open_path.new.pieces.items =
    end_within (grown_by field_for (take c.args.place c.args.vars.now)) c.in-Some.var.now.path
    c.open_path.new.pieces.items c.open_path.new.ends.items c.pop.new.self.items
    c.in-Some-pop.at c.in_ok-open_path.ensures c.in-Some-pop.ensures.items in
    omega (arith, within, c.open_path.new.pieces.small, c.open_path.new.pieces.ok)

pub returns : goal.returns
returns c =
    let led = (formed_at c.args.vars.now c.args.place c.in-Some.var.now c.requires.formed
    (sym c.in-Some.ensures)).led in
    property_put c.args.vars.now c.args.place c.in-Some.var.now c.open_path.new.pieces.items
    c.in_ok-field.field-0.items c.put.new.pieces.items c.open_path.new.ends.items
    c.pop.new.self.items c.push.new.self.items c.in-Some-pop.at (sym c.in-Some.ensures) led
    c.in_ok-open_path.ensures c.in-Some-pop.ensures.items c.in_ok-field.ensures
    c.in_ok-put.ensures c.in_ok-push.ensures.items
