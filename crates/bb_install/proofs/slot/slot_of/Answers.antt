use Rattle.bb_install.specs.Slot.{slot_question}
use Rattle.bb_install.proofs.Refusing.{apart_of_answer, bad_reg_exactly, no_slot_exactly, out_of_device_exactly, overlap_exactly, place_of_answer, unaligned_exactly}
use Rattle.bb_install.proofs.slot.slot_of.Goals as goal

pub returns-clause-place : goal.returns-clause-place
returns-clause-place c = place_of_answer (slot_question c.args.tree.now c.args.label.now c.args.geometry c.args.layout.now) c.found_slot.result c.found_slot.ensures

pub returns-clause-apart : goal.returns-clause-apart
returns-clause-apart c = apart_of_answer (slot_question c.args.tree.now c.args.label.now c.args.geometry c.args.layout.now) c.found_slot.result c.found_slot.ensures

pub returns-clause-no_slot : goal.returns-clause-no_slot
returns-clause-no_slot c = no_slot_exactly (slot_question c.args.tree.now c.args.label.now c.args.geometry c.args.layout.now) c.found_slot.result c.found_slot.ensures

pub returns-clause-bad_reg : goal.returns-clause-bad_reg
returns-clause-bad_reg c = bad_reg_exactly (slot_question c.args.tree.now c.args.label.now c.args.geometry c.args.layout.now) c.found_slot.result c.found_slot.ensures

pub returns-clause-unaligned : goal.returns-clause-unaligned
returns-clause-unaligned c = unaligned_exactly (slot_question c.args.tree.now c.args.label.now c.args.geometry c.args.layout.now) c.found_slot.result c.found_slot.ensures

pub returns-clause-out_of_device : goal.returns-clause-out_of_device
returns-clause-out_of_device c = out_of_device_exactly (slot_question c.args.tree.now c.args.label.now c.args.geometry c.args.layout.now) c.found_slot.result c.found_slot.ensures

pub returns-clause-overlap : goal.returns-clause-overlap
returns-clause-overlap c = overlap_exactly (slot_question c.args.tree.now c.args.label.now c.args.geometry c.args.layout.now) c.found_slot.result c.found_slot.ensures
