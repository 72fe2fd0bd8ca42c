use Rattle.std.proofs.Common.{◌+◌, ◌/◌, ◌≤◌, ap, sym, refl, arith, is_err, length}
use Rattle.bb_flash.specs.declared.geometry.Geometry.{Geometry}
use Rattle.bb_flash.specs.Calls.{erased_bytes}
use Rattle.bb_install.proofs.Parting.{blank_len, block_place, calls_of_change, erase_call, erase_counted, erase_writes}
use Rattle.bb_install.proofs.Places.{slot_lies}
use Rattle.bb_install.proofs.erase.erase_part.Goals as goal

pub returns-in-Ok-clause-done : goal.returns-in-Ok-clause-done
returns-in-Ok-clause-done g c =
    let from = g.F.Flash.device c.args.flash.now in
    let to = g.F.Flash.device c.erase.new.self in
    let number = (c.args.slot.at + c.args.at) / c.geometry-block.result.block in
    let place = block_place from.geometry c.args.slot c.args.at c.geometry-block.result.block (ap (λ (geo : Geometry). geo.block) c.geometry-block.ensures.value) c.requires.place c.requires.blocks c.requires.aligned in
    let call = erase_call c.args.slot c.args.at number from.geometry place c.erase.result from to c.erase.ensures.call in
    erase_writes c.args.slot c.args.at number from.geometry place from to refl
    (slot_lies from.geometry c.args.slot c.geometry-block.ensures.whole.geometry c.requires.place) c.requires.within call.whole call.later.geometry call.changes c.in-Ok.ensures.done

pub returns-in-Ok-clause-erases : goal.returns-in-Ok-clause-erases
returns-in-Ok-clause-erases g c =
    let from = g.F.Flash.device c.args.flash.now in
    let number = (c.args.slot.at + c.args.at) / c.geometry-block.result.block in
    erase_counted from.geometry number ((c.args.slot.at + c.args.at) / from.geometry.block) from (g.F.Flash.device c.erase.new.self)
    (ap (λ (geo : Geometry). (c.args.slot.at + c.args.at) / geo.block) c.geometry-block.ensures.value) c.in-Ok.ensures.done

pub returns-in-Ok-clause-calls : goal.returns-in-Ok-clause-calls
returns-in-Ok-clause-calls g c =
    let from = g.F.Flash.device c.args.flash.now in
    let to = g.F.Flash.device c.erase.new.self in
    let number = (c.args.slot.at + c.args.at) / c.geometry-block.result.block in
    let place = block_place from.geometry c.args.slot c.args.at c.geometry-block.result.block (ap (λ (geo : Geometry). geo.block) c.geometry-block.ensures.value) c.requires.place c.requires.blocks c.requires.aligned in
    let call = erase_call c.args.slot c.args.at number from.geometry place c.erase.result from to c.erase.ensures.call in
    let size = blank_len c.args.slot c.args.at number from.geometry place in
    let fits : c.args.at + length (erased_bytes from.geometry) ≤ c.args.slot.size = omega (arith, c.requires.within) in
    calls_of_change c.erase.result _ c.args.slot c.args.at (erased_bytes from.geometry) from to
    (slot_lies from.geometry c.args.slot c.geometry-block.ensures.whole.geometry c.requires.place) fits (sym (ap is_err c.in-Ok.is)) call

pub returns-in-Err-clause-failed : goal.returns-in-Err-clause-failed
returns-in-Err-clause-failed g c =
    let from = g.F.Flash.device c.args.flash.now in
    let to = g.F.Flash.device c.erase.new.self in
    let number = (c.args.slot.at + c.args.at) / c.geometry-block.result.block in
    let place = block_place from.geometry c.args.slot c.args.at c.geometry-block.result.block (ap (λ (geo : Geometry). geo.block) c.geometry-block.ensures.value) c.requires.place c.requires.blocks c.requires.aligned in
    let call = erase_call c.args.slot c.args.at number from.geometry place c.erase.result from to c.erase.ensures.call in
    record { changes = call.changes; erases = c.in-Err.ensures.failed }

pub returns-in-Err-clause-calls : goal.returns-in-Err-clause-calls
returns-in-Err-clause-calls g c =
    let from = g.F.Flash.device c.args.flash.now in
    let to = g.F.Flash.device c.erase.new.self in
    let number = (c.args.slot.at + c.args.at) / c.geometry-block.result.block in
    let place = block_place from.geometry c.args.slot c.args.at c.geometry-block.result.block (ap (λ (geo : Geometry). geo.block) c.geometry-block.ensures.value) c.requires.place c.requires.blocks c.requires.aligned in
    let call = erase_call c.args.slot c.args.at number from.geometry place c.erase.result from to c.erase.ensures.call in
    let size = blank_len c.args.slot c.args.at number from.geometry place in
    let fits : c.args.at + length (erased_bytes from.geometry) ≤ c.args.slot.size = omega (arith, c.requires.within) in
    calls_of_change c.erase.result _ c.args.slot c.args.at (erased_bytes from.geometry) from to
    (slot_lies from.geometry c.args.slot c.geometry-block.ensures.whole.geometry c.requires.place) fits (sym (ap is_err c.in-Err.is)) call
