use Rattle.std.proofs.Common.{ap, sym, arith, is_err, length}
use Rattle.bb_bucket.proofs.Erases.{blank_on_device}
use Rattle.bb_bucket.proofs.Pages.{sum_aligned}
use Rattle.bb_install.proofs.Parting.{calls_of_change, program_writes}
use Rattle.bb_install.proofs.Places.{slot_lies}
use Rattle.bb_install.proofs.program.program_part.Goals as goal

pub program-requires : goal.program-requires
program-requires g c =
    let from = g.F.Flash.device c.args.flash.now in
    let lies = slot_lies from.geometry c.args.slot c.geometry.ensures.whole.geometry c.requires.place in
    record {
      some = c.requires.some;
      inside = omega (arith, c.requires.within, c.requires.place.inside);
      aligned = sum_aligned from.geometry.page c.args.slot.at c.args.at lies.aligned c.requires.aligned;
      whole = c.requires.whole;
      blank = λ blocks image told.
          blank_on_device from.geometry image c.args.slot c.args.at (length c.args.bytes.now) c.geometry.ensures.whole.geometry.page_some lies c.requires.within
          (c.requires.blank blocks image told);
    }

pub returns-in-Ok-clause-done : goal.returns-in-Ok-clause-done
returns-in-Ok-clause-done g c =
    let from = g.F.Flash.device c.args.flash.now in
    let call = c.program.ensures.call in
    program_writes c.args.slot c.args.at c.args.bytes.now from (g.F.Flash.device c.program.new.self)
    (slot_lies from.geometry c.args.slot c.geometry.ensures.whole.geometry c.requires.place) c.requires.within call.whole call.later.geometry call.changes c.in-Ok.ensures.done

pub returns-in-Ok-clause-calls : goal.returns-in-Ok-clause-calls
returns-in-Ok-clause-calls g c =
    let from = g.F.Flash.device c.args.flash.now in
    calls_of_change c.program.result _ c.args.slot c.args.at c.args.bytes.now from (g.F.Flash.device c.program.new.self)
    (slot_lies from.geometry c.args.slot c.geometry.ensures.whole.geometry c.requires.place) c.requires.within (sym (ap is_err c.in-Ok.is)) c.program.ensures.call

pub returns-in-Err-clause-calls : goal.returns-in-Err-clause-calls
returns-in-Err-clause-calls g c =
    let from = g.F.Flash.device c.args.flash.now in
    calls_of_change c.program.result _ c.args.slot c.args.at c.args.bytes.now from (g.F.Flash.device c.program.new.self)
    (slot_lies from.geometry c.args.slot c.geometry.ensures.whole.geometry c.requires.place) c.requires.within (sym (ap is_err c.in-Err.is)) c.program.ensures.call
