use Rattle.std.proofs.Common.{◌/◌}
use Rattle.bb_bucket.specs.BlockLaws.{block_of}
use Rattle.bb_bucket.proofs.Erases.{erase_changes, erase_torn, leaves_blank}
use Rattle.bb_bucket.proofs.OneCall.{ends_torn}
use Rattle.bb_bucket.proofs.Outcomes.{on_ok_weaker}
use Rattle.bb_flash.specs.Calls.{told_after_erase}
use Rattle.bb_bucket.proofs.Making.{erase_adds, made_one}
use Rattle.bb_bucket.proofs.parts.erase_block.Goals as goal

pub returns-clause-done : goal.returns-clause-done
returns-clause-done g c =
    let held = block_of c.args.block (g.F.Flash.device c.args.flash.now).geometry c.requires.held in
    let made = c.erase.ensures in
    let changes = erase_changes c.args.block (g.F.Flash.device c.args.flash.now)
    (g.F.Flash.device c.erase.new.self) held made.call.changes in
    on_ok_weaker _ _ c.erase.result
    (leaves_blank c.args.block (g.F.Flash.device c.args.flash.now)
    (g.F.Flash.device c.erase.new.self) held made.call.whole made.call.later.geometry changes)
    made.done

pub returns-clause-changes : goal.returns-clause-changes
returns-clause-changes g c =
    let held = block_of c.args.block (g.F.Flash.device c.args.flash.now).geometry c.requires.held in
    erase_changes c.args.block (g.F.Flash.device c.args.flash.now)
    (g.F.Flash.device c.erase.new.self) held c.erase.ensures.call.changes

pub returns-clause-within : goal.returns-clause-within
returns-clause-within g c =
    let call = c.erase.ensures.call in
    let held = block_of c.args.block (g.F.Flash.device c.args.flash.now).geometry c.requires.held in
    record {
      ends = ends_torn _ _ (g.F.Flash.device c.args.flash.now)
          (g.F.Flash.device c.erase.new.self) call.changes;
      images = erase_torn c.args.block (g.F.Flash.device c.args.flash.now)
          (g.F.Flash.device c.erase.new.self) held call.images;
      later = call.later;
      starts = call.starts;
      whole = call.whole;
    }

pub returns-clause-made : goal.returns-clause-made
returns-clause-made g c =
    let made = c.erase.ensures in
    let from = g.F.Flash.device c.args.flash.now in
    let number = c.args.block.region.at / c.args.block.region.size in
    made_one (told_after_erase from.geometry number) c.erase.result c.args.block.region _ _ from
    (g.F.Flash.device c.erase.new.self) (erase_adds from.geometry number) made.call.changes made.done
