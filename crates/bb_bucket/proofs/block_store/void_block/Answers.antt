use Rattle.std.proofs.Common.{OnOk, subst, refl}
use Rattle.bb_flash.specs.Image.{Image}
use Rattle.bb_bucket.specs.Blocks.{erased_block}
use Rattle.bb_bucket.specs.BlockLaws.{block_of}
use Rattle.bb_bucket.specs.Calls.{Leaves}
use Rattle.bb_bucket.specs.FrontLaws.{blank_holds_none}
use Rattle.bb_bucket.specs.OneBlock.{one_block_kind}
use Rattle.bb_bucket.proofs.BlockCalls.{void_calls}
use Rattle.bb_bucket.proofs.StrideCalls.{only_one}
use Rattle.bb_bucket.proofs.block_store.void_block.Goals as goal

pub returns-clause-done : goal.returns-clause-done
returns-clause-done g c =
    let held = block_of c.args.block (g.F.Flash.device c.args.flash.now).geometry c.requires.held in
    subst (λ page. OnOk c.erase_block.result (Leaves c.args.block.region (λ (part : Image). erased_block page c.args.block.region.size) (g.F.Flash.device c.args.flash.now) (g.F.Flash.device c.erase_block.new.flash))) held.page
    c.erase_block.ensures.done

pub returns-clause-calls : goal.returns-clause-calls
returns-clause-calls g c =
    let held = block_of c.args.block (g.F.Flash.device c.args.flash.now).geometry c.requires.held in
    let made = c.erase_block.ensures in
    void_calls (one_block_kind c.args.block) c.args.block.page (blank_holds_none c.args.block.page c.args.block.page c.args.block.region.size)
    (g.F.Flash.device c.args.flash.now) (g.F.Flash.device c.erase_block.new.flash) held (only_one _ _ refl) made.within.later made.within.whole made.changes
