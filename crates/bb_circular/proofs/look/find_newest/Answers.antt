use Rattle.bb_bucket.specs.BlockLaws.{block_of}
use Rattle.bb_circular.proofs.Looks.{known_of, looked_inside}
use Rattle.bb_circular.proofs.look.find_newest.Goals as goal

pub returns-clause-inside : goal.returns-clause-inside
returns-clause-inside g c =
    let held = block_of c.args.block (g.F.Flash.device c.args.flash.now).geometry c.requires.held in
    looked_inside c.args.block c.in_ok-last.last.pages c.closed_entry.result held.pages c.in_ok-last.ensures.inside c.closed_entry.ensures.inside

pub returns-clause-done : goal.returns-clause-done
returns-clause-done g c = λ image told.
    known_of c.args.block.page _ c.find_last_page.new.page c.in_ok-last.last c.closed_entry.result (c.in_ok-last.ensures.done image told) c.closed_entry.ensures.value
