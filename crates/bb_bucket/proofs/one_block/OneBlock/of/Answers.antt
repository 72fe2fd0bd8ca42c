use Rattle.std.proofs.Common.{◌+◌, ◌≤◌, arith}
use Rattle.bb_bucket.proofs.Pages.{filled_fits}
use Rattle.bb_bucket.proofs.one_block.OneBlock.of.Goals as goal

pub whole_pages-len-requires-clause-small : goal.whole_pages-len-requires-clause-small
whole_pages-len-requires-clause-small c =
    let fits =
    filled_fits c.args.page (8 + c.min-most.result) c.args.region.size (omega (arith, c.requires.least)) c.requires.pages
    (omega (arith, c.min-most.ensures, c.requires.least, c.requires.some)) in
    omega (arith, fits, c.well_formed)
