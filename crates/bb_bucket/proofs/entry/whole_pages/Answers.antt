use Rattle.std.proofs.Math.Nat.{mul-mod_left}
use Rattle.bb_bucket.proofs.entry.whole_pages.Goals as goal

pub returns-clause-pages : goal.returns-clause-pages
returns-clause-pages c = mul-mod_left c.div_ceil.result c.args.page
