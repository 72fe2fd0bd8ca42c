use Rattle.std.proofs.Common.{rules}
use Rattle.bb_base.proofs.Under.{is_under-cut}
use Rattle.bb_base.proofs.mem_files.is_under.Goals as goal

pub returns : goal.returns
returns c = rw (is_under-cut c.args.dir.now c.args.name.now) (grind rules)
