use Rattle.std.proofs.Common.{arith, rules}
use Rattle.bb_base.proofs.LastSlash.{split_at_last}
use Rattle.bb_base.proofs.mem_files.part_in.Goals as goal

pub returns-in_err-before : goal.returns-in_err-before
returns-in_err-before c =
    let split = split_at_last 47 c.args.name.now _ c.rsplit_once.ensures.cases (omega arith) in
    rw (← split) (grind rules)

pub returns-then-eq : goal.returns-then-eq
returns-then-eq c =
    let split = split_at_last 47 c.args.name.now _ c.rsplit_once.ensures.cases (omega arith) in
    rw (← split) (grind rules)

pub returns-else-eq : goal.returns-else-eq
returns-else-eq c =
    let split = split_at_last 47 c.args.name.now _ c.rsplit_once.ensures.cases (omega arith) in
    rw (← split) (grind rules)
