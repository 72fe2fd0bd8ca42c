use Rattle.std.proofs.Common.{List, ℕ, arith, ap, ◌∙◌}
use Rattle.std.proofs.lemmas.Nat.{from_le_bytes-to_le_bytes_4}
use Rattle.bb_chooser.proofs.Writing.{number_same}
use Rattle.bb_chooser.specs.Choosing.{number_at}
use Rattle.bb_chooser.proofs.number.put_number.Goals as goal

pub returns-clause-reads : goal.returns-clause-reads
returns-clause-reads c =
    ap (λ (l : List ℕ). number_at l c.args.at) c.put_bytes.ensures.put
    ∙ number_same c.args.table.now c.args.at c.args.n c.requires
    ∙ from_le_bytes-to_le_bytes_4 c.args.n (omega (arith, c.ranges.n))
