use Rattle.std.proofs.Common.{List, ℕ, ap, drop, length, take, ◌∙◌}
use Rattle.std.specs.Str.{bytes_eq}
use Rattle.bb_dtbrec.proofs.Slots.{fixed_part}
use Rattle.bb_dtbrec.proofs.walk.take_part.Goals as goal

pub returns-in-Fixed-clause-read : goal.returns-in-Fixed-clause-read
returns-in-Fixed-clause-read c =
    let part : List ℕ = c.args.part.now in
    fixed_part c.args.piece.now c.in-Fixed.bytes part c.args.area.now c.args.offset _ c.in-Fixed.is
    c.requires.within
    (c.stands_at.ensures
    ∙ ap (λ l. bytes_eq (take (length part) (drop c.args.offset l)) part) c.as_slice.ensures)
