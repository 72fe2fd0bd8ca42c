use Rattle.std.proofs.Common.{ap, ◌∙◌, sym, arith}
use Rattle.bb_dtbrec.specs.Feeding.{area_where}
use Rattle.bb_dtbrec.proofs.Slots.{cell_taken}
use Rattle.bb_dtbrec.proofs.walk.take_cell.Goals as goal

pub returns-clause-read : goal.returns-clause-read
returns-clause-read c =
    cell_taken c.args.place.at c.args.place.size c.args.offset c.saturating_sub.result
    c.saturating_sub-2.result c.min.result c.args.part.now c.cut.result.0.now c.cut.result.1.now
    c.args.area.now c.requires.within c.requires.inside (omega arith) (omega arith) (omega arith)
    c.cut.ensures.front c.cut.ensures.back
    ∙ ap (area_where _) (sym c.put.ensures)
    ∙ ap (λ b. area_where b c.put.new.bytes) (sym c.stands_at.ensures)
