use Rattle.std.proofs.Common.{◌≡◌, length, ap, ◌∙◌}
use Rattle.bb_dtbrec.specs.Dtb.{Pattern}
use Rattle.bb_dtbrec.proofs.Fed.{fed_on}
use Rattle.bb_dtbrec.proofs.dtb.DtbFormat.feed.Goals as goal

pub returns-clause-held : goal.returns-clause-held
returns-clause-held c =
    λ fed.
    let pattern : Pattern = c.args.self.now in
    let pieces : c.deref.result.now ≡ pattern.pieces =
    c.deref.ensures.value ∙ ap (λ (p : Pattern). p.pieces) c.self.view_is in
    fed_on pattern c.deref.result.now (length c.args.area.now) c.args.feed.now
    c.feed_record.new.feed fed c.args.piece.now c.args.area.now c.feed_record.new.area pieces
    c.requires (c.feed_record.ensures.held pattern.front fed)
