use Rattle.std.proofs.Common.{◌≡◌, List, ℕ, [], replicate, subst, ap, ◌∙◌}
use Rattle.bb_dtbrec.specs.declared.piece.Piece.{Piece}
use Rattle.bb_dtbrec.specs.Dtb.{Pattern, dtb_length}
use Rattle.bb_dtbrec.specs.Feeding.{HasCome}
use Rattle.bb_dtbrec.proofs.Fed.{begun}
use Rattle.bb_dtbrec.proofs.dtb.DtbFormat.start.Goals as goal

pub returns : goal.returns
returns c =
    λ area e.
    let pattern : Pattern = c.args.self.now in
    let size : ℕ = pattern.area_len in
    let front : c.as_slice.result.now ≡ pattern.front =
    c.as_slice.ensures ∙ ap (λ (p : Pattern). p.front) c.self.view_is in
    let pieces : c.deref.result.now ≡ pattern.pieces =
    c.deref.ensures.value ∙ ap (λ (p : Pattern). p.pieces) c.self.view_is in
    begun pattern.front pattern.pieces size (dtb_length pattern) c.start_record.result area e
    (subst
    (λ (l : List ℕ).
    HasCome l pattern.pieces size c.start_record.result [] (replicate size 0))
    front
    (subst
    (λ (ps : List Piece).
    HasCome c.as_slice.result.now ps size c.start_record.result [] (replicate size 0))
    pieces (c.start_record.ensures size)))
