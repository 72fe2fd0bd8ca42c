use Rattle.std.proofs.Common.{◌≡◌, ◌+◌, ◌-◌, ◌<◌, ◌≤◌, ◌++◌, ℕ, drop, length, take, arith, ap, ◌∙◌}
use Rattle.std.proofs.lemmas.Slice.{take-put_mid}
use borrow.Rule.Slice.PartMut.{put_mid}
use Rattle.bb_dtbrec.specs.Dtb.{pieces_len, pieces_text}
use Rattle.bb_dtbrec.proofs.Steps.{inside_here, len_more, len_none, sound_more, written_all, written_more}
use Rattle.bb_dtbrec.proofs.pack.write_pieces.Goals as goal

pub write_piece-requires-clause-inside : goal.write_piece-requires-clause-inside
write_piece-requires-clause-inside c =
    inside_here c.args.pieces.now c.loop-piece.piece-index c.piece-item.result
    (length c.args.area.now) (omega arith) c.piece-item.is c.loop-piece.invariant.1

pub loop-piece-preserved : goal.loop-piece-preserved
loop-piece-preserved c =
    let pieces = c.args.pieces.now in
    let i : ℕ = c.loop-piece.piece-index in
    let at : ℕ = c.loop-piece.at in
    let here : i < length pieces = omega arith in
    let more = len_more pieces i c.piece-item.result here c.piece-item.is in
    let end : ℕ = at + c.len.result in
    let room : at ≤ length c.loop-piece.out = omega (arith, more, c.len.ensures) in (
      omega (arith, more, c.len.ensures),
      sound_more pieces i c.piece-item.result (length c.args.area.now) here c.piece-item.is
          c.loop-piece.invariant.1,
      written_more pieces i c.piece-item.result c.args.area.now c.loop-piece.out
          (put_mid at (end - at) c.loop-piece.out c.write_piece.new.out)
          (pieces_text pieces c.args.area.now) at end here c.piece-item.is
          (take-put_mid at (end - at) c.loop-piece.out c.write_piece.new.out end (omega arith) room
          ∙ ap (λ l. take at c.loop-piece.out ++ l) c.write_piece.ensures)
          c.loop-piece.invariant.2,
    )

pub returns : goal.returns
returns c =
    let none : pieces_len (drop c.loop-piece.piece-index c.args.pieces.now) ≡ 0 =
    len_none c.args.pieces.now c.loop-piece.piece-index (omega arith) in
    written_all c.args.pieces.now c.loop-piece.piece-index c.args.area.now c.loop-piece.out
    (pieces_text c.args.pieces.now c.args.area.now) c.loop-piece.at (omega arith) (omega arith)
    c.loop-piece.invariant.2
