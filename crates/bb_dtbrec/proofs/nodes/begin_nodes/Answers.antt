use Rattle.std.proofs.Common.{◌≡◌, ◌+◌, ◌++◌, ◌∷◌, [], ℕ, List, ap, sym, ◌∙◌, length, arith, length-append}
use Rattle.bb_dtbrec.specs.declared.piece.Piece.{Piece}
use Rattle.bb_dtbrec.specs.Spine.{begin_piece}
use Rattle.bb_dtbrec.proofs.Writing.{turn_ends, turn_pieces}
use Rattle.bb_dtbrec.proofs.nodes.begin_nodes.Goals as goal

pub loop-place-preserved : goal.loop-place-preserved
loop-place-preserved c =
    let path : List (List ℕ) = c.args.path.now in
    let i : ℕ = c.loop-place.place in
    let name : List ℕ = c.in-Some.name.now in
    let written : List Piece = c.loop-place.pieces.items in
    let after : List Piece = c.push.new.self.items in
    let pushed : after ≡ written ++ c.in_ok-begin.field-0 ∷ [] = c.in_ok-push.ensures.items in
    let more : length after ≡ length written + 1 =
    ap length pushed ∙ length-append written (c.in_ok-begin.field-0 ∷ []) in
    let mark : c.len.result ≡ length after = omega arith in (
      turn_pieces path i name c.in_ok-begin.field-0 written after _ (sym c.in-Some.ensures)
          (c.in_ok-begin.ensures ∙ ap begin_piece c.as_str.ensures) pushed
          c.loop-place.invariant.0,
      turn_ends path i name (length written) (length after) c.len.result
          c.loop-place.ends.items c.push-in-loop-place.new.self.items _ (sym c.in-Some.ensures)
          mark more c.in_ok-push-2.ensures.items c.loop-place.invariant.1,
    )
