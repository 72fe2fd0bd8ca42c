use Rattle.std.proofs.Common.{◌≡◌, arith, length, rules}
use Rattle.bb_history.proofs.room.PageRoom.of.Goals as goal

pub returns : goal.returns
returns c =
    let piece : length c.in_ok-piece.piece.items ≡ c.max-piece_len.result = search rules in
    record {
      page_is = search rules;
      piece = omega (arith, piece, c.max-piece_len.ensures);
      area = search rules;
    }
