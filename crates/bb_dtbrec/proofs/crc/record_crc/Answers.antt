use Rattle.std.proofs.Common.{◌∙◌, ◌∷◌, [], ◌++◌, List, ℕ, ap, append_assoc}
use Rattle.bb_base.specs.Crc.{crc_of}
use Rattle.bb_dtbrec.proofs.crc.record_crc.Goals as goal

pub returns : goal.returns
returns c =
    let front : List ℕ = c.args.front.now in
    let zeros : List ℕ = 0 ∷ 0 ∷ 0 ∷ 0 ∷ [] in
    let pieces : List ℕ = c.args.pieces.now in
    c.value.ensures ((front ++ zeros) ++ pieces)
    (c.feed-3.ensures (front ++ zeros) (c.feed-2.ensures front (c.feed.ensures [] c.start-crc.ensures)))
    ∙ ap crc_of (append_assoc front zeros pieces)
