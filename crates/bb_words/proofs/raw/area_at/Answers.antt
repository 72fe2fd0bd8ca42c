use Rattle.std.proofs.Common.{◌≡◌, length, ap, ◌∙◌}
use Rattle.bb_words.proofs.Areas.{decoded_sized}
use Rattle.bb_words.proofs.raw.area_at.Goals as goal

pub returns-clause-sized : goal.returns-clause-sized
returns-clause-sized c =
    let area : c.add.new.self ≡ c.in-Ok.decoded.items = cc (c.in_ok-add.ensures.ok, c.as_slice.ensures.value, c.none-area.ensures) in
    ap length area ∙ decoded_sized c.in_ok-digits.digits.now c.in-Ok.decoded.items c.args.len c.if-digits-len.false c.in-Ok.ensures.ok
