use Rattle.bb_layout.proofs.convert.convert_area.Goals as goal

pub loop-place-init : goal.loop-place-init
loop-place-init c = (c.lay_stored.ensures.laid, c.lay_stored.ensures.same_length)
