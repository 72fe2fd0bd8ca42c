use Rattle.bb_bls.proofs.Blanks.{behind_the_blanks}
use Rattle.bb_bls.proofs.line.trim_blanks_start.Goals as goal

pub range_from-requires : goal.range_from-requires
range_from-requires c = λ _. rw c.blanks_in_front.ensures (behind_the_blanks c.args.text.now c.utf8.text)
