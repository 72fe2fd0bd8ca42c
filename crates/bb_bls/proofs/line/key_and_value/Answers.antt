use Rattle.bb_bls.proofs.Blanks.{behind_the_key}
use Rattle.bb_bls.proofs.line.key_and_value.Goals as goal

pub split_at-requires : goal.split_at-requires
split_at-requires c = rw c.key_len.ensures (behind_the_key c.trim_blanks_end-text.result.now)
