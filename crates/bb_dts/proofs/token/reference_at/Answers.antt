use Rattle.std.proofs.Common.{◌≡◌, ◌+◌, suc, arith}
use Rattle.bb_dts.proofs.AsciiLemmas.{IsAscii-label, word_of-reference}
use Rattle.bb_dts.proofs.token.reference_at.Goals as goal

pub returns-in_default-clause-plain : goal.returns-in_default-clause-plain
returns-in_default-clause-plain c =
    let more : c.label_len.result + 1 ≡ suc c.label_len.result = omega arith in
    rw (word_of-reference, more, c.label_len.ensures.value) (IsAscii-label c.args.tail.now)
