use Rattle.std.proofs.Common.{arith}
use Rattle.std.proofs.lemmas.Grind.{common_steps}
use Rattle.bb_dts.proofs.StringLemmas.{option_map_more, tail_is}
use Rattle.bb_dts.proofs.TokenLemmas.{comment_len-drop_all, comment_len-drop_more}
use Rattle.bb_dts.proofs.token.comment_len.Goals as goal

pub returns-then-starts_with-clause-value : goal.returns-then-starts_with-clause-value
returns-then-starts_with-clause-value c =
    let e = comment_len-drop_more c.args.text.now c.loop-i.i (omega arith) in
    let tail = tail_is c.args.text.now c.loop-i.i in
    grind (arith, common_steps)

pub loop-i-preserved : goal.loop-i-preserved
loop-i-preserved c =
    let e = comment_len-drop_more c.args.text.now c.loop-i.i (omega arith) in
    let tail = tail_is c.args.text.now c.loop-i.i in
    grind (arith, common_steps, option_map_more)

pub returns-clause-value : goal.returns-clause-value
returns-clause-value c =
    let e = comment_len-drop_all c.args.text.now c.loop-i.i (omega arith) in
    grind (arith, common_steps)
