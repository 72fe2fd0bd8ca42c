use Rattle.std.proofs.Common.{arith}
use Rattle.std.proofs.lemmas.Grind.{common_steps}
use Rattle.bb_dts.proofs.StringLemmas.{string_len-drop_all, string_len-drop_escape, string_len-drop_plain, option_map_more}
use Rattle.bb_dts.proofs.string.string_len.Goals as goal
use Rattle.bb_dts.proofs.string.string_len.Goals.{then-escaped+in_ok-escape, else-escaped+else-text-i-eq34}

pub returns-in_err-escape-clause-value : goal.returns-in_err-escape-clause-value
returns-in_err-escape-clause-value c =
    let e = string_len-drop_escape c.args.text.now c.loop-i.i (omega arith) in
    grind (arith, common_steps)

pub returns-then-text-i-eq34-clause-value : goal.returns-then-text-i-eq34-clause-value
returns-then-text-i-eq34-clause-value c =
    let e = string_len-drop_plain c.args.text.now c.loop-i.i (omega arith) in
    grind (arith, common_steps)

pub loop-i-preserved : goal.loop-i-preserved
loop-i-preserved c =
    let plain = string_len-drop_plain c.args.text.now c.loop-i.i (omega arith) in
    let escape = string_len-drop_escape c.args.text.now c.loop-i.i (omega arith) in
    elim c.if-escaped.branch [ then-escaped+in_ok-escape w ↦ grind (arith, common_steps, option_map_more) | else-escaped+else-text-i-eq34 w ↦ grind (arith, common_steps, option_map_more) ]

pub returns-clause-value : goal.returns-clause-value
returns-clause-value c =
    let e = string_len-drop_all c.loop-i.escaped c.args.text.now c.loop-i.i (omega arith) in
    grind (arith, common_steps)
