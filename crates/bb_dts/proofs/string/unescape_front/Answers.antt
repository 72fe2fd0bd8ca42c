use Rattle.std.proofs.Common.{◌+◌, [], refl, arith}
use Rattle.std.proofs.lemmas.Grind.{common_steps}
use Rattle.bb_dts.proofs.StringLemmas.{quoted_bytes-drop_escape, quoted_bytes-plain, quoted_bytes-none, tail_is, drop-more}
use Rattle.bb_dts.proofs.string.unescape_front.Goals as goal

pub returns-in_default-clause-ok : goal.returns-in_default-clause-ok
returns-in_default-clause-ok c =
    let e = quoted_bytes-drop_escape c.args.text.now c.if-text-eq92.true in
    let tail = tail_is c.args.text.now 1 in
    let none = quoted_bytes-none [] refl in
    grind (arith, common_steps)

pub returns-then-text-eq92-clause-ok : goal.returns-then-text-eq92-clause-ok
returns-then-text-eq92-clause-ok c =
    let e = quoted_bytes-drop_escape c.args.text.now c.if-text-eq92.true in
    let tail = tail_is c.args.text.now 1 in
    let behind = tail_is c.args.text.now (1 + c.in-Some.len) in
    let both = drop-more c.args.text.now 1 c.in-Some.len in
    grind (arith, common_steps)

pub returns-clause-ok : goal.returns-clause-ok
returns-clause-ok c =
    let e = quoted_bytes-plain c.args.text.now in
    grind (arith, common_steps)
