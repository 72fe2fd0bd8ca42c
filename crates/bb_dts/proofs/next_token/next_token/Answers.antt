use Rattle.std.proofs.Common.{◌+◌, arith}
use Rattle.std.proofs.lemmas.Grind.{common_steps}
use Rattle.bb_dts.proofs.StringLemmas.{tail_is}
use Rattle.bb_dts.proofs.TokenLemmas.{first_token-here, first_token-none}
use Rattle.bb_dts.proofs.next_token.next_token.Goals as goal

pub loop-rest-preserved : goal.loop-rest-preserved
loop-rest-preserved c =
    let here = first_token-here c.args.mode c.args.total c.loop-rest.rest.now (grind (arith, common_steps)) in
    let tail = tail_is c.loop-rest.rest.now (c.in-Blank.n + 1) in
    grind (arith, common_steps)

pub returns-in-Token-clause-found : goal.returns-in-Token-clause-found
returns-in-Token-clause-found c =
    let here = first_token-here c.args.mode c.args.total c.loop-rest.rest.now (grind (arith, common_steps)) in
    grind (arith, common_steps)

pub returns-in-BadToken-clause-refused : goal.returns-in-BadToken-clause-refused
returns-in-BadToken-clause-refused c =
    let here = first_token-here c.args.mode c.args.total c.loop-rest.rest.now (grind (arith, common_steps)) in
    grind (arith, common_steps)

pub returns-in-LeftOut-clause-refused : goal.returns-in-LeftOut-clause-refused
returns-in-LeftOut-clause-refused c =
    let here = first_token-here c.args.mode c.args.total c.loop-rest.rest.now (grind (arith, common_steps)) in
    grind (arith, common_steps)

pub returns-clause-found : goal.returns-clause-found
returns-clause-found c =
    let none = first_token-none c.args.mode c.args.total c.loop-rest.rest.now (grind (arith, common_steps)) in
    grind (arith, common_steps)
