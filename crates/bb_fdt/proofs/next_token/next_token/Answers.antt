use Rattle.std.proofs.Common.{arith}
use Rattle.std.proofs.lemmas.Grind.{common_steps}
use Rattle.bb_fdt.specs.Tokens.{Token}
use Rattle.bb_fdt.proofs.TokenLemmas.{first_token-here, first_token-none, here-other}
use Rattle.bb_fdt.proofs.next_token.next_token.Goals as goal

pub loop-rest-preserved : goal.loop-rest-preserved
loop-rest-preserved c =
    let here = first_token-here c.args.end c.loop-rest.rest.now (grind (arith, common_steps)) in
    grind (arith, common_steps)

pub returns-in_default-clause-refused : goal.returns-in_default-clause-refused
returns-in_default-clause-refused c =
    let here = first_token-here c.args.end c.loop-rest.rest.now (grind (arith, common_steps)) in
    grind (arith, common_steps)

pub returns-clause-refused : goal.returns-clause-refused
returns-clause-refused c =
    let none = first_token-none c.args.end c.loop-rest.rest.now (grind (arith, common_steps)) in
    grind (arith, common_steps)

pub returns-in_default-kind-clause-found : goal.returns-in_default-kind-clause-found
returns-in_default-kind-clause-found c =
    let here = first_token-here c.args.end c.loop-rest.rest.now (grind (arith, common_steps)) in
    let t : Token = record { kind = c.in-Some.token.kind; bytes = c.in-Some.token.bytes.now; name_at = c.in-Some.token.name_at; behind = c.in-Some.token.behind } in
    let other = here-other c.args.end c.loop-rest.rest.now t c.in-Some.token.kind c.in_default-kind.not-Nop in
    grind (arith, common_steps)
