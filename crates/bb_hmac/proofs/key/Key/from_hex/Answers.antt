use Rattle.std.proofs.Common.{◌≡◌, rules}
use Rattle.bb_hmac.specs.Key.{hex_part, spelt_key}
use Rattle.bb_hmac.proofs.Refusals.{refused_at, with_block}
use Rattle.bb_hmac.proofs.key.Key.from_hex.Goals as goal

pub returns-in_err-check-clause-bad_hex : goal.returns-in_err-check-clause-bad_hex
returns-in_err-check-clause-bad_hex c = λ place.
    let e : c.from_residual.result ≡ with_block (spelt_key (hex_part c.args.text.now)) = search rules in
    rw e (refused_at (hex_part c.args.text.now) place)
