use Rattle.std.proofs.Common.{arith, inr, refl}
use Rattle.std.proofs.lemmas.Str.{is_utf8-from_IsUtf8}
use Rattle.bb_script.proofs.TextLemmas.{not_utf8}
use Rattle.bb_script.proofs.read.as_text.Goals as goal

pub returns-in_default-clause-refused : goal.returns-in_default-clause-refused
returns-in_default-clause-refused c = inr (refl, record { short = omega arith; no_text = not_utf8 c.args.bytes.now c.in_default.ensures.cases.0 })

pub returns-clause-ok : goal.returns-clause-ok
returns-clause-ok c = (refl, record { short = omega arith; utf8 = is_utf8-from_IsUtf8 c.args.bytes.now c.in-Ok.ensures.cases.1 })
