use Rattle.std.proofs.Common.{arith}
use Rattle.std.proofs.lemmas.Grind.{common_steps}
use Rattle.bb_dts.proofs.SourceLemmas.{source_of-text, source_of-no_text}
use Rattle.bb_dts.proofs.source.read_source.Goals as goal

pub returns-in-Err-clause-refused : goal.returns-in-Err-clause-refused
returns-in-Err-clause-refused c =
    let none = source_of-no_text c.args.text.now c.in-Err.ensures.cases.0 in
    grind (arith, common_steps)

pub returns-clause-ok : goal.returns-clause-ok
returns-clause-ok c = rw (source_of-text c.args.text.now c.in_default.ensures.cases.1) c.read_text.ensures.ok

pub returns-clause-refused : goal.returns-clause-refused
returns-clause-refused c = rw (source_of-text c.args.text.now c.in_default.ensures.cases.1) c.read_text.ensures.refused
