use Rattle.std.proofs.Common.{sym}
use Rattle.bb_fdt.proofs.NameLemmas.{name_in-past}
use Rattle.bb_fdt.proofs.name.name_in.Goals as goal

pub returns-then-strings-at-clause-name : goal.returns-then-strings-at-clause-name
returns-then-strings-at-clause-name c = sym (name_in-past c.args.strings.now c.args.at c.if-strings-at.true)
