use Rattle.std.proofs.Common.{rules}
use Rattle.bb_fdt.proofs.NamesLemmas.{has_lookup}
use Rattle.bb_fdt.proofs.names.Names.has.Goals as goal

pub returns : goal.returns
returns c = search (rules, has_lookup)
