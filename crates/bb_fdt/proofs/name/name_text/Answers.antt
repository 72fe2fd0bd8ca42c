use Rattle.std.proofs.lemmas.Str.{IsUtf8-from_ascii}
use Rattle.bb_fdt.proofs.NameLemmas.{IsAscii-name}
use Rattle.bb_fdt.proofs.name.name_text.Goals as goal

pub unreachable-requires : goal.unreachable-requires
unreachable-requires c = c.in-Err.ensures.cases.0 (IsUtf8-from_ascii c.args.name.now (IsAscii-name c.args.name.now c.requires))
