use Rattle.std.proofs.Common.{rules}
use Rattle.bb_layout.proofs.record_len.record_len.Goals as goal

pub returns-in-Dtb : goal.returns-in-Dtb
returns-in-Dtb c = search rules

pub returns-in-RawHmac : goal.returns-in-RawHmac
returns-in-RawHmac c = search rules
