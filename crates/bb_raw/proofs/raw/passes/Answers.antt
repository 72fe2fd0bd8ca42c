use Rattle.std.proofs.Common.{◌∙◌, arith}
use Rattle.std.proofs.lemmas.Bool.{lt-leb}
use Rattle.bb_raw.specs.Raw.{RawKind}
use Rattle.bb_raw.proofs.Parts.{passes_is, too_long}
use Rattle.bb_raw.proofs.raw.passes.Goals as goal

pub returns-then-len-area : goal.returns-then-len-area
returns-then-len-area c =
    let kind : RawKind = record { magic = c.args.magic; key = c.args.key.now } in
    passes_is kind c.args.feed.now c.args.area.now c.data_len-len.result c.has_come.result c.data_len-len.ensures.value (omega arith) c.has_come.ensures

pub returns-else-len-area : goal.returns-else-len-area
returns-else-len-area c =
    let kind : RawKind = record { magic = c.args.magic; key = c.args.key.now } in
    lt-leb _ _ c.if-len-area.false ∙ too_long kind c.args.feed.now c.args.area.now c.data_len-len.result c.data_len-len.ensures.value (omega arith)
