use Rattle.std.proofs.Common.{rules}
use Rattle.bb_flash.proofs.geometry.in_blocks.Goals as goal

pub returns-in_err-block-clause-value : goal.returns-in_err-block-clause-value
returns-in_err-block-clause-value c = search rules

pub returns-in_err-size-clause-value : goal.returns-in_err-size-clause-value
returns-in_err-size-clause-value c = search rules

pub returns-clause-value : goal.returns-clause-value
returns-clause-value c = search rules

pub returns-clause-bounds : goal.returns-clause-bounds
returns-clause-bounds c = search rules
