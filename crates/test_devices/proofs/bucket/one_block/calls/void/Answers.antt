use Rattle.std.proofs.Common.{◌∙◌}
use Rattle.test_devices.proofs.Serving.{one_block_serves}
use Rattle.test_devices.proofs.bucket.one_block.calls.void.Goals as goal

pub void-requires-clause-serves : goal.void-requires-clause-serves
void-requires-clause-serves c = one_block_serves _ _ c.requires.here c.requires.held

pub returns-clause-held : goal.returns-clause-held
returns-clause-held c = c.void.ensures.void.within.later.geometry ∙ c.requires.held
