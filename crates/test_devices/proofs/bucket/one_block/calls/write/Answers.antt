use Rattle.std.proofs.Common.{◌∙◌}
use Rattle.test_devices.proofs.Serving.{one_block_serves}
use Rattle.test_devices.proofs.bucket.one_block.calls.write.Goals as goal

pub write-requires-clause-serves : goal.write-requires-clause-serves
write-requires-clause-serves c = one_block_serves _ _ c.requires.here c.requires.held

pub returns-clause-held : goal.returns-clause-held
returns-clause-held c = c.write.ensures.write.within.later.geometry ∙ c.requires.held
