use Rattle.test_devices.proofs.Serving.{one_block_serves}
use Rattle.test_devices.proofs.bucket.one_block.calls.read.Goals as goal

pub read-requires-clause-serves : goal.read-requires-clause-serves
read-requires-clause-serves c = one_block_serves _ _ c.requires.here c.requires.held
