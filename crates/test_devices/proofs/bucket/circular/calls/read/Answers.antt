use Rattle.test_devices.proofs.Serving.{circular_serves}
use Rattle.test_devices.proofs.bucket.circular.calls.read.Goals as goal

pub read-requires-clause-serves : goal.read-requires-clause-serves
read-requires-clause-serves c = circular_serves _ _ c.requires.here c.requires.held
