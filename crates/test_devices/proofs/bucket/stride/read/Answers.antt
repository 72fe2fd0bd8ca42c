use Rattle.test_devices.proofs.Serving.{stride_serves}
use Rattle.test_devices.proofs.bucket.stride.read.Goals as goal

pub read-requires-clause-serves : goal.read-requires-clause-serves
read-requires-clause-serves c = stride_serves _ c.args.board.now.geometry c.requires.here c.requires.held
