use Rattle.std.proofs.Common.{◌∙◌}
use Rattle.test_devices.proofs.Serving.{circular_serves, ok_written}
use Rattle.test_devices.proofs.bucket.circular.calls.write.Goals as goal

pub write-requires-clause-serves : goal.write-requires-clause-serves
write-requires-clause-serves c = circular_serves _ _ c.requires.here c.requires.held

pub returns-clause-written : goal.returns-clause-written
returns-clause-written c = ok_written c.write.result _ _ _ _ c.requires.here c.write.ensures.write.done c.write.ensures.write.erases c.write.ensures.write.within.later

pub returns-clause-held : goal.returns-clause-held
returns-clause-held c = c.write.ensures.write.within.later.geometry ∙ c.requires.held
