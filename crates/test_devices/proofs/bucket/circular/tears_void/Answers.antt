use Rattle.std.proofs.Common.{subst, sym}
use Rattle.bb_flash.specs.Memory.{Memory, device_of}
use Rattle.bb_bucket.specs.Calls.{Agrees}
use Rattle.bb_circular.specs.Circular.{circular_holding}
use Rattle.test_devices.proofs.bucket.circular.tears_void.Goals as goal

pub void-requires-clause-agreed : goal.void-requires-clause-agreed
void-requires-clause-agreed g c =
    subst (λ (board : Memory). Agrees (circular_holding c.finds.new.log) (device_of board)) (sym c.in_ok-plan_fault.ensures.ok)
    c.finds.ensures.agreed
