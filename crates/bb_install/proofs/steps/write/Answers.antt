use Rattle.std.proofs.Common.{None, Some, refl}
use Rattle.bb_install.proofs.steps.write.Goals as goal

pub returns-in-Ok : goal.returns-in-Ok
returns-in-Ok g c =
    let calls = c.in-Ok.ensures.calls in
    record {
      stuck = None;
      run = record {
        stands = c.requires.place;
        wrote = c.in-Ok.ensures.done;
        calls = record { within = calls.within; faults = calls.faults; read_faults = calls.read_faults; reads = calls.reads };
      };
      gives = refl;
    }

pub returns-in-Err : goal.returns-in-Err
returns-in-Err g c =
    let calls = c.in-Err.ensures.calls in
    record {
      stuck = Some c.in-Err.fault.at;
      run = record {
        stands = c.requires.place;
        wrote = c.in-Err.ensures.failed;
        calls = record { within = calls.within; faults = calls.faults; read_faults = calls.read_faults; reads = calls.reads };
      };
      gives = refl;
    }
