use Rattle.std.proofs.Common.{Ok}
use Rattle.bb_plan.proofs.EntryPlans.{entries_read, entries_refused, entries_short}
use Rattle.bb_plan.proofs.entries.read_entries.Goals as goal

pub returns-in-Ok-clause-read : goal.returns-in-Ok-clause-read
returns-in-Ok-clause-read g c =
    let call = c.in-Ok.ensures in
    entries_read c.args.chooser.now _ _ call.told (Ok c.in-Ok.plans) call.planned (λ h. cc)
    call.counts

pub returns-in_err-entry_fault-in-Err-clause-read : goal.returns-in_err-entry_fault-in-Err-clause-read
returns-in_err-entry_fault-in-Err-clause-read g c =
    let call = c.in-Err.ensures in
    entries_short c.args.chooser.now _ _ call.told c.in-Err.fault call.names call.counts
    c.from_residual.result c.from_residual.ensures.1

pub returns-in_ok-entry_fault-in-Err-clause-read : goal.returns-in_ok-entry_fault-in-Err-clause-read
returns-in_ok-entry_fault-in-Err-clause-read g c =
    let call = c.in-Err.ensures in
    entries_refused c.args.chooser.now _ _ call.told c.in-Err.fault call.planned call.names
    call.counts
    c.in_ok-entry_fault-in-Err.field-0 c.in_ok-entry_fault-in-Err.ensures.is
