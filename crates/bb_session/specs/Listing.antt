-- What is sent of a history, by how its reading ended.
use Rattle.std.specs.Prelude.{◌≡◌, ℕ, List, Some, None, Result, Ok, Err}
use Rattle.bb_history.specs.declared.fault.HistoryFault.{HistoryFault}
use Rattle.bb_history.specs.declared.fault.HistoryFault.TheVariants as faults
use Rattle.bb_plan.specs.declared.refusal.Refusal.{Refusal}
use Rattle.bb_plan.specs.declared.refusal.Refusal.TheVariants as refusals
use Rattle.bb_session.specs.declared.report.Report.{Report}

-- the text; after a read that failed as much of it as there was, with the line of that; and nothing
-- where memory was refused
abbrev pub ReportsHistory :
    {T : Type 0} → List ℕ → Result T HistoryFault → Result Report Refusal → Type 0
ReportsHistory text (Ok done) given = given ≡ Ok (record { text = text; refusal = None })
ReportsHistory text (Err faults.ReadFault) given =
    given ≡ Ok (record { text = text; refusal = Some refusals.ReadFault })
ReportsHistory text (Err faults.NoMemory) given = given ≡ Err refusals.NoMemory
