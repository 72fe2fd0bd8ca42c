-- How a session ended, as a drill has to know it.
use Rattle.std.specs.Prelude.{Result, Ok, Err}
use Rattle.std.specs.Option.{option_map_or}
use Rattle.bb_drill.specs.declared.sessions.SessionEnd.{SessionEnd}
use Rattle.bb_drill.specs.declared.sessions.SessionEnd.TheVariants.{Whole, Unread, Unwritten}
use Rattle.bb_drill.specs.declared.sessions.SessionEnd.TheVariants.{NoMemory}
use Rattle.bb_plan.specs.Refusal.{status_of}
use Rattle.bb_plan.specs.declared.refusal.Refusal.{Refusal}
use Rattle.bb_plan.specs.declared.status.Status.{Status}
use Rattle.bb_plan.specs.declared.status.Status.TheVariants as statuses
use Rattle.bb_session.specs.declared.report.Report.{Report}

-- Where no target qualifies, none is to be marked good, or a start failed, its saves were made all
-- the same. The refusals of files and words can't come of the drill's own.
abbrev pub end_of_status : Status → SessionEnd
end_of_status statuses.Done = Whole
end_of_status statuses.NoTarget = Whole
end_of_status statuses.NoGood = Whole
end_of_status statuses.StartFailed = Whole
end_of_status statuses.ReadFault = Unread
end_of_status statuses.WriteFault = Unwritten
end_of_status _ = NoMemory

-- the status of what was given of a session before anything is sent
abbrev pub status_given : Result Report Refusal → Status
status_given (Ok report) = option_map_or status_of report.refusal statuses.Done
status_given (Err refusal) = status_of refusal

abbrev pub end_given : Result Report Refusal → SessionEnd
end_given given = end_of_status (status_given given)
