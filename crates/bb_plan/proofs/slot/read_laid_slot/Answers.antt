use Rattle.std.proofs.Common.{sym}
use Rattle.std.specs.Option.{option_copied}
use Rattle.bb_plan.specs.Installing.{laid_slot_as, laid_slot_in}
use Rattle.bb_plan.proofs.Readings.{file_step, file_stopped, same_reading}
use Rattle.bb_plan.specs.FilesRead.{and_then, file_reading, reading_of}
use Rattle.bb_plan.proofs.slot.read_laid_slot.Goals as goal

pub returns-in_err-bytes-clause-read : goal.returns-in_err-bytes-clause-read
returns-in_err-bytes-clause-read g c =
    let d = c.args.described.now in
    file_stopped (laid_slot_in d.name c.args.label.now c.args.geometry) laid_slot_as
    c.in_err-bytes.ensures.read c.from_residual.result c.from_residual.ensures.1

pub returns-clause-read : goal.returns-clause-read
returns-clause-read g c =
    let d = c.args.described.now in
    same_reading
    (λ name.
    and_then (λ bytes. reading_of (laid_slot_in name c.args.label.now c.args.geometry bytes))
    (file_reading d.file))
    laid_slot_as (sym c.as_ref-name.ensures.value)
    (file_step (laid_slot_in (option_copied c.as_ref-name.result) c.args.label.now c.args.geometry) laid_slot_as c.laid_slot.result
    c.in_ok-bytes.ensures.read c.as_slice.ensures c.laid_slot.ensures.gives)
