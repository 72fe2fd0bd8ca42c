use Rattle.std.proofs.Common.{map}
use Rattle.std.proofs.lemmas.Result.{err_from_is_err_and}
use Rattle.bb_script.specs.Fields.{split_mark}
use Rattle.bb_script.specs.FieldsSoFar.{fields_seen, marks_taken}
use Rattle.bb_script.proofs.FieldLemmas.{map-stops}
use Rattle.bb_script.proofs.fields.add_split_text.Goals as goal

pub returns-in_err-add_split_byte-clause-long : goal.returns-in_err-add_split_byte-clause-long
returns-in_err-add_split_byte-clause-long c =
    let p = err_from_is_err_and c.from_residual.result c.from_residual.ensures.1 in
    rw (p.1, p.2) (map-stops split_mark c.args.text.now c.loop-byte.byte-index (fields_seen c.loop-byte.fields)
    (marks_taken (fields_seen c.args.fields.now) (map split_mark c.args.text.now)) c.in_err-add_split_byte.field-0.0
    c.loop-byte-test.true c.loop-byte.invariant c.in_err-add_split_byte.ensures.long)
