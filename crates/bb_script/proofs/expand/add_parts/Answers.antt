use Rattle.std.proofs.lemmas.Result.{err_from_is_err_and}
use Rattle.bb_script.specs.FieldsSoFar.{fields_seen, marks_taken, part_marks, parts_marks}
use Rattle.bb_script.proofs.FieldLemmas.{parts-stop}
use Rattle.bb_script.proofs.expand.add_parts.Goals as goal

pub returns-in_err-add_part-clause-long : goal.returns-in_err-add_part-clause-long
returns-in_err-add_part-clause-long g c =
    let p = err_from_is_err_and c.from_residual.result c.from_residual.ensures.1 in
    rw (p.1, p.2) (parts-stop (part_marks (g.V.ScriptVariables.value_of c.args.variables.now) c.args.status) c.args.parts.now c.loop-part.part-index c.part-item.result (fields_seen c.loop-part.fields)
    (marks_taken (fields_seen c.args.fields.now) (parts_marks (g.V.ScriptVariables.value_of c.args.variables.now) c.args.status c.args.parts.now)) c.in_err-add_part.field-0.0
    c.loop-part-test.true c.part-item.is c.loop-part.invariant c.in_err-add_part.ensures.long)
