use Rattle.std.proofs.Common.{◌++◌, ap, map}
use Rattle.std.proofs.lemmas.Result.{err_from_is_err_and}
use Rattle.bb_script.specs.Fields.{Char, atom_marks}
use Rattle.bb_script.specs.FieldsSoFar.{fields_seen, marks_taken, part_marks}
use Rattle.bb_script.specs.Words.{special_atom}
use Rattle.bb_script.proofs.FieldLemmas.{stops-later}
use Rattle.bb_script.proofs.expand.add_part.Goals as goal

pub returns-in_err-add_text-clause-long : goal.returns-in_err-add_text-clause-long
returns-in_err-add_text-clause-long g c =
    let p = err_from_is_err_and c.from_residual.result c.from_residual.ensures.1 in
    rw (p.1, p.2) (stops-later (fields_seen c.args.fields.now)
    (marks_taken (fields_seen c.args.fields.now) (part_marks (g.V.ScriptVariables.value_of c.args.variables.now) c.args.status c.args.part.now))
    (map Char c.as_slice.result.now) (atom_marks (g.V.ScriptVariables.value_of c.args.variables.now) c.args.status (special_atom c.args.part.now.special)) c.in_err-add_text.field-0.0
    (ap (λ l. marks_taken (fields_seen c.args.fields.now) (map Char l ++ atom_marks (g.V.ScriptVariables.value_of c.args.variables.now) c.args.status (special_atom c.args.part.now.special))) c.as_slice.ensures.value)
    c.in_err-add_text.ensures.long)
