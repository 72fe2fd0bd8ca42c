use Rattle.std.proofs.Common.{◌≡◌, drop}
use Rattle.bb_script.specs.FieldsSoFar.{fields_seen, marks_taken, parts_marks}
use Rattle.bb_script.proofs.expand.add_parts.Given as goal

abbrev pub invariant-loop-part : goal.invariant-loop-part
invariant-loop-part g l =
    marks_taken (fields_seen l.fields) (parts_marks (g.V.ScriptVariables.value_of l.variables) l.status (drop l.part-index l.parts))
    ≡ marks_taken (fields_seen l.fn.fields) (parts_marks (g.V.ScriptVariables.value_of l.variables) l.status l.parts)
