use Rattle.std.proofs.Common.{◌++◌, ◌∷◌, [], ap, map, sym, ◌∙◌}
use Rattle.std.proofs.lemmas.Result.{err_from_is_err_and, on_ok_weaker}
use Rattle.bb_script.specs.Fields.{Char, Gap}
use Rattle.bb_script.specs.FieldsSoFar.{closed_marks, fields_seen, marks_taken, parts_marks}
use Rattle.bb_script.specs.Words.{word_atoms}
use Rattle.bb_script.proofs.FieldLemmas.{after-letters, after-parts, marks-of_word, stops-later}
use Rattle.bb_script.proofs.expand.add_word.Goals as goal

pub returns-in_err-add_parts-clause-long : goal.returns-in_err-add_parts-clause-long
returns-in_err-add_parts-clause-long g c =
    let p = err_from_is_err_and c.from_residual.result c.from_residual.ensures.1 in
    rw (p.1, p.2) (stops-later (fields_seen c.args.fields.now)
    (marks_taken (fields_seen c.args.fields.now) (closed_marks (g.V.ScriptVariables.value_of c.args.variables.now) c.args.status (word_atoms c.args.word.now)))
    (parts_marks (g.V.ScriptVariables.value_of c.args.variables.now) c.args.status c.as_slice.result.now) (map Char c.args.word.now.letters.items ++ Gap ∷ []) c.in_err-add_parts.field-0.0
    (ap (λ l. marks_taken (fields_seen c.args.fields.now) (parts_marks (g.V.ScriptVariables.value_of c.args.variables.now) c.args.status l ++ (map Char c.args.word.now.letters.items ++ Gap ∷ []))) c.as_slice.ensures.value
    ∙ ap (marks_taken (fields_seen c.args.fields.now)) (sym (marks-of_word (g.V.ScriptVariables.value_of c.args.variables.now) c.args.status c.args.word.now)))
    c.in_err-add_parts.ensures.long)

pub returns-in_err-add_text-clause-long : goal.returns-in_err-add_text-clause-long
returns-in_err-add_text-clause-long g c =
    let p = err_from_is_err_and c.from_residual-in_err-add_text.result c.from_residual-in_err-add_text.ensures.1 in
    rw (p.1, p.2) (stops-later (fields_seen c.add_parts.new.fields)
    (marks_taken (fields_seen c.args.fields.now) (closed_marks (g.V.ScriptVariables.value_of c.args.variables.now) c.args.status (word_atoms c.args.word.now)))
    (map Char c.as_slice-2.result.now) (Gap ∷ []) c.in_err-add_text.field-0.0
    (ap (λ l. marks_taken (fields_seen c.add_parts.new.fields) (map Char l ++ Gap ∷ [])) c.as_slice-2.ensures.value
    ∙ after-parts (g.V.ScriptVariables.value_of c.args.variables.now) c.args.status c.args.word.now (fields_seen c.args.fields.now) (fields_seen c.add_parts.new.fields)
    (c.in_ok-add_parts.ensures.ok ∙ ap (λ l. marks_taken (fields_seen c.args.fields.now) (parts_marks (g.V.ScriptVariables.value_of c.args.variables.now) c.args.status l)) c.as_slice.ensures.value))
    c.in_err-add_text.ensures.long)

pub returns-clause-ok : goal.returns-clause-ok
returns-clause-ok g c =
    let whole = after-letters (g.V.ScriptVariables.value_of c.args.variables.now) c.args.status c.args.word.now (fields_seen c.args.fields.now) (fields_seen c.add_parts.new.fields) (fields_seen c.add_text.new.fields)
    (c.in_ok-add_parts.ensures.ok ∙ ap (λ l. marks_taken (fields_seen c.args.fields.now) (parts_marks (g.V.ScriptVariables.value_of c.args.variables.now) c.args.status l)) c.as_slice.ensures.value)
    (c.in_ok-add_text.ensures.ok ∙ ap (λ l. marks_taken (fields_seen c.add_parts.new.fields) (map Char l)) c.as_slice-2.ensures.value) in
    on_ok_weaker c.end_field.result (λ ended. ended ∙ whole) c.end_field.ensures.ok
