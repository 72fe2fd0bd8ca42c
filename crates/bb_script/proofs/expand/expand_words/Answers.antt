use Rattle.std.proofs.Common.{ap, map, refl, sym, subst, ◌≡◌, ◌<◌, ◌∙◌}
use Rattle.std.specs.Option.{option_map}
use Rattle.std.proofs.lemmas.Result.{IfOk-weaker}
use Rattle.bb_script.specs.FieldsSoFar.{OpenFields, StopsLong, all_marks, fields_seen, fields_within, marks_taken, no_fields}
use Rattle.bb_script.specs.Words.{word_atoms}
use Rattle.bb_script.proofs.FieldLemmas.{expanded, none-after}
use Rattle.bb_script.proofs.expand.expand_words.Goals as goal

pub returns-in-Ok : goal.returns-in-Ok
returns-in-Ok g c =
    c.fields_in_limit.ensures
    ∙ ap fields_within (c.in-Ok.ensures.ok ∙ ap (λ (f : OpenFields). marks_taken f (all_marks (g.V.ScriptVariables.value_of c.args.variables.now) c.args.status (map word_atoms c.args.words.now))) c.no_fields-fields.ensures)
    ∙ expanded (g.V.ScriptVariables.value_of c.args.variables.now) c.args.status (map word_atoms c.args.words.now)

pub returns-in-Err : goal.returns-in-Err
returns-in-Err g c =
    IfOk-weaker c.no_fields_after.result _ _
    (λ fields same. ap (option_map (λ f. f.items)) same.1
    ∙ none-after (g.V.ScriptVariables.value_of c.args.variables.now) c.args.status (map word_atoms c.args.words.now) (fields_seen c.no_fields-fields.result) c.in-Err.stop c.no_fields-fields.ensures c.in-Err.ensures.long same.0)
    c.no_fields_after.ensures
