use Rattle.std.proofs.lemmas.Result.{err_from_is_err_and}
use Rattle.std.proofs.Common.{map}
use Rattle.bb_script.specs.FieldsSoFar.{all_marks, closed_marks, fields_seen, marks_taken}
use Rattle.bb_script.specs.Words.{word_atoms}
use Rattle.bb_script.proofs.FieldLemmas.{words-stop}
use Rattle.bb_script.proofs.expand.add_words.Goals as goal

pub returns-in_err-add_word-clause-long : goal.returns-in_err-add_word-clause-long
returns-in_err-add_word-clause-long g c =
    let p = err_from_is_err_and c.from_residual.result c.from_residual.ensures.1 in
    rw (p.1, p.2) (words-stop (closed_marks (g.V.ScriptVariables.value_of c.args.variables.now) c.args.status) c.args.words.now c.loop-word.word-index c.word-item.result (fields_seen c.loop-word.fields)
    (marks_taken (fields_seen c.args.fields.now) (all_marks (g.V.ScriptVariables.value_of c.args.variables.now) c.args.status (map word_atoms c.args.words.now))) c.in_err-add_word.field-0.0
    c.loop-word-test.true c.word-item.is c.loop-word.invariant c.in_err-add_word.ensures.long)
