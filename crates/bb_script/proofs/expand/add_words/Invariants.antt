use Rattle.std.proofs.Common.{◌≡◌, drop, map}
use Rattle.bb_script.specs.FieldsSoFar.{all_marks, fields_seen, marks_taken}
use Rattle.bb_script.specs.Words.{word_atoms}
use Rattle.bb_script.proofs.expand.add_words.Given as goal

abbrev pub invariant-loop-word : goal.invariant-loop-word
invariant-loop-word g l =
    marks_taken (fields_seen l.fields) (all_marks (g.V.ScriptVariables.value_of l.variables) l.status (map word_atoms (drop l.word-index l.words)))
    ≡ marks_taken (fields_seen l.fn.fields) (all_marks (g.V.ScriptVariables.value_of l.variables) l.status (map word_atoms l.words))
