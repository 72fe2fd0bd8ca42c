use Rattle.std.proofs.Common.{◌≡◌, ◌++◌, drop, map}
use Rattle.std.specs.List.{flat_map}
use Rattle.bb_script.specs.Words.{Letter, part_atoms, word_atoms}
use Rattle.bb_interpreter.specs.Assigned.{uncut_text}
use Rattle.bb_interpreter.proofs.assigned.add_word_after.Given as goal

abbrev pub invariant-loop-part : goal.invariant-loop-part
invariant-loop-part g l =
    l.text ++ uncut_text (g.V.ScriptVariables.value_of l.variables) l.status (drop l.left (flat_map part_atoms (drop l.part-index l.part-items) ++ map Letter l.word.letters.items))
    ≡ l.fn.text ++ uncut_text (g.V.ScriptVariables.value_of l.variables) l.status (drop l.fn.passed (word_atoms l.word))
