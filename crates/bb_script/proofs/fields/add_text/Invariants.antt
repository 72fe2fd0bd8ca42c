use Rattle.std.proofs.Common.{◌≡◌, drop, map}
use Rattle.bb_script.specs.Fields.{Char}
use Rattle.bb_script.specs.FieldsSoFar.{fields_seen, marks_taken}
use Rattle.bb_script.proofs.fields.add_text.Given as goal

abbrev pub invariant-loop-byte : goal.invariant-loop-byte
invariant-loop-byte l =
    marks_taken (fields_seen l.fields) (map Char (drop l.byte-index l.text))
    ≡ marks_taken (fields_seen l.fn.fields) (map Char l.text)
