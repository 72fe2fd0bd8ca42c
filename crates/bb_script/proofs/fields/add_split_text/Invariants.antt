use Rattle.std.proofs.Common.{◌≡◌, drop, map}
use Rattle.bb_script.specs.Fields.{split_mark}
use Rattle.bb_script.specs.FieldsSoFar.{fields_seen, marks_taken}
use Rattle.bb_script.proofs.fields.add_split_text.Given as goal

abbrev pub invariant-loop-byte : goal.invariant-loop-byte
invariant-loop-byte l =
    marks_taken (fields_seen l.fields) (map split_mark (drop l.byte-index l.text))
    ≡ marks_taken (fields_seen l.fn.fields) (map split_mark l.text)
