use Rattle.std.proofs.Common.{◌≡◌, drop}
use Rattle.std.specs.String.{string_bytes}
use Rattle.bb_dts.specs.Readers.{LabelsOnly}
use Rattle.bb_dts.specs.Walk.{label_all}
use Rattle.bb_dts.proofs.reader.Reader.label_all.Given as goal

-- the labels that are left are given to what is there so far
abbrev pub invariant-loop-label : goal.invariant-loop-label
invariant-loop-label l =
    (label_all (string_bytes l.fn.self.path) l.label-items l.fn.self.draft.labels ≡ label_all (string_bytes l.fn.self.path) (drop l.label-index l.label-items) l.self.draft.labels) × LabelsOnly l.fn.self l.self
