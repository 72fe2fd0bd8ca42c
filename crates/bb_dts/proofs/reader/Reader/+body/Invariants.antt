use Rattle.std.proofs.Common.{◌≡◌, ◌≤◌, ◌+◌, ◌*◌, [], length}
use Rattle.std.specs.String.{string_bytes}
use Rattle.bb_dts.specs.declared.label.Level.TheVariants.{AtProps}
use Rattle.bb_dts.specs.Descent.{labels_walk_from, items_at, body_of, nodes_read}
use Rattle.bb_dts.specs.Readers.{LabelsOnly}
use Rattle.bb_dts.specs.Walk.{body_at}
use Rattle.bb_dts.proofs.reader.Reader.+body.Given as goal

abbrev pub decreases-read_body : goal.decreases-read_body
decreases-read_body l = 2 * length l.text.now + 1

abbrev pub decreases-read_item : goal.decreases-read_item
decreases-read_item l = 2 * length l.text.now

abbrev pub decreases-read_named : goal.decreases-read_named
decreases-read_named l = 2 * length l.text.now + 1

abbrev pub decreases-read_node : goal.decreases-read_node
decreases-read_node l = 2 * length l.text.now + 2

-- the walk from the beginning of the body is the walk from here, with what is read of it
abbrev pub invariant-read_body-loop-content : goal.invariant-read_body-loop-content
invariant-read_body-loop-content l =
    (labels_walk_from l.fn.self.input.total AtProps [] l.text l.fn.self.draft.labels
    (body_at (string_bytes l.fn.self.path) l.level)
    ≡ labels_walk_from l.fn.self.input.total (items_at l.has_nodes) [] l.rest
    l.self.draft.labels (body_of (string_bytes l.fn.self.path) l.level l.content))
    × LabelsOnly l.fn.self l.self × (nodes_read l.content + length l.rest ≤ length l.text)

abbrev pub decreases-read_body-loop-content : goal.decreases-read_body-loop-content
decreases-read_body-loop-content l = length l.rest
