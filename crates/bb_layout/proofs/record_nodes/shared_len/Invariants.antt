use Rattle.std.proofs.Common.{◌≡◌, ◌+◌, drop}
use Rattle.std.specs.List.{common_prefix_len}
use Rattle.std.specs.Str.{bytes_eq}
use Rattle.bb_layout.proofs.record_nodes.shared_len.Given as goal

-- all names so far are the same
abbrev pub invariant-loop-depth : goal.invariant-loop-depth
invariant-loop-depth l = common_prefix_len bytes_eq l.path l.other ≡ l.depth + common_prefix_len bytes_eq (drop l.depth l.path) (drop l.depth l.other)
