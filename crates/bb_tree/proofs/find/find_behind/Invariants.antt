use Rattle.std.proofs.Common.{◌≡◌, ◌==◌, List, ℕ, length, map, take, Some, Bor}
use Rattle.std.specs.List.{slice_split}
use Rattle.bb_tree.specs.NodeViews.{branch_of}
use Rattle.bb_tree.specs.Paths.{node_at}
use Rattle.bb_tree.proofs.find.find_behind.Given as goal

abbrev now : Bor (List ℕ) → List ℕ
now y = y.now

-- the names so far lead to the node
abbrev pub invariant-loop-name : goal.invariant-loop-name
invariant-loop-name l = record {
  so_far : map now l.yielded ≡ take (length l.yielded) (slice_split (λ b. b == 47) l.names);
  leads : node_at (take (length l.yielded) (slice_split (λ b. b == 47) l.names)) (branch_of l.root) ≡ Some (branch_of l.node);
}
