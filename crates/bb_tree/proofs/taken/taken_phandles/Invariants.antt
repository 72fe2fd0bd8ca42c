use Rattle.std.proofs.Common.{◌≡◌, true, take}
use Rattle.std.specs.List.{filter_map}
use Rattle.bb_tree.specs.Resolve.{is_distinct, phandle_among}
use Rattle.bb_tree.specs.Slots.{props_at}
use Rattle.bb_tree.proofs.taken.taken_phandles.Given as goal

-- the phandles so far are distinct, and taken
abbrev pub invariant-loop-k : goal.invariant-loop-k
invariant-loop-k l = record {
  distinct : is_distinct l.taken.keys ≡ true;
  keys : l.taken.keys ≡ filter_map (λ k. phandle_among (props_at l.slots k)) (take l.k-index l.order);
}
