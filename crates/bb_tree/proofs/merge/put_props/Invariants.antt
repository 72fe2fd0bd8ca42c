use Rattle.std.proofs.Common.{◌≡◌, ◌++◌, map}
use Rattle.bb_tree.specs.declared.draft_prop.DraftProp.{DraftProp}
use Rattle.bb_tree.specs.Slots.{Changes, with_props}
use Rattle.bb_tree.proofs.merge.put_props.Given as goal

-- the properties so far are put into the node
abbrev pub invariant-loop-prop : goal.invariant-loop-prop
invariant-loop-prop l = record {
  split : l.yielded ++ l.prop-iterator.rest.items ≡ l.fn.props;
  changes : Changes l.k (with_props (map (λ (p : DraftProp). (p.name, p.parts)) l.yielded)) l.fn.slots.items l.slots.items;
}
