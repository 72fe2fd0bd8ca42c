use Rattle.std.proofs.Common.{◌≡◌, length, take}
use Rattle.bb_actions.specs.Actions.{after_all}
use Rattle.bb_actions.proofs.table.put_values.Given as goal

-- the values so far are put
abbrev pub invariant-loop-action : goal.invariant-loop-action
invariant-loop-action l = record {
  table : l.table ≡ after_all l.fn.table (take l.action-index l.action-items);
  sized : length l.table ≡ length l.fn.table;
}
