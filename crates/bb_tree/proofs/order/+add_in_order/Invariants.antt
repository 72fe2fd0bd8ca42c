use Rattle.std.proofs.Common.{◌≡◌, ◌++◌, ◌∷◌, ◌-◌, length, map, take}
use Rattle.std.specs.List.{flat_map}
use Rattle.bb_tree.specs.Slots.{props_at, props_below, table_at}
use Rattle.bb_tree.proofs.order.+add_in_order.Given as goal

abbrev pub decreases-add_in_order : goal.decreases-add_in_order
decreases-add_in_order l = length l.slots.now - l.k

-- the slot, and those under its nodes so far, are added
abbrev pub invariant-loop-i : goal.invariant-loop-i
invariant-loop-i l =
    map (props_at l.slots) l.order.items ≡ map (props_at l.slots) l.fn.order.items ++ (props_at l.slots l.k ∷ flat_map (λ e. props_below l.slots e.1) (take l.i (table_at l.slots l.k)))
