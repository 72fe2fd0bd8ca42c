use Rattle.std.proofs.Common.{◌++◌, ◌∷◌, [], List, ℕ, map, take, sym, ap, ◌∙◌, arith, append_assoc}
use Rattle.std.specs.List.{flat_map}
use Rattle.std.proofs.lemmas.List.{map-append, take_all}
use Rattle.bb_tree.specs.declared.part.Part.{Part}
use Rattle.bb_tree.specs.Slots.{props_at, props_below, table_at}
use Rattle.bb_tree.proofs.Below.{props_below_children, child_within, take_next, flat_map_push}
use Rattle.bb_tree.proofs.order.+add_in_order.Goals as goal

pub loop-i-init : goal.loop-i-init
loop-i-init t c = ap (map (props_at c.args.slots.now)) c.in_ok-push.ensures.items ∙ map-append (props_at c.args.slots.now) c.args.order.now.items (c.args.k ∷ [])

pub add_in_order-requires : goal.add_in_order-requires
add_in_order-requires t c =
    let b = child_within c.args.slots.now c.args.k c.loop-i.i (c.in-Some._name.now, c.in-Some.child) c.requires.sound c.requires.within (sym c.in-Some.ensures) in
    (omega (arith, c.decreases, b.0, b.1), (b.1, c.requires.sound))

pub loop-i-preserved : goal.loop-i-preserved
loop-i-preserved t c =
    let slots = c.args.slots.now in
    let table = table_at slots c.args.k in
    let old = map (props_at slots) c.args.order.now.items in
    let child : List ℕ × ℕ = (c.in-Some._name.now, c.in-Some.child) in
    let below : List ℕ × ℕ → List (List (List ℕ × List Part)) = λ e. props_below slots e.1 in
    c.in_ok-add_in_order.ensures ∙ ap (λ l. l ++ below child) c.loop-i.invariant
    ∙ append_assoc old (props_at slots c.args.k ∷ flat_map below (take c.loop-i.i table)) (below child)
    ∙ ap (λ l. old ++ (props_at slots c.args.k ∷ l)) (sym (flat_map_push below (take c.loop-i.i table) child) ∙ ap (flat_map below) (sym (take_next table c.loop-i.i child (sym c.in-Some.ensures))))

pub returns : goal.returns
returns t c =
    let slots = c.args.slots.now in
    let k = c.args.k in
    c.loop-i.invariant
    ∙ ap (λ l. map (props_at slots) c.args.order.now.items ++ (props_at slots k ∷ flat_map (λ e. props_below slots e.1) l)) (take_all c.loop-i.i (table_at slots k) (omega (arith, c.count_nodes-i-end.ensures)))
    ∙ ap (λ l. map (props_at slots) c.args.order.now.items ++ l) (sym (props_below_children slots c.requires.sound k))
