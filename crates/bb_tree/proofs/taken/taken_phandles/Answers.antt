use Rattle.std.proofs.Common.{◌≡◌, ℕ, Option, Some, Result, Ok, Err, map, get_or, sym, ap, ◌∙◌, subst, arith, slice_get}
use Rattle.std.specs.List.{filter_map}
use Rattle.std.proofs.lemmas.List.{take_all}
use Rattle.std.proofs.lemmas.Option.{slice_get-get_or}
use Rattle.bb_tree.specs.declared.tree_error.TreeError.{TreeError}
use Rattle.bb_tree.specs.Resolve.{is_distinct, phandle_among}
use Rattle.bb_tree.specs.Slots.{props_at}
use Rattle.bb_tree.specs.Taking.{TakesPhandle, TakesAll}
use Rattle.bb_tree.proofs.Nodes.{err_gives}
use Rattle.bb_tree.proofs.Takings.{Takes-next, Takes-twice, filter_map-map}
use Rattle.bb_tree.proofs.taken.taken_phandles.Goals as goal

pub loop-k-init : goal.loop-k-init
loop-k-init c = record { distinct = ap is_distinct c.requires; keys = c.requires }

pub returns-in_err-take_phandle : goal.returns-in_err-take_phandle
returns-in_err-take_phandle c =
    let f : ℕ → Option ℕ = λ k. phandle_among (props_at c.args.slots.now k) in
    let order = c.args.order.now in
    let k = get_or order c.loop-k.k-index 0 in
    let at : slice_get order c.loop-k.k-index ≡ Some k = slice_get-get_or order c.loop-k.k-index 0 (omega arith) in
    let e = c.in_err-take_phandle.field-0.0 in
    let new = c.take_phandle.new.taken.keys in
    let err = err_gives c.from_residual-in_err-take_phandle.result e c.from_residual-in_err-take_phandle.ensures.1 in
    let took = subst (λ (o : Option ℕ). TakesPhandle o c.loop-k.taken.keys new (Err e)) c.in_ok-phandle.ensures c.in_err-take_phandle.ensures in
    subst (λ (r : Result (Unit {0}) TreeError). TakesAll (filter_map phandle_among (map (props_at c.args.slots.now) order)) new r) (sym err)
    (λ m.
    let v = Takes-twice f order c.loop-k.k-index k c.loop-k.taken.keys new e at c.loop-k.invariant.keys took m in
    (v.0, ap is_distinct (filter_map-map (props_at c.args.slots.now) phandle_among order) ∙ v.1))

pub loop-k-preserved : goal.loop-k-preserved
loop-k-preserved c =
    let f : ℕ → Option ℕ = λ k. phandle_among (props_at c.args.slots.now k) in
    let order = c.args.order.now in
    let k = get_or order c.loop-k.k-index 0 in
    let at : slice_get order c.loop-k.k-index ≡ Some k = slice_get-get_or order c.loop-k.k-index 0 (omega arith) in
    let new = c.take_phandle.new.taken.keys in
    let took = subst (λ (o : Option ℕ). TakesPhandle o c.loop-k.taken.keys new (Ok tt)) c.in_ok-phandle.ensures c.in_ok-take_phandle.ensures in
    let v = Takes-next f order c.loop-k.k-index k c.loop-k.taken.keys new tt at c.loop-k.invariant.distinct c.loop-k.invariant.keys took in
    record { distinct = v.0; keys = v.1 }

pub returns : goal.returns
returns c =
    let f : ℕ → Option ℕ = λ k. phandle_among (props_at c.args.slots.now k) in
    let order = c.args.order.now in
    let all = c.loop-k.invariant.keys ∙ ap (filter_map f) (take_all c.loop-k.k-index order (omega arith)) ∙ sym (filter_map-map (props_at c.args.slots.now) phandle_among order) in
    (ap is_distinct (sym all) ∙ c.loop-k.invariant.distinct, all)
