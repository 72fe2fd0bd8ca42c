use Rattle.std.proofs.Common.{◌≡◌, ◌==◌, ◌+◌, ◌++◌, ◌∷◌, [], List, ℕ, length, take, drop, None, Bor, refl, sym, ap, ◌∙◌, arith, lit<, length-append}
use Rattle.std.specs.List.{slice_split}
use Rattle.std.specs.Option.{option_and_then, option_map, option_copied}
use Rattle.std.proofs.lemmas.Iterator.Consumers.{YieldsList-turn, YieldsList-end}
use Rattle.std.proofs.lemmas.Iterator.Splits.{YieldsList-from_str_split}
use Rattle.std.proofs.lemmas.List.{take_more, take_all, map-append, take-append-drop}
use Rattle.bb_tree.specs.NodeViews.{branch_of}
use Rattle.bb_tree.specs.Paths.{node_at}
use Rattle.bb_tree.proofs.Merging.{node_at-append}
use Rattle.bb_tree.proofs.Nodes.{child_at_step}
use Rattle.bb_tree.proofs.find.find_behind.Goals as goal

pub loop-name-init : goal.loop-name-init
loop-name-init c = record { so_far = refl; leads = refl }

pub returns-in_err-node : goal.returns-in_err-node
returns-in_err-node c =
    let root = branch_of c.args.root.now in
    let all = slice_split (λ (b : ℕ). b == 47) c.args.names.now in
    let n = length c.loop-name.yielded in
    let name = c.in-Some.name.now in
    let t = YieldsList-turn (YieldsList-from_str_split 47 c.args.names.now (lit< tt) (cc) (cc) (cc)) c.loop-name.yielded _ c.loop-name.yielded_by _ _ c.in-Some.name c.in-Some.is c.next.ensures.steps in
    let next : take (n + 1) all ≡ take n all ++ name ∷ [] = take_more all n name t.0 ∙ ap (λ x. take n all ++ x ∷ []) (sym t.1) in
    let none : node_at (take (n + 1) all) root ≡ None =
    ap (λ l. node_at l root) next ∙ child_at_step (take n all) name root c.loop-name.node.now c.loop-name.invariant.leads ∙ sym c.child_named.ensures ∙ ap (λ o. option_map branch_of (option_copied o)) c.in_err-node.was in
    ap (λ o. option_map branch_of (option_copied o)) c.from_residual.ensures
    ∙ sym (ap (option_and_then (node_at (drop (n + 1) all))) none)
    ∙ sym (node_at-append (take (n + 1) all) (drop (n + 1) all) root) ∙ ap (λ l. node_at l root) (take-append-drop (n + 1) all)

pub loop-name-preserved : goal.loop-name-preserved
loop-name-preserved c =
    let root = branch_of c.args.root.now in
    let all = slice_split (λ (b : ℕ). b == 47) c.args.names.now in
    let n = length c.loop-name.yielded in
    let name = c.in-Some.name.now in
    let t = YieldsList-turn (YieldsList-from_str_split 47 c.args.names.now (lit< tt) (cc) (cc) (cc)) c.loop-name.yielded _ c.loop-name.yielded_by _ _ c.in-Some.name c.in-Some.is c.next.ensures.steps in
    let next : take (n + 1) all ≡ take n all ++ name ∷ [] = take_more all n name t.0 ∙ ap (λ x. take n all ++ x ∷ []) (sym t.1) in
    let len : length (c.loop-name.yielded ++ c.in-Some.name ∷ []) ≡ n + 1 = length-append c.loop-name.yielded (c.in-Some.name ∷ []) in
    let now : Bor (List ℕ) → List ℕ = λ y. y.now in
    record {
      so_far = map-append now c.loop-name.yielded (c.in-Some.name ∷ []) ∙ ap (λ l. l ++ name ∷ []) c.loop-name.invariant.so_far ∙ sym next ∙ ap (λ m. take m all) (sym len);
      leads = ap (λ m. node_at (take m all) root) len ∙ ap (λ l. node_at l root) next
          ∙ child_at_step (take n all) name root c.loop-name.node.now c.loop-name.invariant.leads ∙ sym c.child_named.ensures ∙ ap (λ o. option_map branch_of (option_copied o)) c.in_ok-node.was;
    }

pub returns : goal.returns
returns c =
    let root = branch_of c.args.root.now in
    let all = slice_split (λ (b : ℕ). b == 47) c.args.names.now in
    let t = YieldsList-end (YieldsList-from_str_split 47 c.args.names.now (lit< tt) (cc) (cc) (cc)) c.loop-name.yielded _ c.loop-name.yielded_by _ _ c.in-None.is c.next.ensures.steps in
    sym c.loop-name.invariant.leads ∙ ap (λ n. node_at (take n all) root) t.1 ∙ ap (λ l. node_at l root) (take_all (length all) all (omega arith))
