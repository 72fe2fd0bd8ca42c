use Rattle.std.proofs.Common.{◌≡◌, ◌==◌, ◌+◌, ◌++◌, ◌∷◌, [], List, ℕ, length, take, drop, None, Bor, refl, sym, ap, ◌∙◌, arith, lit<, length-append}
use Rattle.std.specs.List.{slice_split}
use Rattle.std.specs.Map.{lookup}
use Rattle.std.specs.Str.{bytes_eq}
use Rattle.std.proofs.lemmas.Iterator.Consumers.{YieldsList-turn, YieldsList-end}
use Rattle.std.proofs.lemmas.Iterator.Splits.{YieldsList-from_str_split}
use Rattle.std.proofs.lemmas.List.{take_more, take_all, map-append, take-append-drop}
use Rattle.bb_tree.specs.Slots.{spine}
use Rattle.bb_tree.specs.Spine.{slot_led_to}
use Rattle.bb_tree.proofs.Spine.{walk_nil, walk_child, walk_lost}
use Rattle.bb_tree.proofs.place.slot_behind.Goals as goal

pub loop-name-init : goal.loop-name-init
loop-name-init c = record { so_far = refl; leads = walk_nil 1 (spine c.args.slots.now) 0 }

pub returns-in_err-k : goal.returns-in_err-k
returns-in_err-k c =
    let slots = spine c.args.slots.now in
    let all = slice_split (λ (b : ℕ). b == 47) c.args.names.now in
    let n = length c.loop-name.yielded in
    let name = c.in-Some.name.now in
    let t = YieldsList-turn (YieldsList-from_str_split 47 c.args.names.now (lit< tt) (cc) (cc) (cc)) c.loop-name.yielded _ c.loop-name.yielded_by _ _ c.in-Some.name c.in-Some.is c.next.ensures.steps in
    let next : take (n + 1) all ≡ take n all ++ name ∷ [] = take_more all n name t.0 ∙ ap (λ x. take n all ++ x ∷ []) (sym t.1) in
    let none : slot_led_to 1 slots 0 (take n all ++ name ∷ []) ≡ None =
    walk_child 1 slots 0 (take n all) name c.loop-name.k c.requires.rising c.loop-name.invariant.leads
    ∙ ap (lookup (bytes_eq name)) (sym (c.requires.tables c.loop-name.k)) ∙ sym c.child_at.ensures ∙ c.in_err-k.was in
    let lost = walk_lost 1 slots 0 (take n all ++ name ∷ []) (drop (n + 1) all) none in
    c.from_residual.ensures ∙ sym lost ∙ ap (λ l. slot_led_to 1 slots 0 (l ++ drop (n + 1) all)) (sym next) ∙ ap (slot_led_to 1 slots 0) (take-append-drop (n + 1) all)

pub loop-name-preserved : goal.loop-name-preserved
loop-name-preserved c =
    let slots = spine c.args.slots.now in
    let all = slice_split (λ (b : ℕ). b == 47) c.args.names.now in
    let n = length c.loop-name.yielded in
    let name = c.in-Some.name.now in
    let t = YieldsList-turn (YieldsList-from_str_split 47 c.args.names.now (lit< tt) (cc) (cc) (cc)) c.loop-name.yielded _ c.loop-name.yielded_by _ _ c.in-Some.name c.in-Some.is c.next.ensures.steps in
    let next : take (n + 1) all ≡ take n all ++ name ∷ [] = take_more all n name t.0 ∙ ap (λ x. take n all ++ x ∷ []) (sym t.1) in
    let len : length (c.loop-name.yielded ++ c.in-Some.name ∷ []) ≡ n + 1 = length-append c.loop-name.yielded (c.in-Some.name ∷ []) in
    let now : Bor (List ℕ) → List ℕ = λ y. y.now in
    record {
      so_far = map-append now c.loop-name.yielded (c.in-Some.name ∷ []) ∙ ap (λ l. l ++ name ∷ []) c.loop-name.invariant.so_far ∙ sym next ∙ ap (λ m. take m all) (sym len);
      leads = ap (λ m. slot_led_to 1 slots 0 (take m all)) len ∙ ap (slot_led_to 1 slots 0) next
          ∙ walk_child 1 slots 0 (take n all) name c.loop-name.k c.requires.rising c.loop-name.invariant.leads
          ∙ ap (lookup (bytes_eq name)) (sym (c.requires.tables c.loop-name.k)) ∙ sym c.child_at.ensures ∙ c.in_ok-k.was;
    }

pub returns : goal.returns
returns c =
    let slots = spine c.args.slots.now in
    let all = slice_split (λ (b : ℕ). b == 47) c.args.names.now in
    let t = YieldsList-end (YieldsList-from_str_split 47 c.args.names.now (lit< tt) (cc) (cc) (cc)) c.loop-name.yielded _ c.loop-name.yielded_by _ _ c.in-None.is c.next.ensures.steps in
    sym c.loop-name.invariant.leads ∙ ap (λ n. slot_led_to 1 slots 0 (take n all)) t.1 ∙ ap (slot_led_to 1 slots 0) (take_all (length all) all (omega arith))
