use Rattle.std.proofs.Common.{rules, ◌≡◌, ◌==◌, ◌+◌, ◌++◌, ◌∷◌, [], List, ℕ, Bool, true, false, cond, Option, Some, None, length, get_or, take, Bor, sym, ap, ◌∙◌, arith, length-append, ◌&&◌}
use Rattle.std.specs.List.{list_all}
use Rattle.std.specs.Str.{is_utf8}
use Rattle.std.proofs.lemmas.Iterator.Consumers.{YieldsList-turn, YieldsList-end}
use Rattle.std.proofs.lemmas.Iterator.Splits.{YieldsList-from_slice_split}
use Rattle.std.proofs.lemmas.List.{take_more, take_all, map-append}
use Rattle.std.proofs.lemmas.List.Folds.{list_all_more, list_all_at}
use Rattle.std.proofs.lemmas.Str.{is_utf8-from_IsUtf8}
use Rattle.bb_layout.specs.Fields.{parts_of}
use Rattle.bb_layout.proofs.Strings.{not_utf8}
use Rattle.bb_layout.proofs.fields.texts.Goals as goal

pub returns-in_default : goal.returns-in_default
returns-in_default c =
    let all = parts_of c.args.front.now in
    let part = c.in-Some.part.now in
    let n = length c.loop-part.yielded in
    let t = YieldsList-turn (YieldsList-from_slice_split _ (λ (b : ℕ). b == 0) c.args.front.now (cc) (cc) (cc) (λ x b q k. search rules)) c.loop-part.yielded _ c.loop-part.yielded_by _ _ c.in-Some.part c.in-Some.is c.next.ensures.steps in
    let bad : is_utf8 part ≡ false = not_utf8 part c.in_default.ensures.cases.0 in
    let some : list_all is_utf8 all ≡ false = list_all_at is_utf8 all n part t.0 (ap is_utf8 (sym t.1) ∙ bad) in
    sym (ap (λ (b : Bool). cond {A = Option (List (List ℕ))} b (Some all) None) some)

pub loop-part-preserved : goal.loop-part-preserved
loop-part-preserved c =
    let all = parts_of c.args.front.now in
    let part = c.in-Some.part.now in
    let n = length c.loop-part.yielded in
    let t = YieldsList-turn (YieldsList-from_slice_split _ (λ (b : ℕ). b == 0) c.args.front.now (cc) (cc) (cc) (λ x b q k. search rules)) c.loop-part.yielded _ c.loop-part.yielded_by _ _ c.in-Some.part c.in-Some.is c.next.ensures.steps in
    let good : is_utf8 part ≡ true = is_utf8-from_IsUtf8 part c.in-Ok.ensures.cases.1 in
    let next : take (n + 1) all ≡ take n all ++ part ∷ [] = take_more all n part t.0 ∙ ap (λ x. take n all ++ x ∷ []) (sym t.1) in
    let len : length (c.loop-part.yielded ++ c.in-Some.part ∷ []) ≡ n + 1 = length-append c.loop-part.yielded (c.in-Some.part ∷ []) in
    let now : Bor (List ℕ) → List ℕ = λ y. y.now in
    record {
      so_far = map-append now c.loop-part.yielded (c.in-Some.part ∷ []) ∙ ap (λ l. l ++ part ∷ []) c.loop-part.invariant.so_far ∙ sym next ∙ ap (λ m. take m all) (sym len);
      taken = c.in_ok-push.ensures.ok ∙ ap (λ (l : List (List ℕ)). l ++ c.in_ok-of.field-0 ∷ []) c.loop-part.invariant.taken
          ∙ ap (λ (s : List ℕ). take n all ++ s ∷ []) (c.in_ok-of.ensures ∙ c.in-Ok.ensures.cases.0) ∙ sym next ∙ ap (λ m. take m all) (sym len);
      all = ap (λ m. list_all is_utf8 (take m all)) len ∙ list_all_more is_utf8 all n part t.0
          ∙ ap (λ b. b && is_utf8 (get_or all n part)) c.loop-part.invariant.all ∙ ap is_utf8 (sym t.1) ∙ good;
    }

pub returns : goal.returns
returns c =
    let all = parts_of c.args.front.now in
    let t = YieldsList-end (YieldsList-from_slice_split _ (λ (b : ℕ). b == 0) c.args.front.now (cc) (cc) (cc) (λ x b q k. search rules)) c.loop-part.yielded _ c.loop-part.yielded_by _ _ c.in-None.is c.next.ensures.steps in
    let whole : take (length c.loop-part.yielded) all ≡ all = ap (λ n. take n all) t.1 ∙ take_all (length all) all (omega arith) in
    let good : list_all is_utf8 all ≡ true = ap (list_all is_utf8) (sym whole) ∙ c.loop-part.invariant.all in
    ap Some (c.loop-part.invariant.taken ∙ whole) ∙ sym (ap (λ (b : Bool). cond {A = Option (List (List ℕ))} b (Some all) None) good)
