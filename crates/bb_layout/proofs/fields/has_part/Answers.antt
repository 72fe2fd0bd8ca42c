use Rattle.std.proofs.Common.{rules, ◌≡◌, ◌==◌, ◌+◌, ◌++◌, ◌∷◌, [], List, ℕ, Bool, true, false, length, get_or, take, Bor, sym, ap, ◌∙◌, arith, length-append, ◌||◌}
use Rattle.std.specs.List.{list_any}
use Rattle.std.specs.Str.{bytes_eq}
use Rattle.std.proofs.lemmas.Iterator.Consumers.{YieldsList-turn, YieldsList-end}
use Rattle.std.proofs.lemmas.Iterator.Splits.{YieldsList-from_slice_split}
use Rattle.std.proofs.lemmas.List.{take_more, take_all, map-append}
use Rattle.std.proofs.lemmas.List.Folds.{list_any_more, list_any_at}
use Rattle.bb_layout.specs.Fields.{parts_of}
use Rattle.bb_layout.proofs.fields.has_part.Goals as goal

pub returns-then-eq : goal.returns-then-eq
returns-then-eq c =
    let all = parts_of c.args.front.now in
    let name = c.args.name.now in
    let part = c.in-Some.part.now in
    let n = length c.loop-part.yielded in
    let t = YieldsList-turn (YieldsList-from_slice_split _ (λ (b : ℕ). b == 0) c.args.front.now (cc) (cc) (cc) (λ x b q k. search rules)) c.loop-part.yielded _ c.loop-part.yielded_by _ _ c.in-Some.part c.in-Some.is c.next.ensures.steps in
    let same : bytes_eq part name ≡ true = ap (bytes_eq part) (sym c.as_bytes.ensures.value) ∙ sym c.eq.ensures ∙ c.if-eq.true in
    sym (list_any_at (λ s. bytes_eq s name) all n part t.0 (ap (λ (s : List ℕ). bytes_eq s name) (sym t.1) ∙ same))

pub loop-part-preserved : goal.loop-part-preserved
loop-part-preserved c =
    let all = parts_of c.args.front.now in
    let name = c.args.name.now in
    let part = c.in-Some.part.now in
    let n = length c.loop-part.yielded in
    let t = YieldsList-turn (YieldsList-from_slice_split _ (λ (b : ℕ). b == 0) c.args.front.now (cc) (cc) (cc) (λ x b q k. search rules)) c.loop-part.yielded _ c.loop-part.yielded_by _ _ c.in-Some.part c.in-Some.is c.next.ensures.steps in
    let differs : bytes_eq part name ≡ false = ap (bytes_eq part) (sym c.as_bytes.ensures.value) ∙ sym c.eq.ensures ∙ c.if-eq.false in
    let next : take (n + 1) all ≡ take n all ++ part ∷ [] = take_more all n part t.0 ∙ ap (λ x. take n all ++ x ∷ []) (sym t.1) in
    let len : length (c.loop-part.yielded ++ c.in-Some.part ∷ []) ≡ n + 1 = length-append c.loop-part.yielded (c.in-Some.part ∷ []) in
    let now : Bor (List ℕ) → List ℕ = λ y. y.now in
    let is_name : List ℕ → Bool = λ s. bytes_eq s name in
    record {
      so_far = map-append now c.loop-part.yielded (c.in-Some.part ∷ []) ∙ ap (λ l. l ++ part ∷ []) c.loop-part.invariant.so_far ∙ sym next ∙ ap (λ m. take m all) (sym len);
      others = ap (λ m. list_any is_name (take m all)) len ∙ list_any_more is_name all n part t.0
          ∙ ap (λ b. b || is_name (get_or all n part)) c.loop-part.invariant.others ∙ ap is_name (sym t.1) ∙ differs;
    }

pub returns : goal.returns
returns c =
    let all = parts_of c.args.front.now in
    let name = c.args.name.now in
    let t = YieldsList-end (YieldsList-from_slice_split _ (λ (b : ℕ). b == 0) c.args.front.now (cc) (cc) (cc) (λ x b q k. search rules)) c.loop-part.yielded _ c.loop-part.yielded_by _ _ c.in-None.is c.next.ensures.steps in
    sym c.loop-part.invariant.others ∙ ap (λ n. list_any (λ s. bytes_eq s name) (take n all)) t.1 ∙ ap (list_any (λ s. bytes_eq s name)) (take_all (length all) all (omega arith))
