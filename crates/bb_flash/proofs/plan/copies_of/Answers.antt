use Rattle.std.proofs.Common.{ℕ, List, [], ◌∷◌, ◌++◌, ap, arith, sym, take, ◌∙◌}
use Rattle.std.proofs.lemmas.List.{take_all, take_more}
use Rattle.bb_flash.proofs.plan.copies_of.Goals as goal

pub loop-text-preserved : goal.loop-text-preserved
loop-text-preserved c =
    let texts = c.as_slice-text-items.result.now in
    let text = c.text-item.result in
    let i = c.loop-text.text-index in
    c.in_ok-push.ensures.ok
    ∙ ap (λ (copies : List (List ℕ)). copies ++ c.in_ok-copy.field-0 ∷ []) c.loop-text.invariant
    ∙ ap (λ (copy : List ℕ). take i texts ++ copy ∷ []) (c.in_ok-copy.ensures ∙ c.text-item.is)
    ∙ sym (take_more texts i text (omega arith))

pub returns : goal.returns
returns c =
    let texts = c.as_slice-text-items.result.now in
    c.loop-text.invariant ∙ take_all c.loop-text.text-index texts (omega arith) ∙ c.as_slice-text-items.ensures
