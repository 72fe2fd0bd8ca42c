use Rattle.std.proofs.Common.{◌++◌, ◌∷◌, [], List, ℕ, take, sym, ap, ◌∙◌, arith}
use Rattle.std.proofs.lemmas.List.{take_more}
use Rattle.bb_layout.proofs.variables.path_to.Goals as goal

pub loop-text-preserved : goal.loop-text-preserved
loop-text-preserved c =
    let above = c.as_slice-text-items.result.now in
    let i = c.loop-text.text-index in
    c.in_ok-push.ensures.ok ∙ ap (λ (l : List (List ℕ)). l ++ c.in_ok-copy.field-0 ∷ []) c.loop-text.invariant
    ∙ ap (λ (t : List ℕ). take i above ++ t ∷ []) (c.in_ok-copy.ensures ∙ c.text-item.is)
    ∙ sym (take_more above i c.text-item.result (omega arith))
