use Rattle.std.proofs.Common.{◌≡◌, ◌+◌, ◌++◌, ◌∷◌, [], take, sym, ap, ◌∙◌, arith}
use Rattle.std.proofs.lemmas.List.{take_all, take_more}
use Rattle.bb_tree.specs.declared.part.Part.{Part}
use Rattle.bb_tree.specs.Resolve.{literal, bytes_there}
use Rattle.bb_tree.proofs.Below.{flat_map_push}
use Rattle.bb_tree.proofs.value.literal.Goals as goal

pub loop-part-preserved : goal.loop-part-preserved
loop-part-preserved c =
    let parts = c.as_slice-part-items.result.now in
    let part = c.part-item.result in
    let next : take (c.loop-part.part-index + 1) parts ≡ take c.loop-part.part-index parts ++ part ∷ [] =
    take_more parts c.loop-part.part-index part (omega arith) ∙ ap (λ (x : Part). take c.loop-part.part-index parts ++ x ∷ []) (sym c.part-item.is) in
    c.in_ok-add.ensures.ok ∙ ap (λ l. l ++ c.bytes_there.result.now) c.loop-part.invariant ∙ ap (λ l. literal (take c.loop-part.part-index parts) ++ l) c.bytes_there.ensures
    ∙ sym (flat_map_push bytes_there (take c.loop-part.part-index parts) part) ∙ ap literal (sym next)

pub returns : goal.returns
returns c =
    let parts = c.as_slice-part-items.result.now in
    c.loop-part.invariant ∙ ap literal (take_all c.loop-part.part-index parts (omega arith)) ∙ ap literal c.as_slice-part-items.ensures
