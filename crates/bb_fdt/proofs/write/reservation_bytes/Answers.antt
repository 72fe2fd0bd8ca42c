use Rattle.std.proofs.Common.{◌≡◌, ◌++◌, ℕ, Some, ap, length, refl, slice_get, sym, take, ◌∙◌, arith}
use Rattle.std.proofs.lemmas.Grind.{common_steps}
use Rattle.std.proofs.lemmas.List.{take_all}
use Rattle.std.proofs.Math.ListN.{get_or}
use Rattle.std.proofs.lemmas.Option.{slice_get-get_or}
use Rattle.bb_tree.specs.Blob.{double_word}
use Rattle.bb_fdt.proofs.WriteLemmas.{flat_next}
use Rattle.bb_fdt.proofs.write.reservation_bytes.Goals as goal

pub loop-pair-preserved : goal.loop-pair-preserved
loop-pair-preserved c =
    let text = λ (p : ℕ × ℕ). double_word p.0 ++ double_word p.1 in
    let pairs = c.as_slice-pair-items.result.now in
    let place = c.loop-pair.pair-index in
    let next = λ (d : ℕ × ℕ). flat_next text pairs place (get_or pairs place d) (slice_get-get_or pairs place d (omega arith)) in
    c.in_ok-add_pair.ensures ∙ rw c.loop-pair.invariant (sym (next _))

pub returns : goal.returns
returns c =
    let pairs = c.as_slice-pair-items.result.now in
    let all : take c.loop-pair.pair-index pairs ≡ c.args.pairs.now =
    take_all c.loop-pair.pair-index pairs (omega arith) ∙ c.as_slice-pair-items.ensures in
    grind (arith, common_steps)
