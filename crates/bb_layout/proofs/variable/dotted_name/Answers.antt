use Rattle.std.proofs.Common.{◌≡◌, List, ℕ, Some, eqb, length, map, refl, slice_get, take, sym, ap, ◌∙◌}
use Rattle.std.specs.List.{join_with_byte}
use Rattle.std.proofs.lemmas.Option.{slice_get_read}
use Rattle.bb_layout.specs.Fields.{base_name}
use Rattle.bb_layout.specs.Walk.{dotted_more}
use Rattle.bb_layout.proofs.Strings.{joined_at}
use Rattle.bb_layout.proofs.variable.dotted_name.Goals as goal

pub loop-i-preserved : goal.loop-i-preserved
loop-i-preserved c =
    let parts = c.as_slice-parts.result.now in
    let i = c.loop-i.i in
    let part = c.index-parts-i.result in
    let there : slice_get parts i ≡ Some part =
    slice_get_read parts (length parts) i part refl c.loop-i-test.true c.index-parts-i.is in
    let base : c.base_name.result.now ≡ base_name part = c.base_name.ensures ∙ ap base_name c.as_str.ensures in
    c.in_ok-add_name.ensures
    ∙ ap (λ (n : List ℕ). dotted_more (eqb i 0) n c.base_name.result.now) c.loop-i.invariant
    ∙ ap (dotted_more (eqb i 0) (join_with_byte 46 (map base_name (take i parts)))) base
    ∙ sym (joined_at parts i part there)
