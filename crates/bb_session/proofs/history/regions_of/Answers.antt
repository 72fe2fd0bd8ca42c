use Rattle.std.proofs.Common.{◌≡◌, ◌+◌, ◌∙◌, ℕ, List, [], ◌∷◌, ◌++◌, map, sym, ap, arith}
use Rattle.std.specs.List.{range_with_len}
use Rattle.std.proofs.lemmas.Grind.{common_steps}
use Rattle.std.proofs.lemmas.List.FromFn.{map-range_with_len_more}
use Rattle.std.proofs.lemmas.Bool.{lt-ltb}
use Rattle.bb_flash.specs.declared.region.Region.{Region}
use Rattle.bb_layout.specs.Copies.{region_of}
use Rattle.bb_layout.specs.Layout.{Laid}
use Rattle.bb_state.specs.State.{laid_of}
use Rattle.bb_session.proofs.Listed.{region_is, region_missing}
use Rattle.bb_session.proofs.history.regions_of.Goals as goal

-- there is a region for each copy
pub unreachable-requires : goal.unreachable-requires
unreachable-requires c =
    let laid : Laid = laid_of c.args.state.now in
    let copies = ap (λ (l : Laid). l.copies) c.layout-layout.ensures in
    region_missing _ (region_of laid.geometry laid.storage laid.region c.loop-copy.copy) c.in_default.ensures
    (lt-ltb c.loop-copy.copy laid.copies (omega (arith, copies, c.loop-copy-test.true)))

pub loop-copy-preserved : goal.loop-copy-preserved
loop-copy-preserved c =
    let laid : Laid = laid_of c.args.state.now in
    let make = region_of laid.geometry laid.storage laid.region in
    let copy : ℕ = c.loop-copy.copy in
    let is = region_is _ (make copy) c.in-Some.region c.in-Some.ensures in
    let pushed : c.push.new.self.items ≡ c.loop-copy.regions.items ++ c.in-Some.region ∷ [] = grind (arith, common_steps, c.in_ok-push.ensures.items) in
    pushed ∙ ap (λ (rs : List Region). rs ++ c.in-Some.region ∷ []) c.loop-copy.invariant
    ∙ ap (λ (r : Region). map make (range_with_len 0 copy) ++ r ∷ []) is
    ∙ sym (map-range_with_len_more make 0 copy copy (omega arith))

pub returns : goal.returns
returns c =
    let laid : Laid = laid_of c.args.state.now in
    let copies = ap (λ (l : Laid). l.copies) c.layout-layout.ensures in
    c.loop-copy.invariant
    ∙ ap (λ n. map (region_of laid.geometry laid.storage laid.region) (range_with_len 0 n)) (omega (arith, copies))
