use Rattle.std.proofs.Common.{◌≡◌, ◌++◌, ◌∷◌, [], ℕ, List, Some, slice_get, sym, ap, ◌∙◌, arith}
use Rattle.std.specs.Option.{option_map}
use Rattle.std.proofs.lemmas.Option.{slice_get-map}
use Rattle.std.proofs.lemmas.Grind.{common_steps}
use Rattle.bb_tree.specs.Texts.{texts_in}
use Rattle.bb_fdt.proofs.WriteLemmas.{flat_next}
use Rattle.bb_fdt.proofs.names.Names.write.Goals as goal

pub loop-i-preserved : goal.loop-i-preserved
loop-i-preserved c =
    let entries = texts_in c.self.inside.places.entries in
    let got : slice_get c.args.self.now c.loop-i.i ≡ Some c.in-Some.name.now = ap (λ l. slice_get l c.loop-i.i) (sym c.self.view_is) ∙ slice_get-map (λ (e : List ℕ × ℕ). e.0) entries c.loop-i.i ∙ ap (option_map (λ (e : List ℕ × ℕ). e.0)) (sym c.in-Some.ensures) in
    let next = flat_next (λ (name : List ℕ). name ++ 0 ∷ []) c.args.self.now c.loop-i.i c.in-Some.name.now got in
    grind (arith, common_steps)

pub returns : goal.returns
returns c = grind (arith, common_steps)
