use Rattle.std.proofs.Common.{◌≡◌, ℕ, ◌+◌, List, [], ◌∷◌, ◌++◌, ap, arith, codes, sym, take, ◌∙◌}
use Rattle.std.proofs.lemmas.List.{flat_map_more, take_all, take_more}
use Rattle.bbx.specs.PlanFile.{initrd_lines, plan_line_of}
use Rattle.bbx.proofs.plan_file.add_initrds.Goals as goal

pub loop-initrd-preserved : goal.loop-initrd-preserved
loop-initrd-preserved c =
    let line = plan_line_of (codes "initrd") in
    let initrds = c.as_slice-initrd-items.result.now in
    let initrd = c.initrd-item.result in
    let next : take (c.loop-initrd.initrd-index + 1) initrds ≡ take c.loop-initrd.initrd-index initrds ++ initrd ∷ [] =
    take_more initrds c.loop-initrd.initrd-index initrd (omega arith)
    ∙ ap (λ (x : List ℕ). take c.loop-initrd.initrd-index initrds ++ x ∷ []) (sym c.initrd-item.is) in
    c.in_ok-add_line.ensures
    ∙ ap (λ value. c.loop-initrd.text ++ line value) c.as_str.ensures
    ∙ ap (λ before. before ++ line initrd) c.loop-initrd.invariant
    ∙ flat_map_more line c.args.text.now (take c.loop-initrd.initrd-index initrds) initrd
    ∙ ap (λ l. c.args.text.now ++ initrd_lines l) (sym next)

pub returns : goal.returns
returns c =
    let initrds = c.as_slice-initrd-items.result.now in
    c.loop-initrd.invariant
    ∙ ap (λ l. c.args.text.now ++ initrd_lines l) (take_all c.loop-initrd.initrd-index initrds (omega arith) ∙ c.as_slice-initrd-items.ensures)
