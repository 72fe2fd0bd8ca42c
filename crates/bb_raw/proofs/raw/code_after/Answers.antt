use Rattle.std.proofs.Common.{arith, refl, length, ap, ◌∙◌, take, drop, ◌-◌, min}
use Rattle.std.proofs.lemmas.List.{length-drop, take_all}
use Rattle.bb_raw.proofs.Parts.{code_joined}
use Rattle.bb_raw.proofs.raw.code_after.Goals as goal

pub returns : goal.returns
returns c =
    let rest = drop c.args.len c.args.area.now in
    let size = length-drop c.args.len c.args.area.now in
    let same = take_all (length c.args.area.now - c.args.len) rest (omega arith) in
    code_joined (length c.args.behind.now) c.min-first.result c.args.len c.args.area.now c.args.behind.now c.copy_from_slice.new.self c.copy_from_slice-2.new.self _ _
    c.requires.inside (c.min-first.ensures ∙ ap (λ n. min n (length c.args.behind.now)) (ap length same ∙ size)) refl (c.copy_from_slice.ensures.after ∙ ap (take c.min-first.result) same) c.copy_from_slice-2.ensures.after
