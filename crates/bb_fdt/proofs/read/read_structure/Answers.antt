use Rattle.std.proofs.Common.{[], ap, arith}
use Rattle.std.proofs.lemmas.Grind.{common_steps}
use Rattle.bb_fdt.specs.Walk.{Inside, open_node}
use Rattle.bb_fdt.specs.Descent.{Onward, walk_from}
use Rattle.bb_fdt.proofs.WalkLemmas.{root_spoken}
use Rattle.bb_fdt.proofs.read.read_structure.Goals as goal

pub returns-in_err-root-clause-refused : goal.returns-in_err-root-clause-refused
returns-in_err-root-clause-refused c =
    let walk =
    walk_from c.args.input.strings.now c.args.input.end (Inside (open_node 1 c.in_ok-name.name))
    c.in_ok-text.text.now in
    let refuses = root_spoken c.in_err-root.field-0.0 walk c.in_err-root.ensures.refused in
    grind (arith, common_steps)

pub returns-clause-ok : goal.returns-clause-ok
returns-clause-ok c =
    let reads = ap (λ (w : Onward). w []) c.in_ok-root.ensures.ok in
    grind (arith, common_steps)

pub returns-clause-refused : goal.returns-clause-refused
returns-clause-refused c =
    let reads = ap (λ (w : Onward). w []) c.in_ok-root.ensures.ok in
    grind (arith, common_steps)
