use Rattle.std.proofs.Common.{ap, arith, map, ◌∙◌}
use Rattle.bb_interpreter.specs.declared.variables.ScriptVariable.{ScriptVariable}
use Rattle.bb_interpreter.specs.Variables.{variable_pair}
use Rattle.bb_interpreter.proofs.VariableLemmas.{set_at, set_past}
use Rattle.bb_interpreter.proofs.variables.set_own.Goals as goal

pub returns-then-place-len-clause-ok : goal.returns-then-place-len-clause-ok
returns-then-place-len-clause-ok c =
    let y : ScriptVariable = record { name = c.index_mut.result.now.name; value = c.in_ok-value.value } in
    set_at c.args.variables.now.items c.as_slice.result.now c.args.name.now c.args.value.now y c.index_mut.result.now c.place_of-place.result
    c.as_slice.ensures.value c.place_of-place.ensures (omega (arith, c.if-place-len.true, c.len.ensures, c.as_slice.ensures.len)) c.in_ok-value.ensures
    (ap (λ (v : ScriptVariable). v.name) c.index_mut.ensures.value)

pub returns-clause-ok : goal.returns-clause-ok
returns-clause-ok c =
    let y : ScriptVariable = record { name = c.in_ok-name.name; value = c.in_ok-value.value } in
    ap (λ vs. map variable_pair vs) c.in_ok-push.ensures.items
    ∙ set_past c.args.variables.now.items c.as_slice.result.now c.args.name.now c.args.value.now y c.place_of-place.result
    c.as_slice.ensures.value c.place_of-place.ensures (omega (arith, c.if-place-len.false, c.len.ensures, c.as_slice.ensures.len)) c.in_ok-value.ensures c.in_ok-name.ensures
