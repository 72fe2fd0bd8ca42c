use Rattle.std.proofs.Common.{IfErr, ◌++◌, ap, arith, drop, subst, ◌∙◌}
use Rattle.std.proofs.lemmas.Result.{err_from_is_err_and, on_ok_weaker}
use Rattle.bb_script.specs.Words.{part_atoms, special_atom}
use Rattle.bb_interpreter.specs.Assigned.{StopsOver, atom_text, uncut_text}
use Rattle.bb_interpreter.proofs.AssignedLemmas.{part_whole, stops_longer}
use Rattle.bb_interpreter.proofs.assigned.add_part_after.Goals as goal

pub returns-in_err-add_letters_after-clause-long : goal.returns-in_err-add_letters_after-clause-long
returns-in_err-add_letters_after-clause-long g c =
    let value = g.V.ScriptVariables.value_of c.args.variables.now in
    let p = err_from_is_err_and c.from_residual.result c.from_residual.ensures.1 in
    rw (p.1, p.2)
    (stops_longer c.args.limit (c.args.text.now ++ drop c.args.passed c.as_slice-letters.result.now) (atom_text value c.args.status (special_atom c.args.part.now.special)) (c.args.text.now ++ uncut_text value c.args.status (drop c.args.passed (part_atoms c.args.part.now))) c.in_err-add_letters_after.field-0.0
    (part_whole value c.args.status c.args.passed c.args.part.now c.args.text.now c.as_slice-letters.result.now c.as_slice-letters.ensures.value (omega (arith, c.if-passed-letters.false, c.as_slice-letters.ensures.len)))
    c.in_err-add_letters_after.ensures.long)

pub returns-clause-ok : goal.returns-clause-ok
returns-clause-ok g c =
    let value = g.V.ScriptVariables.value_of c.args.variables.now in
    let whole = part_whole value c.args.status c.args.passed c.args.part.now c.args.text.now c.as_slice-letters.result.now c.as_slice-letters.ensures.value (omega (arith, c.if-passed-letters.false, c.as_slice-letters.ensures.len)) in
    on_ok_weaker c.add_special_text.result
    (λ ended. ended ∙ ap (λ l. l ++ atom_text value c.args.status (special_atom c.args.part.now.special)) c.in_ok-add_letters_after.ensures.ok ∙ whole)
    c.add_special_text.ensures.ok

pub returns-clause-long : goal.returns-clause-long
returns-clause-long g c =
    let value = g.V.ScriptVariables.value_of c.args.variables.now in
    let whole = part_whole value c.args.status c.args.passed c.args.part.now c.args.text.now c.as_slice-letters.result.now c.as_slice-letters.ensures.value (omega (arith, c.if-passed-letters.false, c.as_slice-letters.ensures.len)) in
    subst (λ t. IfErr c.add_special_text.result (StopsOver c.args.limit t))
    (ap (λ l. l ++ atom_text value c.args.status (special_atom c.args.part.now.special)) c.in_ok-add_letters_after.ensures.ok ∙ whole)
    c.add_special_text.ensures.long
