use Rattle.std.proofs.Common.{IfErr, ◌+◌, ◌-◌, ◌++◌, ap, arith, drop, length, map, refl, subst, sym, ◌∙◌}
use Rattle.std.specs.List.{flat_map}
use Rattle.std.proofs.lemmas.Result.{err_from_is_err_and, on_ok_weaker}
use Rattle.bb_script.specs.Words.{Letter, part_atoms, word_atoms}
use Rattle.bb_interpreter.specs.Assigned.{StopsOver, uncut_text}
use Rattle.bb_interpreter.proofs.AssignedLemmas.{letters_left, parts_next, stops_longer}
use Rattle.bb_interpreter.proofs.Opened.{next_item, nothing_left}
use Rattle.bb_interpreter.proofs.assigned.add_word_after.Goals as goal

pub loop-part-init : goal.loop-part-init
loop-part-init g c =
    let value = g.V.ScriptVariables.value_of c.args.variables.now in
    ap (λ ps. c.args.text.now ++ uncut_text value c.args.status (drop c.args.passed (flat_map part_atoms ps ++ map Letter c.args.word.now.letters.items))) c.as_slice-part-items.ensures.value

pub loop-part-preserved : goal.loop-part-preserved
loop-part-preserved g c =
    let value = g.V.ScriptVariables.value_of c.args.variables.now in
    let letters = c.args.word.now.letters.items in
    let items = c.as_slice-part-items.result.now in
    let later = drop (c.loop-part.part-index + 1) items in
    let left = c.saturating_sub-left.result in
    ap (λ t. t ++ uncut_text value c.args.status (drop left (flat_map part_atoms later ++ map Letter letters))) c.in_ok-add_part_after.ensures.ok
    ∙ parts_next value c.args.status c.loop-part.left left c.loop-part.text c.part-item.result later letters (omega (arith, c.saturating_sub-left.ensures, c.len.ensures))
    ∙ ap (λ ps. c.loop-part.text ++ uncut_text value c.args.status (drop c.loop-part.left (flat_map part_atoms ps ++ map Letter letters))) (sym (next_item items c.loop-part.part-index c.part-item.result c.loop-part-test.true c.part-item.is))
    ∙ c.loop-part.invariant

pub returns-in_err-add_part_after-clause-long : goal.returns-in_err-add_part_after-clause-long
returns-in_err-add_part_after-clause-long g c =
    let value = g.V.ScriptVariables.value_of c.args.variables.now in
    let letters = c.args.word.now.letters.items in
    let items = c.as_slice-part-items.result.now in
    let part = c.part-item.result in
    let later = drop (c.loop-part.part-index + 1) items in
    let left = c.loop-part.left - (length part.letters.items + 1) in
    let p = err_from_is_err_and c.from_residual.result c.from_residual.ensures.1 in
    rw (p.1, p.2)
    (stops_longer c.args.limit (c.loop-part.text ++ uncut_text value c.args.status (drop c.loop-part.left (part_atoms part))) (uncut_text value c.args.status (drop left (flat_map part_atoms later ++ map Letter letters))) (c.args.text.now ++ uncut_text value c.args.status (drop c.args.passed (word_atoms c.args.word.now))) c.in_err-add_part_after.field-0.0
    (parts_next value c.args.status c.loop-part.left left c.loop-part.text part later letters refl
    ∙ ap (λ ps. c.loop-part.text ++ uncut_text value c.args.status (drop c.loop-part.left (flat_map part_atoms ps ++ map Letter letters))) (sym (next_item items c.loop-part.part-index part c.loop-part-test.true c.part-item.is))
    ∙ c.loop-part.invariant)
    c.in_err-add_part_after.ensures.long)

pub returns-clause-ok : goal.returns-clause-ok
returns-clause-ok g c =
    let value = g.V.ScriptVariables.value_of c.args.variables.now in
    on_ok_weaker c.add_letters_after.result
    (λ ended. ended ∙ letters_left value c.args.status c.loop-part.left c.loop-part.text _ c.as_slice.result.now _ c.args.word.now.letters.items c.as_slice.ensures.value (nothing_left c.as_slice-part-items.result.now c.loop-part.part-index c.loop-part-test.false) c.loop-part.invariant)
    c.add_letters_after.ensures.ok

pub returns-clause-long : goal.returns-clause-long
returns-clause-long g c =
    let value = g.V.ScriptVariables.value_of c.args.variables.now in
    subst (λ t. IfErr c.add_letters_after.result (StopsOver c.args.limit t))
    (letters_left value c.args.status c.loop-part.left c.loop-part.text _ c.as_slice.result.now _ c.args.word.now.letters.items c.as_slice.ensures.value (nothing_left c.as_slice-part-items.result.now c.loop-part.part-index c.loop-part-test.false) c.loop-part.invariant)
    c.add_letters_after.ensures.long
