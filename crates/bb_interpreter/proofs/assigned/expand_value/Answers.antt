use Rattle.std.proofs.Common.{ℕ, List, ap, arith, length, ◌≡◌, ◌++◌, ◌∙◌}
use Rattle.bb_interpreter.specs.Assigned.{assigned_name, assigned_rest, uncut_text}
use Rattle.bb_interpreter.proofs.AssignedLemmas.{value_is}
use Rattle.bb_interpreter.proofs.assigned.expand_value.Goals as goal

pub returns-in-Ok : goal.returns-in-Ok
returns-in-Ok g c =
    let value = g.V.ScriptVariables.value_of c.args.variables.now in
    let same : length c.assigned_name-name_len.result.now ≡ length (assigned_name c.args.assignment.now) = ap (λ (l : List ℕ). length l) c.assigned_name-name_len.ensures in
    c.value_within.ensures
    ∙ value_is value c.args.status (assigned_name c.args.assignment.now) (assigned_rest c.args.assignment.now) c.add_word_after.new.text _ (omega (arith, same, c.if-name_len-ge-EXPANSION_LIMIT.false))
    (c.in-Ok.ensures.ok ∙ ap (λ t. t ++ uncut_text value c.args.status (assigned_rest c.args.assignment.now)) c.none-value.ensures)
