use Rattle.std.proofs.Common.{◌≡◌, List, ℕ, Some, Ok, Err, sym, ap, ◌∙◌}
use Rattle.std.proofs.lemmas.Str.{is_utf8-from_IsUtf8}
use Rattle.bb_layout.proofs.Strings.{not_utf8}
use Rattle.bb_layout.specs.Results.{result_and_then}
use Rattle.bb_chooser.specs.Lines.{assignment_of, setting_in_line}
use Rattle.bb_chooser.proofs.Reading.{handed_on, line_no_text, line_quiet, line_sets}
use Rattle.bb_chooser.specs.declared.fault.Fault.TheVariants.{NoMemory}
use Rattle.bb_chooser.proofs.line.read_line.Goals as goal

pub returns-in_default-clause-refused : goal.returns-in_default-clause-refused
returns-in_default-clause-refused c = λ told. line_no_text c.args.line.now (not_utf8 c.args.line.now c.in_default.ensures.cases.0)

pub returns-then-sets_nothing-clause-ok : goal.returns-then-sets_nothing-clause-ok
returns-then-sets_nothing-clause-ok c =
    line_quiet c.args.line.now (is_utf8-from_IsUtf8 c.args.line.now c.in-Ok.ensures.cases.1) (sym c.sets_nothing.ensures ∙ c.if-sets_nothing.true)

pub returns-in_err-assignment-clause-refused : goal.returns-in_err-assignment-clause-refused
returns-in_err-assignment-clause-refused c =
    let line = c.args.line.now in
    handed_on NoMemory (λ e. setting_in_line line ≡ Err e) c.from_residual.result c.in_err-assignment.field-0.0 c.from_residual.ensures.1
    (λ told. line_sets line (is_utf8-from_IsUtf8 line c.in-Ok.ensures.cases.1) (sym c.sets_nothing.ensures ∙ c.if-sets_nothing.false)
    ∙ ap (λ (l : List ℕ). result_and_then (λ s. Ok (Some s)) (assignment_of l)) (sym c.in-Ok.ensures.cases.0)
    ∙ ap (result_and_then (λ s. Ok (Some s))) (c.in_err-assignment.ensures.refused told))

pub returns-clause-ok : goal.returns-clause-ok
returns-clause-ok c =
    let line = c.args.line.now in
    line_sets line (is_utf8-from_IsUtf8 line c.in-Ok.ensures.cases.1) (sym c.sets_nothing.ensures ∙ c.if-sets_nothing.false)
    ∙ ap (λ (l : List ℕ). result_and_then (λ s. Ok (Some s)) (assignment_of l)) (sym c.in-Ok.ensures.cases.0)
    ∙ ap (result_and_then (λ s. Ok (Some s))) c.in_ok-assignment.ensures.ok
