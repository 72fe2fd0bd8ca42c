use Rattle.std.proofs.Common.{◌∙◌, Some, None, ap, cond, sym}
use Rattle.bb_state.specs.State.{laid_of}
use Rattle.bb_script_commands.proofs.Naming.{not_utf8, set_no_text, set_same, set_so}
use Rattle.bb_script_commands.proofs.variables.set_value.Goals as goal

pub returns-in_default-clause-set : goal.returns-in_default-clause-set
returns-in_default-clause-set c =
    sym (set_no_text (laid_of c.args.state.now).vars c.args.state.now.table c.args.name.now c.args.text.now (not_utf8 c.args.name.now c.in_default.ensures.cases.0))

pub returns-clause-set : goal.returns-clause-set
returns-clause-set c =
    ap (λ b. cond b (Some c.set.new.self.table) None) c.is_ok.ensures.value
    ∙ set_so (laid_of c.args.state.now).vars c.args.state.now.table c.args.name.now c.in-Ok.name.now c.args.text.now c.set.new.self.table c.set.result
    c.in-Ok.ensures.cases.1 c.in-Ok.ensures.cases.0 c.set.ensures.table c.set.ensures.value c.set.ensures.refused

pub returns-clause-unchanged : goal.returns-clause-unchanged
returns-clause-unchanged c refused =
    set_same c.args.state.now.table c.set.new.self.table c.set.result c.set.ensures.unchanged (sym c.is_ok.ensures.value ∙ refused)
