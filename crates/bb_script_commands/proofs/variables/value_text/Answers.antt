use Rattle.std.proofs.Common.{◌∙◌, sym}
use Rattle.bb_state.specs.State.{laid_of}
use Rattle.bb_script_commands.proofs.Naming.{not_utf8, value_found, value_no_text}
use Rattle.bb_script_commands.proofs.variables.value_text.Goals as goal

pub returns-in_default : goal.returns-in_default
returns-in_default c =
    c.none-text.ensures
    ∙ sym (value_no_text (laid_of c.args.state.now).vars c.args.state.now.table c.args.name.now (not_utf8 c.args.name.now c.in_default.ensures.cases.0))

pub returns-in-Ok-get : goal.returns-in-Ok-get
returns-in-Ok-get c =
    value_found (laid_of c.args.state.now).vars c.args.state.now.table c.args.name.now c.in-Ok.name.now c.none-text.result c.get.new.out
    c.in-Ok.ensures.cases.1 c.in-Ok.ensures.cases.0 c.none-text.ensures c.in-Ok-get.ensures.got
