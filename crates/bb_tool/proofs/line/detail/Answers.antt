use Rattle.std.proofs.Common.{rules}
use Rattle.bb_tool.proofs.Lines.{variable_made}
use Rattle.bb_tool.proofs.line.detail.Goals as goal

pub returns-in-BadVariable : goal.returns-in-BadVariable
returns-in-BadVariable c =
    variable_made c.format-in-BadVariable.result c.args.refusal.now c.as_str-in-BadVariable.result.now
    c.variable_words.result.now c.in-BadVariable.name c.in-BadVariable.cause c.in-BadVariable.is
    c.as_str-in-BadVariable.ensures c.variable_words.ensures c.format-in-BadVariable.ensures.ok

pub returns-in-BadWords : goal.returns-in-BadWords
returns-in-BadWords c = search rules
