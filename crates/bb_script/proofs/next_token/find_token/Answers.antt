use Rattle.std.proofs.Common.{ap, sym, ◌∙◌}
use Rattle.bb_script.specs.Descent.{ahead_in}
use Rattle.bb_script.proofs.TokenLemmas.{cut-seen, end-seen}
use Rattle.bb_script.proofs.next_token.find_token.Goals as goal

pub returns-in-CutOff-clause-found : goal.returns-in-CutOff-clause-found
returns-in-CutOff-clause-found c =
    c.mark-in-CutOff.ensures
    ∙ sym (cut-seen c.args.input.total c.in-Some.c.now c.in-Some.after.now c.loop-c.rest.now c.in-Some.ensures.cases.0 (sym c.in-CutOff.ensures))
    ∙ ap (ahead_in c.args.input.total) (sym c.loop-c.invariant)

pub returns-clause-found : goal.returns-clause-found
returns-clause-found c =
    c.mark-2.ensures ∙ sym (end-seen c.args.input.total c.loop-c.rest.now c.in_default.ensures.cases)
    ∙ ap (ahead_in c.args.input.total) (sym c.loop-c.invariant)
