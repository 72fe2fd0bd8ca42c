use Rattle.std.proofs.Common.{ℕ, List, ap, sym, ◌∙◌}
use Rattle.std.proofs.lemmas.Result.{err_from_is_err_and}
use Rattle.bb_interpreter.specs.Echo.{echo_text}
use Rattle.bb_interpreter.specs.Means.{sends}
use Rattle.bb_interpreter.proofs.Joins.{leads_from}
use Rattle.bb_interpreter.proofs.SimpleLemmas.{send_lacks}
use Rattle.bb_interpreter.proofs.simple.send_echo.Goals as goal

pub returns-in_err-text-clause-leads : goal.returns-in_err-text-clause-leads
returns-in_err-text-clause-leads g c device =
    let p = err_from_is_err_and c.from_residual.result c.from_residual.ensures.1 in
    rw (p.1, p.2) (send_lacks g.C.Commands.call_gives (echo_text c.args.words.now) c.args.run.now device)

pub returns-clause-leads : goal.returns-clause-leads
returns-clause-leads g c device =
    leads_from g.C.Commands.call_gives _ (sends (echo_text c.args.words.now)) (sends c.as_slice.result.now) _ c.args.run.now c.send.new.run device device
    (ap (λ (text : List ℕ). sends text) (sym (c.as_slice.ensures ∙ c.in_ok-text.ensures)))
    (c.send.ensures.leads device)
