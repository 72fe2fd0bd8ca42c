use Rattle.std.proofs.Common.{◌≡◌, ◌∙◌, ℕ, List, Ok, IfOk, ap, subst, inl, inr}
use Rattle.bb_session.proofs.Worked.{refused_by, told_whole}
use Rattle.bb_session.proofs.report.Report.of.Goals as goal

pub returns-in_err-text : goal.returns-in_err-text
returns-in_err-text c = λ told is. inr (refused_by c.from_residual.result _ c.from_residual.ensures.1)

pub returns : goal.returns
returns c = λ told is.
    let same = subst (λ text. IfOk text (λ (bytes : List ℕ). bytes ≡ told)) c.in_ok-text.was is in
    inl (ap (λ r. Ok r) (c.done.ensures ∙ ap told_whole same))
