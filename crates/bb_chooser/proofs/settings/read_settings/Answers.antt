use Rattle.std.proofs.Common.{◌≡◌, ◌==◌, Ok, IfOk, IfErr, sym, subst, ap, ◌∙◌}
use Rattle.std.specs.List.{slice_split}
use Rattle.bb_chooser.proofs.Following.{said_whole}
use Rattle.bb_chooser.specs.GivenSoFar.{given_in}
use Rattle.bb_chooser.specs.References.{texts_of}
use Rattle.bb_chooser.specs.Refusals.{Refuses}
use Rattle.bb_chooser.proofs.settings.read_settings.Goals as goal

pub returns-clause-ok : goal.returns-clause-ok
returns-clause-ok c =
    let split : texts_of c.as_slice.result.now ≡ slice_split (λ b. b == 10) c.args.text.now = ap texts_of c.as_slice.ensures.value ∙ c.in_ok-parts.ensures in
    let is = said_whole c.args.text.now (texts_of c.as_slice.result.now) (given_in c.in_ok-given.given) split c.in_ok-given.ensures.ok in
    subst (λ r. IfOk c.configuration_of.result (λ settings. r ≡ Ok settings)) (sym is) c.configuration_of.ensures.ok

pub returns-clause-refused : goal.returns-clause-refused
returns-clause-refused c =
    let split : texts_of c.as_slice.result.now ≡ slice_split (λ b. b == 10) c.args.text.now = ap texts_of c.as_slice.ensures.value ∙ c.in_ok-parts.ensures in
    let is = said_whole c.args.text.now (texts_of c.as_slice.result.now) (given_in c.in_ok-given.given) split c.in_ok-given.ensures.ok in
    subst (λ r. IfErr c.configuration_of.result (Refuses r)) (sym is) c.configuration_of.ensures.refused
