use Rattle.std.proofs.Common.{◌∙◌, sym, ap}
use Rattle.bb_chooser.proofs.GivenSteps.{value_put}
use Rattle.bb_chooser.specs.GivenSoFar.{given_with, given_in}
use Rattle.bb_chooser.specs.declared.setting.Setting.{Setting}
use Rattle.bb_chooser.proofs.given.GivenSoFar.take.Goals as goal

pub returns-in_ok-insert-in-BootOf : goal.returns-in_ok-insert-in-BootOf
returns-in_ok-insert-in-BootOf c =
    let given = given_in c.args.self.now in
    let put = value_put c.args.self.now.boots c.insert.new.self c.in_ok-key-in-BootOf.field-0 c.in-BootOf.name c.in-BootOf.file c.in_ok-key-in-BootOf.ensures c.in_ok-insert-in-BootOf.ensures.updates in
    (λ j. record given { boot = λ n. put n j }) ∙ ap (λ (s : Setting). given_with s given) (sym c.in-BootOf.is)

pub returns-in_ok-insert-in-AttemptsOf : goal.returns-in_ok-insert-in-AttemptsOf
returns-in_ok-insert-in-AttemptsOf c =
    let given = given_in c.args.self.now in
    let put = value_put c.args.self.now.attempts_of c.insert-in-AttemptsOf.new.self c.in_ok-key-in-AttemptsOf.field-0 c.in-AttemptsOf.name c.in-AttemptsOf.n c.in_ok-key-in-AttemptsOf.ensures c.in_ok-insert-in-AttemptsOf.ensures.updates in
    (λ j. record given { attempts_of = λ n. put n j }) ∙ ap (λ (s : Setting). given_with s given) (sym c.in-AttemptsOf.is)

pub returns-in_ok-insert-in-PriorityOf : goal.returns-in_ok-insert-in-PriorityOf
returns-in_ok-insert-in-PriorityOf c =
    let given = given_in c.args.self.now in
    let put = value_put c.args.self.now.priority_of c.insert-in-PriorityOf.new.self c.in_ok-key-in-PriorityOf.field-0 c.in-PriorityOf.name c.in-PriorityOf.n c.in_ok-key-in-PriorityOf.ensures c.in_ok-insert-in-PriorityOf.ensures.updates in
    (λ j. record given { priority_of = λ n. put n j }) ∙ ap (λ (s : Setting). given_with s given) (sym c.in-PriorityOf.is)
