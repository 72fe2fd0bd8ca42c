use Rattle.std.proofs.Common.{◌≡◌, List, ℕ, Option, Some, IsSome, true, rules, refl, sym, subst, ap, ◌∙◌}
use Rattle.std.specs.Option.{option_and_then, option_copied}
use Rattle.std.specs.Prelude.{slice_get}
use Rattle.bb_chooser.specs.Counting.{spend_of}
use Rattle.bb_flash.specs.declared.plan.Plan.{Plan}
use Rattle.bb_shell.proofs.Attempts.{best_there}
use Rattle.bb_shell.specs.Boot.{first_table, plan_at}
use Rattle.bb_drill_sessions.proofs.Making.{boot_kept, boot_made}
use Rattle.bb_drill_sessions.proofs.made.spend.Goals as goal

pub returns-in_default : goal.returns-in_default
returns-in_default c = λ keyed own.
    boot_kept c.args.chooser.now c.args.cause c.args.plans.now c.args.table.now keyed own (c.choose_after.ensures.none.0 (search rules))

pub spend-requires-clause-there : goal.spend-requires-clause-there
spend-requires-clause-there c =
    best_there c.args.chooser.now (first_table c.args.chooser.now c.args.cause true c.args.table.now) c.in-Some.target c.in-Some.ensures.best

pub returns : goal.returns
returns c = λ keyed own.
    let there : slice_get c.args.plans.now c.in-Some.target ≡ Some (Some c.in-Some-Some.field-0-0) =
    sym c.get.ensures ∙ ap option_copied c.in-Some-Some.is ∙ ap (λ (p : Option Plan). Some p) c.in-Some-Some.field-0-is in
    let some : IsSome (plan_at c.args.plans.now c.in-Some.target) =
    subst (λ (o : Option (Option Plan)). IsSome (option_and_then (λ (p : Option Plan). p) o)) (sym there) refl in
    c.spend.ensures.spent ∙ ap (λ (t : List ℕ). spend_of c.args.chooser.now t c.in-Some.target) c.reset.ensures.reset
    ∙ boot_made c.args.chooser.now c.args.cause c.args.plans.now c.args.table.now keyed c.in-Some.target own c.in-Some.ensures.best some
