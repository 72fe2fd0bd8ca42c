use Rattle.std.proofs.Common.{◌≡◌, ap, sym, subst}
use Rattle.bb_chooser.specs.Choosing.{Qualifies}
use Rattle.bb_chooser.specs.Resets.{reset_of}
use Rattle.bb_shell.specs.Boot.{first_table}
use Rattle.bb_shell.proofs.boot.first_target.Goals as goal

pub returns-then-first-clause-none : goal.returns-then-first-clause-none
returns-then-first-clause-none c =
    let b = c.args.chooser.now in
    let table = c.args.table.now in
    let same : reset_of b c.args.cause table ≡ first_table b c.args.cause c.args.first table =
    ap (λ first. first_table b c.args.cause first table) (sym c.if-first.true) in (
      λ none target q. c.choose_after.ensures.none.0 none target (subst (λ t. Qualifies b t target) (sym same) q),
      λ none. c.choose_after.ensures.none.1 (λ target q. none target (subst (λ t. Qualifies b t target) same q)),
    )
