use Rattle.std.proofs.Common.{◌≡◌, ◌==◌, ◌||◌, Bool, true, false, map, sym, ◌∙◌}
use Rattle.std.proofs.lemmas.List.Folds.{list_all-map}
use Rattle.std.specs.List.{list_any}
use Rattle.std.specs.Prelude.{nat_lt}
use Rattle.bb_chooser.proofs.Texts.{list_any-map}
use Rattle.bb_chooser.specs.After.{count_after}
use Rattle.bb_chooser.specs.declared.count.Count.{Count}
use Rattle.bb_chooser.proofs.after.are_used_up.Goals as goal

pub returns-then-have_priority : goal.returns-then-have_priority
returns-then-have_priority c =
    let targets = c.args.targets.now in
    let enabled : Count → Bool = λ n. nat_lt 0 n.priority in
    let spent : Count → Bool = λ n. n.priority == 0 || n.attempts == 0 in
    let some : list_any enabled (map (count_after c.args.resets c.args.table.now) targets) ≡ true =
    list_any-map enabled (count_after c.args.resets c.args.table.now) targets ∙ sym c.have_priority.ensures ∙ c.if-have_priority.true in
    rw some (c.have_no_attempts.ensures ∙ sym (list_all-map spent (count_after c.args.resets c.args.table.now) targets))

pub returns-else-have_priority : goal.returns-else-have_priority
returns-else-have_priority c =
    let targets = c.args.targets.now in
    let enabled : Count → Bool = λ n. nat_lt 0 n.priority in
    let none : list_any enabled (map (count_after c.args.resets c.args.table.now) targets) ≡ false =
    list_any-map enabled (count_after c.args.resets c.args.table.now) targets ∙ sym c.have_priority.ensures ∙ c.if-have_priority.false in
    rw none c.if-have_priority.false
