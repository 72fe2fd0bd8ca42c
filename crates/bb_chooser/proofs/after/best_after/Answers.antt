use Rattle.std.proofs.Common.{◌≡◌, ◌+◌, ◌&&◌, Some, map, arith, sym, ap, subst, ◌∙◌}
use Rattle.std.proofs.lemmas.List.{length-map}
use Rattle.std.specs.Prelude.{nat_lt}
use Rattle.bb_chooser.proofs.Best.{BestSoFar, best_answer, best_passed, best_taken, count_at, none_answer, is_better, is_worse}
use Rattle.bb_chooser.specs.After.{count_after}
use Rattle.bb_chooser.specs.Choosing.{count_of}
use Rattle.bb_chooser.specs.declared.count.Count.{Count}
use Rattle.bb_chooser.proofs.after.best_after.Goals as goal

pub loop-i-preserved-then-not-is_better : goal.loop-i-preserved-then-not-is_better
loop-i-preserved-then-not-is_better c =
    let f = count_after c.args.resets c.args.table.now in
    let cs = map f c.args.targets.now in
    let i = c.loop-i.i in
    let same : count_of cs i ≡ c.count_after-count.result = count_at f c.args.targets.now i c.index-targets-i.result c.loop-i-test.true c.index-targets-i.is ∙ sym c.count_after-count.ensures in
    best_passed cs i c.loop-i.best c.loop-i.highest c.loop-i.invariant
    (is_worse (count_of cs i) c.loop-i.highest (ap (λ (n : Count). nat_lt 0 n.attempts && nat_lt c.loop-i.highest n.priority) same ∙ sym c.is_better.ensures ∙ c.if-not-is_better.true))

pub loop-i-preserved : goal.loop-i-preserved
loop-i-preserved c =
    let f = count_after c.args.resets c.args.table.now in
    let cs = map f c.args.targets.now in
    let i = c.loop-i.i in
    let same : count_of cs i ≡ c.count_after-count.result = count_at f c.args.targets.now i c.index-targets-i.result c.loop-i-test.true c.index-targets-i.is ∙ sym c.count_after-count.ensures in
    let better = is_better (count_of cs i) c.loop-i.highest (ap (λ (n : Count). nat_lt 0 n.attempts && nat_lt c.loop-i.highest n.priority) same ∙ sym c.is_better.ensures ∙ c.if-not-is_better.false) in
    subst (BestSoFar cs (i + 1) (Some i)) (ap (λ (n : Count). n.priority) same) (best_taken cs i c.loop-i.best c.loop-i.highest c.loop-i.invariant better.0 better.1)

pub returns-clause-best : goal.returns-clause-best
returns-clause-best c =
    let f = count_after c.args.resets c.args.table.now in
    best_answer (map f c.args.targets.now) c.loop-i.i c.loop-i.best c.loop-i.highest (omega (arith, length-map c.args.targets.now f, c.loop-i-test.false)) c.loop-i.invariant

pub returns-clause-none : goal.returns-clause-none
returns-clause-none c =
    let f = count_after c.args.resets c.args.table.now in
    none_answer (map f c.args.targets.now) c.loop-i.i c.loop-i.best c.loop-i.highest (omega (arith, length-map c.args.targets.now f, c.loop-i-test.false)) c.loop-i.invariant
