use Rattle.std.proofs.Common.{rules, ◌≡◌, ◌<◌, ◌≤◌, ap, arith, length, sym, take, ◌+◌, ◌∙◌}
use Rattle.std.specs.Prelude.{sum_by}
use Rattle.bb_chooser.specs.Choosing.{number_at}
use Rattle.bb_shell.proofs.Attempts.{sum_next}
use Rattle.bb_shell.proofs.boot.attempts_in.Goals as goal

pub loop-target-preserved : goal.loop-target-preserved
loop-target-preserved c =
    let b = c.args.chooser.now in
    let table = c.args.table.now in
    let inside : c.loop-target.target < length b.targets = omega (arith, c.loop-target-test.true, c.count-target-end.ensures.count) in
    let next = sum_next b table c.loop-target.target inside in
    let same : c.from-attempts.result ≡ c.attempts.result = c.from-attempts.ensures in
    let small : c.from-attempts.result ≤ 4294967295 = search rules in
    let few = c.loop-target.invariant.few in
    record {
      sum = ap (λ n. n + c.from-attempts.result) c.loop-target.invariant.sum
          ∙ ap (λ n. sum_by (λ t. number_at table t.attempts_at) (take c.loop-target.target b.targets) + n) (same ∙ c.attempts.ensures)
          ∙ sym next;
      few = omega (arith, few, small);
    }
