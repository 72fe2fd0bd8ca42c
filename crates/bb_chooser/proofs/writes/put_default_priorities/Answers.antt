use Rattle.std.proofs.Common.{◌+◌, ◌≤◌, List, ℕ, arith, length, sym, ap, ◌∙◌}
use Rattle.bb_chooser.proofs.Writing.{inside_at, written_more}
use Rattle.bb_chooser.specs.Choosing.{with_number}
use Rattle.bb_chooser.proofs.writes.put_default_priorities.Goals as goal

pub put_number-requires : goal.put_number-requires
put_number-requires c =
    let t = c.target-item.result in
    let inside = inside_at (length c.args.table.now) c.args.targets.now c.loop-target.target-index t c.requires c.loop-target-test.true c.target-item.is in
    let room : t.priority_at + 4 ≤ length c.args.table.now = inside.priority in
    omega (arith, c.loop-target.invariant.same, room)

pub loop-target-preserved : goal.loop-target-preserved
loop-target-preserved c =
    let t = c.target-item.result in
    record {
      put = c.put_number.ensures.put ∙ ap (λ (l : List ℕ). with_number l t.priority_at t.target.default_priority) c.loop-target.invariant.put
          ∙ sym (written_more (λ u. u.priority_at) (λ u. u.target.default_priority) c.args.table.now c.args.targets.now c.loop-target.target-index t c.loop-target-test.true c.target-item.is);
      same = c.put_number.ensures.same_length ∙ c.loop-target.invariant.same;
    }
