use Rattle.std.proofs.Common.{rules, ◌≡◌, ◌+◌, Some, Bool, true, false, ap, arith, length, not, refl, subst, sym, ◌∙◌}
use Rattle.bb_chooser.specs.Binding.{IsBoundTo}
use Rattle.bb_copies.specs.Loading.{KeepsOutside}
use Rattle.bb_flash.proofs.Moments.{later_joined}
use Rattle.bb_state.proofs.Tables.{table_sized}
use Rattle.bb_state.specs.Keyed.{Keyed}
use Rattle.bb_state.specs.Kinds.{laid_kinds}
use Rattle.bb_state.specs.State.{is_sure, last_table_of, keyed_of, kinds_of, used_of}
use Rattle.bb_shell.proofs.Attempts.{total_some, total_spent}
use Rattle.bb_shell.proofs.Ends.{retried_saved, retried_starts}
use Rattle.bb_shell.proofs.Joins.{outside_joined, stored_joined}
use Rattle.bb_shell.proofs.Underway.{IsUnderway, ended_are, ended_rose, ended_run, underway_next}
use Rattle.bb_shell.specs.Boot.{Round, all_attempts, end_by, is_retried, plan_at}
use Rattle.bb_shell.specs.Ends.{StaysStored}
use Rattle.bb_shell.specs.Running.{IsRoundRun, is_refused_save}
use Rattle.bb_shell.proofs.boot.run_rounds.Goals as goal

not_true : (x : Bool) → not x ≡ true → x ≡ false
not_true true h = sym h
not_true false h = refl

pub returns-in_default-clause-have_run : goal.returns-in_default-clause-have_run
returns-in_default-clause-have_run g c =
    let b = c.args.chooser.now in
    let plans = c.args.plans.now in
    let keyed = keyed_of c.args.state.now in
    let from = g.B.Flash.device c.args.board.now in
    let mid = g.B.Flash.device c.loop-tries.board in
    let to = g.B.Flash.device c.run_round-outcome.new.board in
    let old = c.loop-tries.state in
    let new = c.run_round-outcome.new.state in
    let round : Round = record { target = c.loop-tries.target; table = new.table; outcome = c.run_round-outcome.result } in
    let invariant = c.loop-tries.invariant in
    let done = c.run_round-outcome.ensures in
    let run : IsRoundRun keyed plans (Some (last_table_of old)) (used_of old) (used_of new) round mid to =
    subst (λ l. IsRoundRun l plans (Some (last_table_of old)) (used_of old) (used_of new) round mid to) invariant.same_keyed done.run in
    record {
      earlier = invariant.underway.earlier;
      last = round;
      are =
          ended_are b plans keyed c.args.state.now.table (Some (last_table_of c.args.state.now)) (used_of c.args.state.now) from
          c.loop-tries.tries old.table (Some (last_table_of old)) (used_of old) mid invariant.underway round (used_of new) to done.round run done.start_faults
          (c.next_target.ensures.none (search rules));
      run =
          ended_run b plans keyed c.args.state.now.table (Some (last_table_of c.args.state.now)) (used_of c.args.state.now) from
          c.loop-tries.tries old.table (Some (last_table_of old)) (used_of old) mid invariant.underway round (used_of new) to done.round run done.start_faults;
      end_is = c.end_by.ensures ∙ ap (λ n. end_by b (n + 1) round round.outcome) (sym invariant.underway.many);
      table = refl;
      kept = done.kept;
      start_faults =
          ended_rose b plans keyed c.args.state.now.table (Some (last_table_of c.args.state.now)) (used_of c.args.state.now) from
          c.loop-tries.tries old.table (Some (last_table_of old)) (used_of old) mid invariant.underway round (used_of new) to done.round run done.start_faults;
    }

pub returns-in_default-clause-stored : goal.returns-in_default-clause-stored
returns-in_default-clause-stored g c sure =
    let keyed = keyed_of c.args.state.now in
    let from = g.B.Flash.device c.args.board.now in
    let mid = g.B.Flash.device c.loop-tries.board in
    let to = g.B.Flash.device c.run_round-outcome.new.board in
    let old = c.loop-tries.state in
    let new = c.run_round-outcome.new.state in
    let invariant = c.loop-tries.invariant in
    let done = c.run_round-outcome.ensures in
    let saved : is_refused_save c.run_round-outcome.result ≡ false = not_true (is_refused_save c.run_round-outcome.result) (sym done.sure ∙ sure) in
    let last = subst (λ l. StaysStored l (Some (last_table_of old)) (Some new.table) mid to) invariant.same_keyed (done.stored saved) in
    subst (λ t. StaysStored keyed (Some (last_table_of c.args.state.now)) (Some t) from to) (sym (done.kept sure))
    (stored_joined keyed (Some (last_table_of c.args.state.now)) (Some (last_table_of old)) (Some new.table) from mid to invariant.later invariant.stored last)

pub returns-in_default-clause-outside : goal.returns-in_default-clause-outside
returns-in_default-clause-outside g c =
    let mid = g.B.Flash.device c.loop-tries.board in
    let to = g.B.Flash.device c.run_round-outcome.new.board in
    let invariant = c.loop-tries.invariant in
    let done = c.run_round-outcome.ensures in
    outside_joined (kinds_of c.args.state.now) (g.B.Flash.device c.args.board.now) mid to invariant.later done.later invariant.outside
    (subst (λ (l : Keyed). KeepsOutside (laid_kinds l.layout) mid to) invariant.same_keyed done.outside)

pub returns-in_default-clause-later : goal.returns-in_default-clause-later
returns-in_default-clause-later g c =
    later_joined (g.B.Flash.device c.args.board.now) (g.B.Flash.device c.loop-tries.board) (g.B.Flash.device c.run_round-outcome.new.board)
    c.loop-tries.invariant.later c.run_round-outcome.ensures.later

pub loop-tries-preserved : goal.loop-tries-preserved
loop-tries-preserved g c =
    let b = c.args.chooser.now in
    let plans = c.args.plans.now in
    let keyed = keyed_of c.args.state.now in
    let from = g.B.Flash.device c.args.board.now in
    let mid = g.B.Flash.device c.loop-tries.board in
    let to = g.B.Flash.device c.run_round-outcome.new.board in
    let old = c.loop-tries.state in
    let new = c.run_round-outcome.new.state in
    let outcome = c.run_round-outcome.result in
    let round : Round = record { target = c.loop-tries.target; table = new.table; outcome = outcome } in
    let invariant = c.loop-tries.invariant in
    let done = c.run_round-outcome.ensures in
    let run : IsRoundRun keyed plans (Some (last_table_of old)) (used_of old) (used_of new) round mid to =
    subst (λ l. IsRoundRun l plans (Some (last_table_of old)) (used_of old) (used_of new) round mid to) invariant.same_keyed done.run in
    let retried : is_retried b outcome ≡ true = c.next_target.ensures.retried (search rules) in
    let saved : is_refused_save outcome ≡ false = retried_saved b outcome retried in
    let sure : is_sure new ≡ true = done.sure ∙ ap not saved in
    let sized : length old.table ≡ b.area_len = table_sized old ∙ sym invariant.ready.bound.area_len in
    let less = total_spent b old.table c.loop-tries.target c.attempts_in-attempts.ensures.binding sized invariant.best in
    let spent : all_attempts b new.table ≡ _ = ap (all_attempts b) done.round.spent in
    let spare = invariant.spare in
    let last = subst (λ l. StaysStored l (Some (last_table_of old)) (Some new.table) mid to) invariant.same_keyed (done.stored saved) in
    record {
      ready = record {
        sure = sure;
        on = done.on;
        bound = record {
          area_len = invariant.ready.bound.area_len ∙ ap (λ (k : Keyed). k.layout.area_len) (sym done.keyed);
          vars = subst (λ (k : Keyed). IsBoundTo k.layout.vars b) (sym done.keyed) invariant.ready.bound.vars;
        };
      };
      best = c.in-Some.ensures.best;
      spare = omega (arith, spare, less, spent);
      same_keyed = done.keyed ∙ invariant.same_keyed;
      underway =
          subst (λ k. IsUnderway b plans keyed c.args.state.now.table (Some (last_table_of c.args.state.now)) (used_of c.args.state.now) from (c.loop-tries.tries + 1) new.table (Some k) (used_of new) to)
          (sym (done.kept sure))
          (underway_next b plans keyed c.args.state.now.table (Some (last_table_of c.args.state.now)) (used_of c.args.state.now) from
          c.loop-tries.tries old.table (Some (last_table_of old)) (used_of old) mid invariant.underway round (used_of new) to done.round run done.start_faults retried);
      starts = retried_starts b (plan_at plans c.loop-tries.target) outcome mid to retried done.starts ∙ invariant.starts;
      stored =
          subst (λ t. StaysStored keyed (Some (last_table_of c.args.state.now)) (Some t) from to) (sym (done.kept sure))
          (stored_joined keyed (Some (last_table_of c.args.state.now)) (Some (last_table_of old)) (Some new.table) from mid to invariant.later invariant.stored last);
      outside =
          outside_joined (kinds_of c.args.state.now) from mid to invariant.later done.later invariant.outside
          (subst (λ (l : Keyed). KeepsOutside (laid_kinds l.layout) mid to) invariant.same_keyed done.outside);
      later = later_joined from mid to invariant.later done.later;
    }

pub unreachable-requires : goal.unreachable-requires
unreachable-requires g c =
    let some = total_some c.args.chooser.now c.loop-tries.state.table c.loop-tries.target c.loop-tries.invariant.best in
    let spare = c.loop-tries.invariant.spare in
    let over = c.loop-tries-test.false in
    omega (arith, some, spare, over)
