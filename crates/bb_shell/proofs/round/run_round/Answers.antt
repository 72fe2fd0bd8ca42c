use Rattle.std.proofs.Common.{◌∙◌, List, ℕ, Some, refl, subst, sym}
use Rattle.std.proofs.lemmas.Bool.{false≢true}
use Rattle.bb_state.specs.Kinds.{any_holding}
use Rattle.bb_state.specs.State.{has_changed, last_table_of, keyed_of, kinds_of, used_of}
use Rattle.bb_state.specs.declared.state.State.{State}
use Rattle.bb_shell.proofs.Joins.{changed_outside}
use Rattle.bb_shell.proofs.Saves.{chosen_fits, saved_err, saved_ok}
use Rattle.bb_shell.proofs.Starts.{round_adds, round_later, round_ok, round_outside, round_rose, round_stored, start_agrees, start_geometry}
use Rattle.bb_shell.specs.Boot.{plan_at}
use Rattle.bb_shell.specs.Running.{IsSaveRun}
use Rattle.bb_shell.proofs.round.run_round.Goals as goal

pub invariant_of-state-clause-fits : goal.invariant_of-state-clause-fits
invariant_of-state-clause-fits g c =
    chosen_fits c.args.chooser.now c.args.state.now c.spend.new.table c.requires.ready.bound.vars c.spend.ensures.others

pub returns-in-Ok-clause-run : goal.returns-in-Ok-clause-run
returns-in-Ok-clause-run g c =
    let fits = chosen_fits c.args.chooser.now c.args.state.now c.spend.new.table c.requires.ready.bound.vars c.spend.ensures.others in
    let state : State = record c.args.state.now { table = c.spend.new.table; fits = fits } in
    let saved = c.in-Ok.ensures in
    round_ok (keyed_of c.args.state.now) c.args.plans.now (Some (last_table_of c.args.state.now)) (used_of c.args.state.now) (used_of c.save.new.self)
    c.args.target c.spend.new.table c.save.new.self.table c.try_start.result
    (g.B.Flash.device c.args.board.now) (g.B.Flash.device c.save.new.flash) (g.B.Flash.device c.try_start.new.board)
    (saved_ok state (used_of c.save.new.self) (g.B.Flash.device c.args.board.now) (g.B.Flash.device c.save.new.flash)
    c.requires.ready.sure saved.idle saved.save saved.used)
    saved.table c.try_start.ensures.saved c.try_start.ensures.tried

pub returns-in-Ok-clause-outside : goal.returns-in-Ok-clause-outside
returns-in-Ok-clause-outside g c =
    round_outside (keyed_of c.args.state.now) c.args.plans.now (Some (last_table_of c.args.state.now)) (used_of c.args.state.now) (used_of c.save.new.self)
    _ (g.B.Flash.device c.args.board.now) (g.B.Flash.device c.try_start.new.board) (returns-in-Ok-clause-run g c)

pub returns-in-Ok-clause-later : goal.returns-in-Ok-clause-later
returns-in-Ok-clause-later g c =
    round_later (keyed_of c.args.state.now) c.args.plans.now (Some (last_table_of c.args.state.now)) (used_of c.args.state.now) (used_of c.save.new.self)
    _ (g.B.Flash.device c.args.board.now) (g.B.Flash.device c.try_start.new.board) (returns-in-Ok-clause-run g c)

pub returns-in-Err-clause-run : goal.returns-in-Err-clause-run
returns-in-Err-clause-run g c =
    let keyed = keyed_of c.args.state.now in
    let from = g.B.Flash.device c.args.board.now in
    let to = g.B.Flash.device c.save.new.flash in
    let fits = chosen_fits c.args.chooser.now c.args.state.now c.spend.new.table c.requires.ready.bound.vars c.spend.ensures.others in
    let state : State = record c.args.state.now { table = c.spend.new.table; fits = fits } in
    let refused = c.in-Err.ensures in
    record {
      middle = to;
      saved =
          subst (λ (table : List ℕ). IsSaveRun keyed (Some (last_table_of c.args.state.now)) (used_of c.args.state.now) (used_of c.save.new.self) table (Some c.in-Err.fault) from to)
          (sym refused.table)
          (saved_err state (used_of c.save.new.self) c.in-Err.fault from to c.requires.ready.sure (λ kept. false≢true (refused.same kept)) refused.save);
      tried = refl;
    }

pub returns-in-Err-clause-later : goal.returns-in-Err-clause-later
returns-in-Err-clause-later g c =
    round_later (keyed_of c.args.state.now) c.args.plans.now (Some (last_table_of c.args.state.now)) (used_of c.args.state.now) (used_of c.save.new.self)
    _ (g.B.Flash.device c.args.board.now) (g.B.Flash.device c.save.new.flash) (returns-in-Err-clause-run g c)

pub returns-in-Err-clause-starts : goal.returns-in-Err-clause-starts
returns-in-Err-clause-starts g c =
    round_adds (keyed_of c.args.state.now) c.args.plans.now (Some (last_table_of c.args.state.now)) (used_of c.args.state.now) (used_of c.save.new.self)
    _ (g.B.Flash.device c.args.board.now) (g.B.Flash.device c.save.new.flash) (returns-in-Err-clause-run g c)

pub returns-in-Err-clause-start_faults : goal.returns-in-Err-clause-start_faults
returns-in-Err-clause-start_faults g c =
    round_rose (keyed_of c.args.state.now) c.args.plans.now (Some (last_table_of c.args.state.now)) (used_of c.args.state.now) (used_of c.save.new.self)
    _ (g.B.Flash.device c.args.board.now) (g.B.Flash.device c.save.new.flash) (returns-in-Err-clause-run g c)

pub returns-in-Err-clause-outside : goal.returns-in-Err-clause-outside
returns-in-Err-clause-outside g c =
    let fits = chosen_fits c.args.chooser.now c.args.state.now c.spend.new.table c.requires.ready.bound.vars c.spend.ensures.others in
    let state : State = record c.args.state.now { table = c.spend.new.table; fits = fits } in
    changed_outside (kinds_of c.args.state.now) (has_changed state) (g.B.Flash.device c.args.board.now) (g.B.Flash.device c.save.new.flash)
    c.in-Err.ensures.idle (λ changed. (c.in-Err.ensures.save changed).runs.outside)

pub returns-in-Ok-clause-stored : goal.returns-in-Ok-clause-stored
returns-in-Ok-clause-stored g c done =
    round_stored (keyed_of c.args.state.now) c.args.plans.now (Some (last_table_of c.args.state.now)) (used_of c.args.state.now) (used_of c.save.new.self)
    _ (g.B.Flash.device c.args.board.now) (g.B.Flash.device c.try_start.new.board) (returns-in-Ok-clause-run g c)
    c.requires.ready.on.geometry done

pub returns-in-Ok-clause-starts : goal.returns-in-Ok-clause-starts
returns-in-Ok-clause-starts g c =
    round_adds (keyed_of c.args.state.now) c.args.plans.now (Some (last_table_of c.args.state.now)) (used_of c.args.state.now) (used_of c.save.new.self)
    _ (g.B.Flash.device c.args.board.now) (g.B.Flash.device c.try_start.new.board) (returns-in-Ok-clause-run g c)

pub returns-in-Ok-clause-start_faults : goal.returns-in-Ok-clause-start_faults
returns-in-Ok-clause-start_faults g c =
    round_rose (keyed_of c.args.state.now) c.args.plans.now (Some (last_table_of c.args.state.now)) (used_of c.args.state.now) (used_of c.save.new.self)
    _ (g.B.Flash.device c.args.board.now) (g.B.Flash.device c.try_start.new.board) (returns-in-Ok-clause-run g c)

pub returns-in-Ok-clause-on : goal.returns-in-Ok-clause-on
returns-in-Ok-clause-on g c =
    let plan = plan_at c.args.plans.now c.args.target in
    let from = g.B.Flash.device c.save.new.flash in
    let to = g.B.Flash.device c.try_start.new.board in
    record {
      geometry = start_geometry plan c.try_start.result from to c.try_start.ensures.tried ∙ c.save.ensures.on.geometry;
      agrees = start_agrees any_holding c.save.new.self.backing.buckets plan c.try_start.result from to c.try_start.ensures.tried c.save.ensures.on.agrees;
      whole = c.try_start.ensures.whole;
    }
