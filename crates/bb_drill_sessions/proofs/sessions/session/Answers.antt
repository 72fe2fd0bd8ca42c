use Rattle.std.proofs.Common.{sym, subst}
use Rattle.bb_drill.specs.Board.{EndsSound, board_state_of}
use Rattle.bb_drill.specs.declared.sessions.SessionEnd.{SessionEnd}
use Rattle.bb_plan.specs.Plan.{plan_as}
use Rattle.bb_drill_sessions.specs.Rules.{session_rules}
use Rattle.bb_drill_sessions.specs.Undisturbed.{session_runs}
use Rattle.bb_drill_sessions.proofs.Bounded.{on_of}
use Rattle.bb_drill_sessions.proofs.Whole.{sound_of}
use Rattle.bb_drill_sessions.proofs.sessions.session.Goals as goal

pub returns-clause-on : goal.returns-clause-on
returns-clause-on c =
    on_of c.args.command (plan_as c.in-Ok.plan) c.in-Ok.ensures.is c.args.board.now c.do_work.new.board c.do_work.result
    c.do_work.ensures.gives c.do_work.ensures.later

pub returns-clause-sound : goal.returns-clause-sound
returns-clause-sound c = λ calm.
    subst
    (λ (end : SessionEnd). EndsSound session_rules session_runs c.args.command (board_state_of c.args.board.now)
    (board_state_of c.do_work.new.board) end)
    (sym c.end_of.ensures)
    (sound_of c.args.command (plan_as c.in-Ok.plan) c.in-Ok.ensures.is c.in-Ok.plan.keyed.layout.facts c.args.board.now c.do_work.new.board c.requires
    c.do_work.result c.do_work.ensures.gives calm)
