use Rattle.bb_drill.proofs.Tallying.{runs_begin, runs_step}
use Rattle.bb_drill.proofs.run.run_each.Goals as goal

pub loop-session-init : goal.loop-session-init
loop-session-init g c =
    runs_begin g.S.Sessions.rules g.S.Sessions.runs c.args.drawn.now c.args.board.now c.none-tally.result c.args.allowed.now
    c.none-tally.ensures c.requires.geometry c.requires.fresh c.requires.calm c.requires.allowed

pub loop-session-preserved : goal.loop-session-preserved
loop-session-preserved g c =
    runs_step g.S.Sessions.rules g.S.Sessions.runs c.args.drawn.now c.loop-session.session-index _ c.loop-session.board c.run_drawn.new.board
    c.loop-session.tally c.with-tally.result c.loop-session.allowed c.run_drawn.new.allowed c.in_ok-met.met
    c.loop-session-test.true c.loop-session.invariant c.in_ok-met.ensures c.with-tally.ensures
