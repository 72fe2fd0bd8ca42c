use Rattle.bb_drill.proofs.Drawing.{drawn_all, drawn_on}
use Rattle.bb_drill.proofs.draws.draw_sessions.Goals as goal

pub loop-preserved : goal.loop-preserved
loop-preserved c =
    drawn_on c.loop.draws c.session.new.self c.loop.counter c.args.count c.loop.drawn.items c.push.new.self.items _
    c.session.result c.loop-test.true c.session.ensures.value c.session.ensures.state c.in_ok-push.ensures.items c.loop.invariant

pub returns : goal.returns
returns c = drawn_all c.loop.draws c.loop.counter c.args.count c.loop.drawn.items _ c.loop-test.false c.loop.invariant
