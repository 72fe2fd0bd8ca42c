use Rattle.std.proofs.Common.{rules}
use Rattle.bb_drill.proofs.Meeting.{met_of}
use Rattle.bb_drill.proofs.session.run_drawn.Goals as goal

pub returns : goal.returns
returns g c =
    met_of g.S.Sessions.rules g.S.Sessions.runs c.args.drawn c.args.board.now c.table_on.new.board c.try_session.new.board c.decay_drawn.new.board
    c.in_ok-table.table c.in_ok-made.made c.args.allowed.now c.follow.new.self c.has-wrong.result c.in_ok-end.end c.in_ok-end.cut c.in_ok-decay.decay
    c.table_on.ensures.only (search rules) c.in_ok-table.ensures.table (search rules) (search rules) c.in_ok-end.ensures
    c.in_ok-follow.ensures.ok c.in_ok-follow.ensures.ended c.in_ok-decay.ensures
