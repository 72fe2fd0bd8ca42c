use Rattle.std.proofs.Common.{drop}
use Rattle.bb_drill.specs.Running.{RunsSoFar}
use Rattle.bb_drill.proofs.run.run_each.Given as goal

abbrev pub invariant-loop-session : goal.invariant-loop-session
invariant-loop-session g l =
    RunsSoFar g.S.Sessions.rules g.S.Sessions.runs l.drawn (drop l.session-index l.drawn)
    l.session-index l.board l.tally l.allowed
