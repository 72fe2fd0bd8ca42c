use Rattle.std.proofs.Common.{◌≡◌, ◌-◌, ◌++◌}
use Rattle.bb_drill.specs.Draws.{draws_from}
use Rattle.bb_drill.proofs.draws.draw_sessions.Given as goal

-- what is drawn so far, and what is left, is all
abbrev pub invariant-loop : goal.invariant-loop
invariant-loop l =
    l.drawn.items ++ draws_from l.draws (l.count - l.counter) ≡ draws_from l.number l.count
