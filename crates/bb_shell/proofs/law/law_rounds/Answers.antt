use Rattle.bb_shell.proofs.Answering.{best_is, best_none, rounds_are}
use Rattle.bb_shell.proofs.law.law_rounds.Goals as goal

pub returns-clause-best : goal.returns-clause-best
returns-clause-best c = best_is

pub returns-clause-none : goal.returns-clause-none
returns-clause-none c = best_none

pub returns-clause-rounds : goal.returns-clause-rounds
returns-clause-rounds c = rounds_are
