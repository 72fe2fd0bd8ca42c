use Rattle.bb_shell.proofs.Counting.{attempts_bound, no_load_starts}
use Rattle.bb_shell.proofs.Cutting.{boot_cut_law}
use Rattle.bb_tool.proofs.law.law_attempts.Goals as goal

pub returns-clause-attempts : goal.returns-clause-attempts
returns-clause-attempts c = attempts_bound

pub returns-clause-no_load : goal.returns-clause-no_load
returns-clause-no_load c = no_load_starts

pub returns-clause-cut : goal.returns-clause-cut
returns-clause-cut c = boot_cut_law
