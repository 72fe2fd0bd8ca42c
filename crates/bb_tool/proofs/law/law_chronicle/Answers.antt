use Rattle.bb_copies.proofs.Chronicle.{nothing_lost}
use Rattle.bb_copies.proofs.Cutting.{cut_law}
use Rattle.bb_copies.proofs.History.{blank_stands}
use Rattle.bb_state.proofs.Blank.{erased_passes_nothing}
use Rattle.bb_session.proofs.Kept.{none_all}
use Rattle.bb_session.specs.Looking.{passed_in}
use Rattle.bb_shell.specs.Stages.{first_area}
use Rattle.bb_state.proofs.Families.{passed_same}
use Rattle.bb_tool.proofs.law.law_chronicle.Goals as goal

pub returns-clause-kept : goal.returns-clause-kept
returns-clause-kept c = nothing_lost

pub returns-clause-blank : goal.returns-clause-blank
returns-clause-blank c = λ keyed page image erased.
    let none = erased_passes_nothing keyed page image erased in
    record {
      passes = none_all (passed_in keyed page image) none;
      stands = blank_stands first_area (passed_in keyed page image) none;
    }

pub returns-clause-family : goal.returns-clause-family
returns-clause-family c = passed_same

pub returns-clause-cut : goal.returns-clause-cut
returns-clause-cut c = cut_law
