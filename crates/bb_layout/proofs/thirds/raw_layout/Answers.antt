use Rattle.std.proofs.Common.{rules}
use Rattle.bb_layout.proofs.Standing.{have_copies}
use Rattle.bb_layout.proofs.thirds.raw_layout.Goals as goal

pub returns-in_err-check_room-clause-refused : goal.returns-in_err-check_room-clause-refused
returns-in_err-check_room-clause-refused c = search (rules, have_copies)

pub returns-in_err-check_room-clause-bad_prop : goal.returns-in_err-check_room-clause-bad_prop
returns-in_err-check_room-clause-bad_prop c = search (rules, have_copies)

pub returns-in_err-check_room-clause-too_small : goal.returns-in_err-check_room-clause-too_small
returns-in_err-check_room-clause-too_small c = search (rules, have_copies)
