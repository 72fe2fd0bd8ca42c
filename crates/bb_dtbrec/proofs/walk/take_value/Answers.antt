use Rattle.std.proofs.Common.{arith}
use Rattle.bb_dtbrec.proofs.Slots.{number_taken, straight_taken}
use Rattle.bb_dtbrec.proofs.walk.take_value.Goals as goal

pub returns-in-NumberAsCell-clause-read : goal.returns-in-NumberAsCell-clause-read
returns-in-NumberAsCell-clause-read c =
    number_taken c.args.place.spelling c.args.place.at c.args.place.size c.args.offset _
    c.args.part.now c.args.area.now _ c.in-NumberAsCell.is c.requires.within c.requires.inside
    (omega arith) c.put_turned.ensures

pub returns-in-AsIs-clause-read : goal.returns-in-AsIs-clause-read
returns-in-AsIs-clause-read c =
    straight_taken c.args.place.spelling c.args.place.at c.args.place.size c.args.offset
    c.args.part.now c.args.area.now _ c.in-AsIs.is c.requires.within c.requires.inside
    c.put.ensures
