use Rattle.std.proofs.Common.{Option, subst, IsTrue}
use Rattle.bb_bucket.specs.Kind.{part_of}
use Rattle.bb_circular.specs.declared.kept.Kept.{Kept}
use Rattle.bb_circular.specs.Circular.{agrees_with}
use Rattle.bb_circular.proofs.Keeping.{kept_known}
use Rattle.bb_bucket.proofs.Quiet.{quiet_same}
use Rattle.bb_circular.proofs.look.look_up.Goals as goal

pub returns-in-Some-clause-done : goal.returns-in-Some-clause-done
returns-in-Some-clause-done g c = λ image told.
    kept_known c.args.block.page (part_of c.args.block.page c.args.block.region image) c.in-Some.kept
    (subst (λ (kept : Option Kept). IsTrue (agrees_with c.args.block.page kept (part_of c.args.block.page c.args.block.region image))) c.in-Some.is
    (c.requires.agreed image told))

pub returns-in-Some-clause-quiet : goal.returns-in-Some-clause-quiet
returns-in-Some-clause-quiet g c = quiet_same (g.F.Flash.device c.args.flash.now) c.geometry.ensures.whole
