use Rattle.std.proofs.Common.{◌∙◌, ◌+◌, ◌≤◌, ap, length, arith, subst}
use Rattle.bb_flash.specs.declared.geometry.Geometry.{Geometry}
use Rattle.bb_flash.specs.Image.{IsImageOf}
use Rattle.bb_flash.proofs.Readings.{keeps_of_read}
use Rattle.bb_bucket.proofs.Outcomes.{ok_weaker}
use Rattle.bb_bucket.proofs.Quiet.{quiet_of_read}
use Rattle.bb_bucket.proofs.Within.{part_read}
use Rattle.bb_bucket.proofs.parts.read_part.Goals as goal

pub returns-clause-done : goal.returns-clause-done
returns-clause-done g c =
    let keeps = keeps_of_read _ (g.F.Flash.device c.args.flash.now)
    (g.F.Flash.device c.read.new.self) c.read.ensures.call in
    let page = ap (λ (geometry : Geometry). geometry.page) keeps.geometry in
    let within : c.args.at + length c.read.new.out ≤ c.args.region.size =
    omega (arith, c.read.auto.out) in
    ok_weaker _ _ c.read.result (λ health reading image told.
    let fits = subst (λ (geometry : Geometry). IsImageOf geometry image) keeps.geometry
    (c.read.ensures.call.whole.image image (keeps.content ∙ told)) in
    part_read (g.F.Flash.device c.args.flash.now).geometry image c.args.region c.args.at
    c.read.new.out health (omega (arith, c.read.ensures.call.whole.geometry.page_some, page))
    c.requires.lies fits within (reading image told)) c.read.ensures.done

pub returns-clause-quiet : goal.returns-clause-quiet
returns-clause-quiet g c =
    quiet_of_read _ (g.F.Flash.device c.args.flash.now)
    (g.F.Flash.device c.read.new.self) c.read.ensures.call
