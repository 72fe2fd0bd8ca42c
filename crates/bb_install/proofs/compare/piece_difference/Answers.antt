use Rattle.std.proofs.Common.{◌≡◌, ◌<◌, ap, arith, length}
use Rattle.std.proofs.lemmas.List.{length-take}
use Rattle.bb_flash.specs.declared.geometry.Geometry.{Geometry}
use Rattle.bb_bucket.proofs.Quiet.{quiet_of_read}
use Rattle.bb_install.proofs.Comparing.{read_differs, unequal_inside}
use Rattle.bb_install.proofs.compare.piece_difference.Goals as goal

pub returns-in_default : goal.returns-in_default
returns-in_default g c =
    let from = g.F.Flash.device c.args.flash.now in
    let to = g.F.Flash.device c.read.new.self in
    let call = c.in_ok-read.ensures.call in
    let same = ap (λ (geo : Geometry). geo.page) call.later.geometry in
    let some : 0 < from.geometry.page = omega (arith, call.whole.geometry.page_some, same) in
    let e = simp length-take at c.read.auto.out in
    let size : length c.read.new.out ≡ length c.args.bytes.now = omega (arith, e, c.requires.room) in
    record {
      done = λ image told.
          read_differs from.geometry.page c.args.at image c.args.bytes.now c.read.new.out c.in_ok-read.field-0 c.first_unequal.result some size
          (c.in_ok-read.ensures.done image told) c.in_default.not-Lost c.first_unequal.ensures;
      inside = unequal_inside c.args.bytes.now c.read.new.out c.first_unequal.result c.first_unequal.ensures;
      quiet = quiet_of_read _ from to call;
      faults = call.faults;
      read_faults = call.read_faults;
    }
