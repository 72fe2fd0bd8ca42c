use Rattle.std.proofs.Common.{◌≡◌, ℕ, subst, arith, length}
use Rattle.std.proofs.lemmas.List.{length-take}
use Rattle.bb_flash.specs.declared.health.Health.{Health}
use Rattle.bb_flash.specs.Device.{IsReading}
use Rattle.bb_bucket.proofs.Quiet.{quiet_of_read}
use Rattle.bb_install.proofs.Comparing.{lost_differs, read_differs, unequal_inside}
use Rattle.bb_install.proofs.page_difference.difference_in_page.Goals as goal

pub returns-in-Lost-clause-done : goal.returns-in-Lost-clause-done
returns-in-Lost-clause-done g c = λ image told.
    let page : ℕ = (g.F.Flash.device c.args.flash.now).geometry.page in
    let e = simp length-take at c.read.auto.out in
    let size : length c.read.new.out ≡ length c.args.bytes.now = omega (arith, e, c.requires.room) in
    lost_differs page c.args.at image c.args.bytes.now c.read.new.out (omega (arith, c.requires.some, c.requires.one)) c.requires.aligned c.requires.some c.requires.one size
    (subst (λ (health : Health). IsReading page image c.args.at c.read.new.out health) c.in-Lost.is (c.in_ok-read.ensures.done image told))

pub returns-in_default : goal.returns-in_default
returns-in_default g c =
    let from = g.F.Flash.device c.args.flash.now in
    let to = g.F.Flash.device c.read.new.self in
    let e = simp length-take at c.read.auto.out in
    let size : length c.read.new.out ≡ length c.args.bytes.now = omega (arith, e, c.requires.room) in
    record {
      done = λ image told.
          read_differs from.geometry.page c.args.at image c.args.bytes.now c.read.new.out c.in_ok-read.field-0 c.first_unequal.result (omega (arith, c.requires.some, c.requires.one)) size
          (c.in_ok-read.ensures.done image told) c.in_default.not-Lost c.first_unequal.ensures;
      inside = unequal_inside c.args.bytes.now c.read.new.out c.first_unequal.result c.first_unequal.ensures;
      quiet = quiet_of_read _ from to c.in_ok-read.ensures.call;
      faults = c.in_ok-read.ensures.call.faults;
      read_faults = c.in_ok-read.ensures.call.read_faults;
    }
