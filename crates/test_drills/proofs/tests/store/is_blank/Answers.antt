use Rattle.std.proofs.Common.{◌≡◌, ◌≢◌, rules, refl, subst, sym}
use Rattle.bb_flash.specs.declared.geometry.Geometry.{Geometry}
use Rattle.bb_flash.specs.declared.health.Health.TheVariants.{Lost}
use Rattle.bb_flash.specs.Device.{IsReading}
use Rattle.bb_flash.specs.Image.{Image, IsBlank}
use Rattle.test_drills.proofs.Blank.{blank_read}
use Rattle.test_drills.proofs.tests.store.is_blank.Goals as goal

pub returns-clause-blank : goal.returns-clause-blank
returns-clause-blank c h =
    let image = c.args.board.now.told.image in
    let out = c.read.new.out in
    let read = subst (λ (geometry : Geometry). IsReading geometry.page image c.args.at out c.in_ok-health.health) c.requires.geometry (c.in_ok-health.ensures.done _ refl) in
    let alive : c.in_ok-health.health ≢ Lost = λ lost. search (rules, lost) in
    let same : c.read.new.self.told.image ≡ image = search rules in
    subst (λ (now : Image). IsBlank 64 now c.args.at 64) (sym same)
    (blank_read image c.args.at out c.in_ok-health.health (search rules) read alive (search rules))
