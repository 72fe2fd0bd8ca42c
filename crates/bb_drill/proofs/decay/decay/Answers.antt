use Rattle.std.proofs.Common.{◌≡◌, ◌*◌, length, rules, refl, subst}
use Rattle.bb_flash.specs.declared.geometry.Geometry.{Geometry}
use Rattle.bb_drill.proofs.Blocks.{not_decayed}
use Rattle.bb_drill.proofs.decay.decay.Goals as goal

pub returns-then-not-passes : goal.returns-then-not-passes
returns-then-not-passes g c =
    let health = c.args.board.now.told.image.health in
    let long : length health * 64 ≡ 768 = subst (λ (geometry : Geometry). length health * geometry.page ≡ geometry.size) c.requires.geometry (c.geometry-whole.ensures.whole.image _ refl).pages in
    not_decayed g.S.Sessions.rules c.args.copy c.args.board.now c.set_pages.new.board c.look.new.board c.set_pages-then-not-passes.new.board
    c.pages_from-before.result.first c.pages_from-before.result.second c.pages_from-before.result.third c.pages_from-before.result.last
    c.is_some-passes.result c.in_ok-look.field-0 c.requires.copy long
    c.pages_from-before.ensures.first c.pages_from-before.ensures.second c.pages_from-before.ensures.third c.pages_from-before.ensures.last
    c.set_pages.ensures.geometry c.set_pages.ensures.state c.in_ok-look.ensures.only
    c.set_pages-then-not-passes.ensures.geometry c.set_pages-then-not-passes.ensures.state
    c.in_ok-look.ensures.found (search rules) (search rules)
