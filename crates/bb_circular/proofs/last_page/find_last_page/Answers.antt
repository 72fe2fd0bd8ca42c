use Rattle.std.proofs.Common.{◌≡◌, ℕ, ◌-◌, ◌*◌, length, refl, sym, ap, ◌∙◌, subst, arith}
use Rattle.bb_flash.specs.declared.geometry.Geometry.{Geometry}
use Rattle.bb_flash.specs.Image.{Image}
use Rattle.bb_bucket.specs.BlockLaws.{block_lies_on, block_of}
use Rattle.bb_bucket.specs.Kind.{LiesOn, part_of}
use Rattle.bb_bucket.proofs.Quiet.{keeps_of_quiet, quiet_joined, quiet_same}
use Rattle.bb_circular.specs.PagesLaws.{IsLookedAt}
use Rattle.bb_circular.proofs.LogDevices.{part_paged}
use Rattle.bb_circular.proofs.Looks.{blank_read, last_page_is, looked_all, looked_more, no_page_is, part_by}
use Rattle.bb_circular.proofs.last_page.find_last_page.Goals as goal

pub loop-pages-init : goal.loop-pages-init
loop-pages-init g c =
    let held = block_of c.args.block (g.F.Flash.device c.args.flash.now).geometry c.requires.held in
    record {
      inside = omega arith;
      looked = λ image told.
          looked_all c.args.block.page c.args.block.region.size (part_of c.args.block.page c.args.block.region image)
          (part_paged c.args.block (g.F.Flash.device c.args.flash.now).geometry image held (c.geometry.ensures.whole.image image told));
      quiet = quiet_same (g.F.Flash.device c.args.flash.now) c.geometry.ensures.whole;
      faults = refl;
      read_faults = refl;
      sized = c.requires.page;
    }

pub read_part-requires-clause-lies : goal.read_part-requires-clause-lies
read_part-requires-clause-lies g c =
    subst (λ (geometry : Geometry). LiesOn geometry c.args.block.region) (sym c.loop-pages.invariant.quiet.later.geometry)
    (block_lies_on c.args.block (g.F.Flash.device c.args.flash.now).geometry (block_of c.args.block (g.F.Flash.device c.args.flash.now).geometry c.requires.held))

pub returns-then-not-is_blank-clause-done : goal.returns-then-not-is_blank-clause-done
returns-then-not-is_blank-clause-done g c = λ image told.
    let i = c.loop-pages.invariant in
    let held = block_of c.args.block (g.F.Flash.device c.args.flash.now).geometry c.requires.held in
    let page : ℕ = c.args.block.page in
    let old : Image = part_of page c.args.block.region image in
    let same = ap (λ (geometry : Geometry). geometry.page) i.quiet.later.geometry ∙ held.page in
    let part = part_by (g.F.Flash.device c.loop-pages.flash).geometry page c.args.block.region image ((c.loop-pages.pages - 1) * page) c.read_part.new.out c.in_ok-health.health same (c.in_ok-health.ensures.done image ((keeps_of_quiet _ _ i.quiet).content ∙ told)) in
    last_page_is page c.args.block.region.size old
    (part_paged c.args.block (g.F.Flash.device c.args.flash.now).geometry image held (c.geometry.ensures.whole.image image told))
    c.loop-pages.pages c.read_part.new.out c.in_ok-health.health c.loop-pages-test.true i.inside (i.looked image told) (c.read_part.auto.out ∙ i.sized) part
    (sym c.is_blank.ensures ∙ c.if-not-is_blank.true)

pub loop-pages-preserved : goal.loop-pages-preserved
loop-pages-preserved g c =
    let i = c.loop-pages.invariant in
    let r = c.in_ok-health.ensures in
    let held = block_of c.args.block (g.F.Flash.device c.args.flash.now).geometry c.requires.held in
    let page : ℕ = c.args.block.page in
    let same = ap (λ (geometry : Geometry). geometry.page) i.quiet.later.geometry ∙ held.page in
    let long : length c.read_part.new.out ≡ page = c.read_part.auto.out ∙ i.sized in
    record {
      inside = omega (arith, i.inside);
      looked = λ image told.
          let old : Image = part_of page c.args.block.region image in
          let part = part_by (g.F.Flash.device c.loop-pages.flash).geometry page c.args.block.region image ((c.loop-pages.pages - 1) * page) c.read_part.new.out c.in_ok-health.health same (r.done image ((keeps_of_quiet _ _ i.quiet).content ∙ told)) in
          looked_more page c.args.block.region.size old
          (part_paged c.args.block (g.F.Flash.device c.args.flash.now).geometry image held (c.geometry.ensures.whole.image image told))
          c.loop-pages.pages c.loop-pages-test.true i.inside (i.looked image told)
          (sym (blank_read page old c.args.block.region.size (c.loop-pages.pages - 1) c.read_part.new.out c.in_ok-health.health part long) ∙ sym c.is_blank.ensures ∙ c.if-not-is_blank.false);
      quiet = quiet_joined (g.F.Flash.device c.args.flash.now) (g.F.Flash.device c.loop-pages.flash) (g.F.Flash.device c.read_part.new.flash) i.quiet r.quiet;
      faults = r.faults ∙ i.faults;
      read_faults = r.read_faults ∙ i.read_faults;
      sized = long;
    }

pub returns-clause-done : goal.returns-clause-done
returns-clause-done g c = λ image told.
    let i = c.loop-pages.invariant in
    let held = block_of c.args.block (g.F.Flash.device c.args.flash.now).geometry c.requires.held in
    let page : ℕ = c.args.block.page in
    let old : Image = part_of page c.args.block.region image in
    let none : c.loop-pages.pages ≡ 0 = omega (arith, c.loop-pages-test.false) in
    no_page_is page c.args.block.region.size old
    (part_paged c.args.block (g.F.Flash.device c.args.flash.now).geometry image held (c.geometry.ensures.whole.image image told))
    c.loop-pages.page (subst (IsLookedAt page old) none (i.looked image told))
