use Rattle.std.proofs.Common.{◌≡◌, ◌+◌, ◌-◌, ◌≤◌, ◌++◌, ◌≢◌, ◌∙◌, ℕ, List, [], drop, length, take, refl, sym, ap, subst, arith}
use Rattle.std.proofs.lemmas.Grind.{common_steps}
use Rattle.std.proofs.lemmas.List.{drop-drop, length-take-le}
use Rattle.bb_base.specs.Checked.{IsPassed}
use Rattle.bb_base.specs.Form.{Form}
use Rattle.bb_bucket.proofs.Quiet.{keeps_of_quiet, quiet_joined, quiet_same}
use Rattle.bb_bucket.specs.BlockLaws.{block_lies_on, block_of}
use Rattle.bb_bucket.specs.Front.{is_lost}
use Rattle.bb_bucket.specs.Kind.{LiesOn, part_of}
use Rattle.bb_circular.proofs.Looks.{part_by}
use Rattle.bb_copies.proofs.Pieced.{fed_next}
use Rattle.bb_flash.specs.Image.{Image, health_of}
use Rattle.bb_flash.specs.declared.geometry.Geometry.{Geometry}
use Rattle.bb_flash.specs.declared.health.Health.TheVariants.{Lost}
use Rattle.bb_history.proofs.Passing.{alive_is, alive_more, checked, checked_fits, fed_whole, lost_part, unreadable}
use Rattle.bb_history.proofs.entry.check_entry.Goals as goal

pub loop-from-init : goal.loop-from-init
loop-from-init g c = record {
  inside = omega arith;
  fed = ([], c.start-feed.ensures c.args.area.now c.requires.area, λ image told. refl);
  alive = λ image told. λ lost. cc;
  quiet = quiet_same (g.F.Flash.device c.args.flash.now) c.geometry.ensures.whole;
  faults = refl;
  read_faults = refl;
  piece = refl;
  area = refl;
}

pub read_part-requires-clause-lies : goal.read_part-requires-clause-lies
read_part-requires-clause-lies g c =
    subst (λ (geometry : Geometry). LiesOn geometry c.args.block.region)
    (sym c.loop-from.invariant.quiet.later.geometry)
    (block_lies_on c.args.block (g.F.Flash.device c.args.flash.now).geometry
    (block_of c.args.block (g.F.Flash.device c.args.flash.now).geometry c.requires.held))

pub loop-from-preserved : goal.loop-from-preserved
loop-from-preserved g c =
    let i = c.loop-from.invariant in
    let r = c.in_ok-health.ensures in
    let held = block_of c.args.block (g.F.Flash.device c.args.flash.now).geometry c.requires.held in
    let page : ℕ = c.args.block.page in
    let count : ℕ = c.min-count.result in
    let next = c.read_part.new.out in
    let small : count ≤ length c.loop-from.piece = omega arith in
    let long : length next ≡ count = c.read_part.auto.out ∙ length-take-le count c.loop-from.piece small in
    let same = ap (λ (geometry : Geometry). geometry.page) i.quiet.later.geometry ∙ held.page in
    record {
      inside = omega (arith, i.inside);
      fed = (
        i.fed.0 ++ next,
        c.feed.ensures.held i.fed.0 i.fed.1,
        λ image told.
            let old : Image = part_of page c.args.block.region image in
            let keeps = keeps_of_quiet _ _ i.quiet in
            let part = part_by (g.F.Flash.device c.loop-from.flash).geometry page c.args.block.region image (c.args.entry.at + c.loop-from.from) next c.in_ok-health.health same (r.done image (keeps.content ∙ told)) in
            fed_next (drop c.args.entry.at old.bytes) i.fed.0 next c.loop-from.from (c.loop-from.from + count) (i.fed.2 image told)
            (part.exact (alive_is c.in_ok-health.health (sym c.is_lost.ensures ∙ c.if-is_lost.false))
            ∙ ap (take (length next)) (sym (drop-drop c.loop-from.from c.args.entry.at old.bytes)))
            (ap (λ n. c.loop-from.from + n) long),
      );
      alive = λ image told.
          let old : Image = part_of page c.args.block.region image in
          let keeps = keeps_of_quiet _ _ i.quiet in
          let part = part_by (g.F.Flash.device c.loop-from.flash).geometry page c.args.block.region image (c.args.entry.at + c.loop-from.from) next c.in_ok-health.health same (r.done image (keeps.content ∙ told)) in
          alive_more page old c.args.entry.at (omega (arith, held.page_least)) c.loop-from.from count (i.alive image told)
          (λ lost. alive_is c.in_ok-health.health (sym c.is_lost.ensures ∙ c.if-is_lost.false)
          (part.health_is ∙ ap (health_of page old (c.args.entry.at + c.loop-from.from)) long ∙ lost));
      quiet = quiet_joined (g.F.Flash.device c.args.flash.now) (g.F.Flash.device c.loop-from.flash) (g.F.Flash.device c.read_part.new.flash) i.quiet r.quiet;
      faults = r.faults ∙ i.faults;
      read_faults = r.read_faults ∙ i.read_faults;
      piece = grind (arith, common_steps, i.piece);
      area = c.feed.ensures.len ∙ i.area;
    }

-- a Lost page
pub returns-then-is_lost-clause-done : goal.returns-then-is_lost-clause-done
returns-then-is_lost-clause-done g c = λ image told.
    let i = c.loop-from.invariant in
    let held = block_of c.args.block (g.F.Flash.device c.args.flash.now).geometry c.requires.held in
    let page : ℕ = c.args.block.page in
    let old : Image = part_of page c.args.block.region image in
    let count : ℕ = c.min-count.result in
    let next = c.read_part.new.out in
    let small : count ≤ length c.loop-from.piece = omega arith in
    let long : length next ≡ count = c.read_part.auto.out ∙ length-take-le count c.loop-from.piece small in
    let same = ap (λ (geometry : Geometry). geometry.page) i.quiet.later.geometry ∙ held.page in
    let part = part_by (g.F.Flash.device c.loop-from.flash).geometry page c.args.block.region image (c.args.entry.at + c.loop-from.from) next c.in_ok-health.health same (c.in_ok-health.ensures.done image ((keeps_of_quiet _ _ i.quiet).content ∙ told)) in
    unreadable (g.M.Format.form c.args.format.now) page old c.args.entry c.loop-from.area
    (lost_part page old c.args.entry.at (omega (arith, held.page_least)) c.loop-from.from count
    (c.args.entry.len - (c.loop-from.from + count)) c.args.entry.len (omega arith)
    (ap is_lost (sym (part.health_is ∙ ap (health_of page old (c.args.entry.at + c.loop-from.from)) long)) ∙ sym c.is_lost.ensures ∙ c.if-is_lost.true))

pub returns-clause-done : goal.returns-clause-done
returns-clause-done g c = λ image told.
    let i = c.loop-from.invariant in
    let form : Form = g.M.Format.form c.args.format.now in
    let held = block_of c.args.block (g.F.Flash.device c.args.flash.now).geometry c.requires.held in
    let page : ℕ = c.args.block.page in
    let old : Image = part_of page c.args.block.region image in
    let last = c.requires.last image told in
    let all : c.loop-from.from ≡ c.args.entry.len - page = omega (arith, i.inside) in
    let sum : c.loop-from.from + page ≡ c.args.entry.len = omega (arith, c.requires.inside.some) in
    let alive = alive_more page old c.args.entry.at (omega (arith, held.page_least)) c.loop-from.from page (i.alive image told)
    (subst (λ n. health_of page old (c.args.entry.at + n) page ≢ Lost) (sym all) last.alive) in
    let fed = fed_whole form page old c.args.entry i.fed.0 c.args.page.now c.loop-from.from (omega (arith, held.page_least)) sum
    (i.fed.2 image told) (last.bytes ∙ ap (λ n. take page (drop (c.args.entry.at + n) old.bytes)) (sym all)) in
    checked form page old c.args.entry c.feed-2.new.area c.end.result _ _
    (subst (λ n. health_of page old c.args.entry.at n ≢ Lost) sum alive)
    (subst (λ (l : List ℕ). IsPassed form l c.feed-2.new.area c.end.result)
    (ap (λ l. i.fed.0 ++ l) c.record_end.ensures ∙ fed)
    (c.end.ensures (i.fed.0 ++ c.record_end.result.now) (c.feed-2.ensures.held i.fed.0 i.fed.1)))
    c.len_of-passed.ensures refl

pub returns-clause-fits : goal.returns-clause-fits
returns-clause-fits g c =
    let i = c.loop-from.invariant in
    checked_fits (g.M.Format.form c.args.format.now) (i.fed.0 ++ c.record_end.result.now) c.feed-2.new.area c.end.result _
    (g.met.M.Format.laws c.args.format.now) (c.feed-2.ensures.len ∙ i.area ∙ c.requires.area)
    (c.end.ensures (i.fed.0 ++ c.record_end.result.now) (c.feed-2.ensures.held i.fed.0 i.fed.1)) c.len_of-passed.ensures
