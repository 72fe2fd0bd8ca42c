use Rattle.std.proofs.Common.{◌≡◌, ◌∙◌, ℕ, ◌+◌, ◌≤◌, sym, subst, length, arith, drop, refl}
use Rattle.std.proofs.lemmas.List.{length-drop, length-take-le}
use Rattle.std.proofs.lemmas.Grind.{common_steps}
use Rattle.bb_flash.specs.declared.geometry.Geometry.{Geometry}
use Rattle.bb_flash.specs.Image.{Image}
use Rattle.bb_bucket.specs.Front.{IsPart}
use Rattle.bb_bucket.specs.Kind.{LiesOn, part_of}
use Rattle.bb_bucket.proofs.InPieces.{IsReadTo, all_read, more_read, none_read}
use Rattle.bb_bucket.proofs.Quiet.{keeps_of_quiet, quiet_joined, quiet_same}
use Rattle.bb_bucket.proofs.pieces.read_pieces.Goals as goal

pub loop-end-init : goal.loop-end-init
loop-end-init g c = record {
  inside = omega arith;
  ordered = omega arith;
  held = omega arith;
  read = λ image told.
      none_read _ _ _ _ _
      (let whole = (c.geometry.ensures.whole.image image told).bytes in
      length-take-le c.args.region.size (drop c.args.region.at image.bytes)
      (omega (arith, length-drop c.args.region.at image.bytes, c.requires.lies.inside)));
  quiet = quiet_same (g.F.Flash.device c.args.flash.now) c.geometry.ensures.whole;
  faults = refl;
  read_faults = refl;
  sized = refl;
}

pub read_part-requires-clause-lies : goal.read_part-requires-clause-lies
read_part-requires-clause-lies g c =
    subst (λ (geometry : Geometry). LiesOn geometry c.args.region)
    (sym c.loop-end.invariant.quiet.later.geometry) c.requires.lies

pub loop-end-preserved : goal.loop-end-preserved
loop-end-preserved g c =
    let i = c.loop-end.invariant in
    let r = c.in_ok-next.ensures in
    let most = c.piece_len-most.ensures in
    let count : ℕ = c.min-count.result in
    let piece = c.read_part.new.out in
    let small : count ≤ length c.loop-end.memory = omega (arith, most.held, i.sized) in
    let long : length piece ≡ count =
    c.read_part.auto.out ∙ length-take-le count c.loop-end.memory small in
    record {
      inside = omega (arith, i.inside);
      ordered = omega arith;
      held = omega (arith, small, i.sized);
      read = λ image told.
          let keeps = keeps_of_quiet _ _ i.quiet in
          let page : ℕ = (g.F.Flash.device c.args.flash.now).geometry.page in
          let region : Image = part_of page c.args.region image in
          let next =
          subst
          (λ (geometry : Geometry).
          IsPart geometry.page (part_of geometry.page c.args.region image) c.args.region.size
          (c.args.at + c.loop-end.end) piece c.in_ok-next.next)
          keeps.geometry (r.done image (keeps.content ∙ told)) in
          subst (IsReadTo page region c.args.region.size c.args.at c.loop-end.end _ _)
          (sym c.worse-health.ensures)
          (more_read page region c.args.region.size c.args.at c.loop-end.from c.loop-end.end _ count
          c.loop-end.memory piece _ c.loop-end.health c.in_ok-next.next
          c.geometry.ensures.whole.geometry.page_some long refl (i.read image told) next);
      quiet =
          quiet_joined (g.F.Flash.device c.args.flash.now) (g.F.Flash.device c.loop-end.flash)
          (g.F.Flash.device c.read_part.new.flash) i.quiet r.quiet;
      faults = r.faults ∙ i.faults;
      read_faults = r.read_faults ∙ i.read_faults;
      sized = grind (arith, common_steps, i.sized);
    }

pub returns-clause-done : goal.returns-clause-done
returns-clause-done g c = λ image told.
    let i = c.loop-end.invariant in
    let page : ℕ = (g.F.Flash.device c.args.flash.now).geometry.page in
    all_read page (part_of page c.args.region image) c.args.region.size c.args.at c.args.len
    c.loop-end.from c.loop-end.end c.loop-end.memory c.loop-end.health
    c.geometry.ensures.whole.geometry.page_some i.ordered (omega (arith, i.inside))
    (i.read image told)

pub returns-clause-seen : goal.returns-clause-seen
returns-clause-seen g c =
    let i = c.loop-end.invariant in
    record {
      placed = refl;
      inside = omega (arith, i.inside, i.ordered);
      fits = omega arith;
      held = i.held;
    }
