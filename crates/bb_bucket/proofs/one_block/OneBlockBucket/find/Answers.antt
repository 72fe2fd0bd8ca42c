use Rattle.std.proofs.Common.{◌≡◌, ◌+◌, ◌∙◌, ℕ, sym, ap, subst, arith, Some, IsTrue}
use Rattle.std.proofs.lemmas.Grind.{div_ceil_times}
use Rattle.bb_flash.specs.Device.{content}
use Rattle.bb_flash.specs.declared.geometry.Geometry.{Geometry}
use Rattle.bb_flash.specs.Image.{Image}
use Rattle.bb_bucket.specs.BlockLaws.{block_lies_on, block_of}
use Rattle.bb_bucket.specs.Front.{front_candidate, front_is_worn}
use Rattle.bb_bucket.specs.Kind.{LiesOn, part_of}
use Rattle.bb_bucket.specs.OneBlock.{SeenBlock}
use Rattle.bb_bucket.specs.Seen.{IsLookOf, is_sight_of, sight_in}
use Rattle.bb_bucket.proofs.Sights.{has_len, len_in}
use Rattle.bb_bucket.proofs.Quiet.{keeps_of_quiet}
use Rattle.bb_bucket.proofs.one_block.OneBlockBucket.find.Goals as goal

pub find_record-requires-clause-lies : goal.find_record-requires-clause-lies
find_record-requires-clause-lies g c =
    subst (λ (s : SeenBlock). LiesOn (g.F.Flash.device c.args.flash.now).geometry s.block.region)
    (sym c.self.view_is)
    (block_lies_on c.args.self.now.block (g.F.Flash.device c.args.flash.now).geometry
    (block_of c.args.self.now.block (g.F.Flash.device c.args.flash.now).geometry c.requires.serves))

-- there is memory for a page at least
pub find_record-requires-clause-memory : goal.find_record-requires-clause-memory
find_record-requires-clause-memory g c =
    let ceil =
    div_ceil_times (8 + c.self.inside.most) c.self.inside.block.page
    (omega (arith, c.self.invariant.held.page_least)) in
    omega (arith, c.self.invariant.memory, ceil.0)

pub returns-clause-done : goal.returns-clause-done
returns-clause-done g c = λ image told.
    let page : ℕ = (g.F.Flash.device c.args.flash.now).geometry.page in
    let block = c.args.self.now.block in
    let held = block_of block (g.F.Flash.device c.args.flash.now).geometry c.requires.serves in
    let memory = c.find_record.new.memory.items in
    (subst
    (λ (p : ℕ).
    IsLookOf (front_candidate p (part_of page block.region image))
    (front_is_worn p (part_of page block.region image)) memory c.in_ok-look.look)
    held.page
    (subst
    (λ (s : SeenBlock).
    IsLookOf (front_candidate page (part_of page s.block.region image))
    (front_is_worn page (part_of page s.block.region image)) memory c.in_ok-look.look)
    c.self.view_is (c.in_ok-look.ensures.done image told))).is_found

pub returns-clause-found : goal.returns-clause-found
returns-clause-found g c =
    len_in c.find_record.new.memory.items c.in_ok-look.look.seen ∙ sym c.in_ok-look.ensures.len

pub returns-clause-agrees : goal.returns-clause-agrees
returns-clause-agrees g c =
    let keeps = keeps_of_quiet _ _ c.in_ok-look.ensures.quiet in
    let old = (g.F.Flash.device c.args.flash.now).geometry in
    let block = c.self.inside.block in
    let sight = sight_in c.find_record.new.memory.items c.in_ok-look.look.seen in
    let held = block_of c.args.self.now.block old c.requires.serves in
    let page = held.page ∙ sym (ap (λ (s : SeenBlock). s.block.page) c.self.view_is) in
    let same : (image : Image) → content (g.F.Flash.device c.find_record.new.flash) ≡ Some image →
    IsTrue
    (is_sight_of sight
    (front_candidate block.page
    (part_of (g.F.Flash.device c.find_record.new.flash).geometry.page block.region image))) =
    λ image told.
    subst
    (λ (p : ℕ). IsTrue (is_sight_of sight (front_candidate block.page (part_of p block.region image))))
    (sym (ap (λ (geometry : Geometry). geometry.page) keeps.geometry))
    (subst
    (λ (p : ℕ). IsTrue (is_sight_of sight (front_candidate p (part_of old.page block.region image))))
    page (c.in_ok-look.ensures.done image (sym keeps.content ∙ told)).is_seen) in
    record { here = same; found = λ image told. has_len _ _ (same image told) }
