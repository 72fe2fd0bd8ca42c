use Rattle.std.proofs.Common.{◌≡◌, ℕ, sym, ap, ◌∙◌, subst, arith, IsTrue}
use Rattle.bb_flash.specs.declared.geometry.Geometry.{Geometry}
use Rattle.bb_bucket.specs.declared.block.Block.{Block}
use Rattle.bb_bucket.specs.Blocks.{is_block_of}
use Rattle.bb_bucket.specs.BlockLaws.{block_of}
use Rattle.bb_bucket.specs.Kind.{part_of}
use Rattle.bb_bucket.specs.Seen.{IsLookOf, sight_in}
use Rattle.bb_bucket.proofs.Quiet.{keeps_of_quiet}
use Rattle.bb_bucket.proofs.Sights.{len_in}
use Rattle.bb_circular.specs.Circular.{Circle, agrees_with, circular_candidate, circular_is_worn}
use Rattle.bb_circular.specs.EntryLaws.{entry_len_is}
use Rattle.bb_circular.proofs.Keeping.{first_agrees, holding_found}
use Rattle.bb_circular.proofs.circular.CircularBucket.find.Goals as goal

pub returns-clause-agrees : goal.returns-clause-agrees
returns-clause-agrees g c =
    let block_is : c.self.inside.block ≡ c.args.self.now.block = ap (λ (circle : Circle). circle.block) c.self.view_is in
    let serves = subst (λ (block : Block). IsTrue (is_block_of block (g.F.Flash.device c.args.flash.now).geometry)) (sym block_is) c.requires.serves in
    let held = block_of c.self.inside.block (g.F.Flash.device c.args.flash.now).geometry serves in
    let page = ap (λ (geometry : Geometry). geometry.page) c.find_log.ensures.quiet.later.geometry ∙ held.page in
    let keeps = keeps_of_quiet _ _ c.find_log.ensures.quiet in
    holding_found c.self.inside.block c.self.inside.most c.in_ok-answer.answer.1 (sight_in c.find_log.new.memory.items c.in_ok-answer.answer.0.seen) (g.F.Flash.device c.find_log.new.flash) page
    (λ image told. c.in_ok-answer.ensures.kept image (sym keeps.content ∙ told))
    (λ image told. (c.in_ok-answer.ensures.done image (sym keeps.content ∙ told)).is_seen)

pub returns-clause-found : goal.returns-clause-found
returns-clause-found g c =
    len_in c.find_log.new.memory.items c.in_ok-answer.answer.0.seen
    ∙ sym c.in_ok-answer.ensures.len

pub returns-clause-done : goal.returns-clause-done
returns-clause-done g c = λ image told.
    let block_is : c.self.inside.block ≡ c.args.self.now.block = ap (λ (circle : Circle). circle.block) c.self.view_is in
    let serves = subst (λ (block : Block). IsTrue (is_block_of block (g.F.Flash.device c.args.flash.now).geometry)) (sym block_is) c.requires.serves in
    let held = block_of c.self.inside.block (g.F.Flash.device c.args.flash.now).geometry serves in
    let device_page : ℕ = (g.F.Flash.device c.args.flash.now).geometry.page in
    (subst (λ (block : Block). IsLookOf (circular_candidate block.page (part_of device_page block.region image)) (circular_is_worn block.page (part_of device_page block.region image)) c.find_log.new.memory.items c.in_ok-answer.answer.0) block_is
    (subst (λ page. IsLookOf (circular_candidate c.self.inside.block.page (part_of page c.self.inside.block.region image)) (circular_is_worn c.self.inside.block.page (part_of page c.self.inside.block.region image)) c.find_log.new.memory.items c.in_ok-answer.answer.0) (sym held.page)
    (c.in_ok-answer.ensures.done image told))).is_found

-- there is memory for a page at least
pub find_log-requires-clause-memory : goal.find_log-requires-clause-memory
find_log-requires-clause-memory g c =
    let entry = entry_len_is c.self.inside.block.page c.self.inside.most (omega (arith, c.self.invariant.page_least)) in
    omega (arith, c.self.invariant.memory, entry.least)

pub find_log-requires-clause-agreed : goal.find_log-requires-clause-agreed
find_log-requires-clause-agreed g c = λ image told.
    let device = (g.F.Flash.device c.args.flash.now).geometry in
    let held = block_of c.args.self.now.block device c.requires.serves in
    subst (λ (circle : Circle). IsTrue (agrees_with circle.block.page circle.kept (part_of circle.block.page circle.block.region image)))
    (sym c.self.view_is)
    (subst (λ (p : ℕ). IsTrue (agrees_with c.args.self.now.block.page c.args.self.now.kept (part_of p c.args.self.now.block.region image)))
    held.page (first_agrees _ _ (c.requires.agreed.here image told)))
