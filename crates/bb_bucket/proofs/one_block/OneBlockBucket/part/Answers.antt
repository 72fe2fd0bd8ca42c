use Rattle.std.proofs.Common.{◌∙◌, ℕ, ◌+◌, List, Option, IsTrue, length, sym, ap, subst}
use Rattle.std.specs.Option.{ForSome}
use Rattle.bb_flash.specs.Device.{content}
use Rattle.bb_bucket.specs.BlockLaws.{block_lies_on, block_of}
use Rattle.bb_bucket.specs.Calls.{IsPieceOf, Reaches}
use Rattle.bb_bucket.specs.Front.{front_candidate}
use Rattle.bb_bucket.specs.Kind.{LiesOn, part_of}
use Rattle.bb_bucket.specs.OneBlock.{SeenBlock, one_block_holding}
use Rattle.bb_bucket.specs.Seen.{is_sight_of, sight_len}
use Rattle.bb_bucket.proofs.Quiet.{agrees_kept, keeps_of_quiet}
use Rattle.bb_bucket.proofs.Sights.{len_in, on_ok}
use Rattle.bb_bucket.proofs.one_block.OneBlockBucket.part.Goals as goal

pub front_part-requires-clause-lies : goal.front_part-requires-clause-lies
front_part-requires-clause-lies g c =
    subst (λ (s : SeenBlock). LiesOn (g.F.Flash.device c.args.flash.now).geometry s.block.region)
    (sym c.self.view_is)
    (block_lies_on c.args.self.now.block (g.F.Flash.device c.args.flash.now).geometry
    (block_of c.args.self.now.block (g.F.Flash.device c.args.flash.now).geometry c.requires.serves))

pub front_part-requires-clause-reaches : goal.front_part-requires-clause-reaches
front_part-requires-clause-reaches g c =
    subst (λ (o : Option ℕ). Reaches o (c.args.from + length c.args.out.now))
    (sym (ap (λ (s : SeenBlock). sight_len s.sight) c.self.view_is)
    ∙ len_in c.self.inside.entry.items c.self.inside.seen)
    c.requires.found

pub front_part-requires-clause-agreed : goal.front_part-requires-clause-agreed
front_part-requires-clause-agreed g c = λ image told.
    let page : ℕ = (g.F.Flash.device c.args.flash.now).geometry.page in
    let it = c.args.self.now in
    let held = block_of it.block (g.F.Flash.device c.args.flash.now).geometry c.requires.serves in
    subst
    (λ (s : SeenBlock).
    IsTrue (is_sight_of s.sight (front_candidate page (part_of page s.block.region image))))
    (sym c.self.view_is)
    (subst
    (λ (p : ℕ). IsTrue (is_sight_of it.sight (front_candidate p (part_of page it.block.region image))))
    (sym held.page) (c.requires.agreed.here image told))

pub returns-clause-done : goal.returns-clause-done
returns-clause-done g c =
    let from = g.F.Flash.device c.args.flash.now in
    let page : ℕ = from.geometry.page in
    let it = c.args.self.now in
    let out : List ℕ = c.front_part.new.out in
    let held = block_of it.block from.geometry c.requires.serves in
    let given : Type 0 =
    ForSome (content from) (λ image.
    IsPieceOf (front_candidate page (part_of page c.self.inside.block.region image)) c.args.from out) in
    let asked : Type 0 =
    ForSome (content from) (λ image.
    IsPieceOf (front_candidate it.block.page (part_of page it.block.region image)) c.args.from out) in
    let moved : given → asked = λ piece image told.
    subst
    (λ (p : ℕ). IsPieceOf (front_candidate p (part_of page it.block.region image)) c.args.from out)
    held.page
    (subst
    (λ (s : SeenBlock).
    IsPieceOf (front_candidate page (part_of page s.block.region image)) c.args.from out)
    c.self.view_is (piece image told)) in
    on_ok c.front_part.result given asked moved c.front_part.ensures.done

pub returns-clause-agrees : goal.returns-clause-agrees
returns-clause-agrees g c =
    let from = g.F.Flash.device c.args.flash.now in
    let to = g.F.Flash.device c.front_part.new.flash in
    agrees_kept (one_block_holding c.args.self.now) from to
    (keeps_of_quiet from to c.front_part.ensures.quiet) c.requires.agreed
