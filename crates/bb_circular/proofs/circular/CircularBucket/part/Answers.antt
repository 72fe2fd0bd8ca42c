use Rattle.std.proofs.Common.{◌≡◌, ◌∙◌, ◌&&◌, ℕ, ◌+◌, List, Option, Some, IfSome, IsTrue, length, take, drop, option_map, refl, sym, ap, subst, arith}
use Rattle.std.specs.Option.{ForSome}
use Rattle.bb_flash.specs.Device.{content}
use Rattle.bb_flash.specs.Image.{Image}
use Rattle.bb_bucket.specs.declared.block.Block.{Block}
use Rattle.bb_bucket.specs.declared.seen.Seen.{Seen}
use Rattle.bb_bucket.specs.Blocks.{is_block_of}
use Rattle.bb_bucket.specs.BlockLaws.{block_lies_on, block_of}
use Rattle.bb_bucket.specs.Calls.{IsPieceOf, Reaches}
use Rattle.bb_bucket.specs.Kind.{LiesOn, part_of}
use Rattle.bb_bucket.specs.Seen.{IsReadable, IsSeenIn, is_sight_of, sight_in, sight_len}
use Rattle.bb_bucket.proofs.Quiet.{agrees_kept, keeps_of_quiet}
use Rattle.bb_bucket.proofs.Sights.{len_in, on_ok}
use Rattle.bb_circular.specs.Circular.{Circle, IsEntryIn, IsOfEntry, agrees_with, circular_candidate, circular_holding, newest_kept}
use Rattle.bb_circular.proofs.Keeping.{entry_piece, entry_readable, first_agrees, kept_entry}
use Rattle.bb_circular.proofs.circular.CircularBucket.part.Goals as goal

pub unreachable-requires : goal.unreachable-requires
unreachable-requires g c =
    let memory = c.self.inside.memory.items in
    subst (λ (s : Option Seen). Reaches (option_map (λ (x : Seen). x.len) s) (c.args.from + length c.args.out.now))
    c.in_default.is
    (subst (λ (o : Option ℕ). Reaches o (c.args.from + length c.args.out.now))
    (sym (ap (λ (circle : Circle). sight_len circle.sight) c.self.view_is) ∙ len_in memory c.self.inside.seen)
    c.requires.found)

pub give_part-requires-clause-lies : goal.give_part-requires-clause-lies
give_part-requires-clause-lies g c =
    let device = (g.F.Flash.device c.args.flash.now).geometry in
    subst (λ (circle : Circle). LiesOn device circle.block.region) (sym c.self.view_is)
    (block_lies_on c.args.self.now.block device (block_of c.args.self.now.block device c.requires.serves))

pub give_part-requires-clause-within : goal.give_part-requires-clause-within
give_part-requires-clause-within g c =
    let block = c.self.inside.block in
    let kept = c.self.inside.kept in
    let seen : Seen = c.in-Some.seen in
    let of : IsOfEntry block (newest_kept kept) (length c.self.inside.memory.items) seen =
    subst (λ (s : Option Seen). IfSome s (IsOfEntry block (newest_kept kept) (length c.self.inside.memory.items)))
    c.in-Some.is c.self.invariant.sighted in
    let entry : IsEntryIn block (record { at = seen.at; len = seen.len + 8 }) =
    kept_entry block kept (record { at = seen.at; len = seen.len + 8 }) c.self.invariant.inside of.entry in
    omega (arith, entry.inside)

pub give_part-requires-clause-reaches : goal.give_part-requires-clause-reaches
give_part-requires-clause-reaches g c =
    let memory = c.self.inside.memory.items in
    subst (λ (s : Option Seen). Reaches (option_map (λ (x : Seen). x.len) s) (c.args.from + length c.args.out.now))
    c.in-Some.is
    (subst (λ (o : Option ℕ). Reaches o (c.args.from + length c.args.out.now))
    (sym (ap (λ (circle : Circle). sight_len circle.sight) c.self.view_is) ∙ len_in memory c.self.inside.seen)
    c.requires.found)

pub give_part-requires-clause-inside : goal.give_part-requires-clause-inside
give_part-requires-clause-inside g c =
    let block = c.self.inside.block in
    let kept = c.self.inside.kept in
    let seen : Seen = c.in-Some.seen in
    let of : IsOfEntry block (newest_kept kept) (length c.self.inside.memory.items) seen =
    subst (λ (s : Option Seen). IfSome s (IsOfEntry block (newest_kept kept) (length c.self.inside.memory.items)))
    c.in-Some.is c.self.invariant.sighted in
    subst (λ (l : List ℕ). IsSeenIn seen.at seen.len (length l) seen) (sym c.deref.ensures.value)
    (record { placed = refl; inside = of.inside.inside; fits = omega arith; held = of.inside.held })

pub give_part-requires-clause-readable : goal.give_part-requires-clause-readable
give_part-requires-clause-readable g c = λ image told.
    let device = (g.F.Flash.device c.args.flash.now).geometry in
    let block = c.self.inside.block in
    let kept = c.self.inside.kept in
    let memory : List ℕ = c.self.inside.memory.items in
    let seen : Seen = c.in-Some.seen in
    let block_is : block ≡ c.args.self.now.block = ap (λ (circle : Circle). circle.block) c.self.view_is in
    let serves = subst (λ (b : Block). IsTrue (is_block_of b device)) (sym block_is) c.requires.serves in
    let held = block_of block device serves in
    let of : IsOfEntry block (newest_kept kept) (length memory) seen =
    subst (λ (s : Option Seen). IfSome s (IsOfEntry block (newest_kept kept) (length memory)))
    c.in-Some.is c.self.invariant.sighted in
    let agreed : IsTrue (agrees_with block.page kept (part_of device.page block.region image)
    && is_sight_of (sight_in memory c.self.inside.seen) (circular_candidate block.page (part_of device.page block.region image))) =
    subst (λ (circle : Circle). IsTrue (agrees_with circle.block.page circle.kept (part_of device.page circle.block.region image)
    && is_sight_of circle.sight (circular_candidate circle.block.page (part_of device.page circle.block.region image))))
    (sym c.self.view_is) (c.requires.agreed.here image told) in
    let here : IsTrue (agrees_with block.page kept (part_of device.page block.region image)
    && is_sight_of (sight_in memory (Some seen)) (circular_candidate block.page (part_of device.page block.region image))) =
    subst (λ (s : Option Seen). IsTrue (agrees_with block.page kept (part_of device.page block.region image)
    && is_sight_of (sight_in memory s) (circular_candidate block.page (part_of device.page block.region image))))
    c.in-Some.is agreed in
    subst (λ (l : List ℕ). IsReadable device.page (part_of device.page block.region image) l seen) (sym c.deref.ensures.value)
    (subst (λ (p : ℕ). IsReadable p (part_of device.page block.region image) memory seen) (sym held.page)
    (entry_readable block.page (length memory) block (part_of device.page block.region image) kept memory seen held.page_least refl refl
    c.self.invariant.inside of here))

pub returns-clause-done : goal.returns-clause-done
returns-clause-done g c =
    let from = g.F.Flash.device c.args.flash.now in
    let page : ℕ = from.geometry.page in
    let block : Block = c.self.inside.block in
    let kept = c.self.inside.kept in
    let memory : List ℕ = c.self.inside.memory.items in
    let seen : Seen = c.in-Some.seen in
    let out : List ℕ = c.give_part.new.out in
    let len : length out ≡ length c.args.out.now = c.give_part.ensures.len in
    let of : IsOfEntry block (newest_kept kept) (length memory) seen =
    subst (λ (s : Option Seen). IfSome s (IsOfEntry block (newest_kept kept) (length memory)))
    c.in-Some.is c.self.invariant.sighted in
    let reaches : Reaches (Some seen.len) (c.args.from + length c.args.out.now) =
    subst (λ (s : Option Seen). Reaches (option_map (λ (x : Seen). x.len) s) (c.args.from + length c.args.out.now))
    c.in-Some.is
    (subst (λ (o : Option ℕ). Reaches o (c.args.from + length c.args.out.now))
    (sym (ap (λ (circle : Circle). sight_len circle.sight) c.self.view_is) ∙ len_in memory c.self.inside.seen)
    c.requires.found) in
    let given : Type 0 =
    ForSome (content from) (λ image.
    out ≡ take (length c.args.out.now) (drop (seen.at + c.args.from) (part_of page block.region image).bytes)) in
    let asked : Type 0 =
    ForSome (content from) (λ image.
    IsPieceOf (circular_candidate c.args.self.now.block.page (part_of page c.args.self.now.block.region image)) c.args.from out) in
    let moved : given → asked = λ same image told.
    let old : Image = part_of page block.region image in
    let agreed : IsTrue (agrees_with block.page kept old && is_sight_of (sight_in memory c.self.inside.seen) (circular_candidate block.page old)) =
    subst (λ (circle : Circle). IsTrue (agrees_with circle.block.page circle.kept (part_of page circle.block.region image)
    && is_sight_of circle.sight (circular_candidate circle.block.page (part_of page circle.block.region image))))
    (sym c.self.view_is) (c.requires.agreed.here image told) in
    subst (λ (circle : Circle). IsPieceOf (circular_candidate circle.block.page (part_of page circle.block.region image)) c.args.from out)
    c.self.view_is
    (entry_piece block.page (length memory) block old kept out seen c.args.from of (first_agrees _ _ agreed)
    (omega (arith, len, reaches))
    (same image told ∙ ap (λ n. take n (drop (seen.at + c.args.from) old.bytes)) (sym len))) in
    on_ok c.give_part.result given asked moved c.give_part.ensures.done

pub returns-clause-agrees : goal.returns-clause-agrees
returns-clause-agrees g c =
    let from = g.F.Flash.device c.args.flash.now in
    let to = g.F.Flash.device c.give_part.new.flash in
    agrees_kept (circular_holding c.args.self.now) from to
    (keeps_of_quiet from to c.give_part.ensures.quiet) c.requires.agreed
