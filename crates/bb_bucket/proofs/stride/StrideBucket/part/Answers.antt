use Rattle.std.proofs.Common.{◌∙◌, ℕ, ◌+◌, List, Option, IsTrue, length, sym, ap, subst}
use Rattle.std.specs.Option.{ForSome}
use Rattle.bb_flash.specs.Device.{content}
use Rattle.bb_bucket.specs.Calls.{IsPieceOf, Reaches}
use Rattle.bb_bucket.specs.Front.{front_candidate}
use Rattle.bb_bucket.specs.Kind.{part_of}
use Rattle.bb_bucket.specs.Seen.{is_sight_of, sight_len}
use Rattle.bb_bucket.specs.Stride.{SeenStride, stride_holding}
use Rattle.bb_bucket.specs.StrideLaws.{held_by}
use Rattle.bb_bucket.proofs.Quiet.{agrees_kept, keeps_of_quiet}
use Rattle.bb_bucket.proofs.Sights.{len_in, on_ok}
use Rattle.bb_bucket.proofs.stride.StrideBucket.part.Goals as goal

pub front_part-requires-clause-reaches : goal.front_part-requires-clause-reaches
front_part-requires-clause-reaches g c =
    subst (λ (o : Option ℕ). Reaches o (c.args.from + length c.args.out.now))
    (sym (ap (λ (s : SeenStride). sight_len s.sight) c.self.view_is)
    ∙ len_in c.self.inside.entry.items c.self.inside.seen)
    c.requires.found

pub front_part-requires-clause-agreed : goal.front_part-requires-clause-agreed
front_part-requires-clause-agreed g c = λ image told.
    let page : ℕ = (g.F.Flash.device c.args.flash.now).geometry.page in
    let it = c.args.self.now in
    let held = held_by it.region (g.F.Flash.device c.args.flash.now).geometry c.requires.serves in
    subst
    (λ (s : SeenStride). IsTrue (is_sight_of s.sight (front_candidate page (part_of page s.region image))))
    (sym c.self.view_is)
    (subst
    (λ (p : ℕ). IsTrue (is_sight_of it.sight (front_candidate p (part_of page it.region image))))
    (sym held.page) (c.requires.agreed.here image told))

pub returns-clause-done : goal.returns-clause-done
returns-clause-done g c =
    let from = g.F.Flash.device c.args.flash.now in
    let page : ℕ = from.geometry.page in
    let it = c.args.self.now in
    let out : List ℕ = c.front_part.new.out in
    let held = held_by it.region from.geometry c.requires.serves in
    let given : Type 0 =
    ForSome (content from) (λ image.
    IsPieceOf (front_candidate page (part_of page c.self.inside.region image)) c.args.from out) in
    let asked : Type 0 =
    ForSome (content from) (λ image.
    IsPieceOf (front_candidate 1 (part_of page it.region image)) c.args.from out) in
    let moved : given → asked = λ piece image told.
    subst
    (λ (p : ℕ). IsPieceOf (front_candidate p (part_of page it.region image)) c.args.from out)
    held.page
    (subst
    (λ (s : SeenStride).
    IsPieceOf (front_candidate page (part_of page s.region image)) c.args.from out)
    c.self.view_is (piece image told)) in
    on_ok c.front_part.result given asked moved c.front_part.ensures.done

pub returns-clause-agrees : goal.returns-clause-agrees
returns-clause-agrees g c =
    let from = g.F.Flash.device c.args.flash.now in
    let to = g.F.Flash.device c.front_part.new.flash in
    agrees_kept (stride_holding c.args.self.now) from to
    (keeps_of_quiet from to c.front_part.ensures.quiet) c.requires.agreed
