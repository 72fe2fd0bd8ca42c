use Rattle.std.proofs.Common.{◌≡◌, ℕ, ◌+◌, ◌-◌, List, Option, Some, IfSome, IsTrue, length, take, drop, option_map, refl, sym, ap, ◌∙◌, subst, arith}
use Rattle.std.specs.Option.{ForSome}
use Rattle.bb_flash.specs.Device.{content}
use Rattle.bb_flash.specs.Image.{Image}
use Rattle.bb_bucket.specs.Calls.{IsPieceOf, Reaches}
use Rattle.bb_bucket.specs.Front.{front_candidate}
use Rattle.bb_bucket.specs.Kind.{part_of}
use Rattle.bb_bucket.specs.Seen.{IsReadable, IsSeenIn, is_sight_of, sight_in}
use Rattle.bb_bucket.specs.declared.seen.Seen.{Seen}
use Rattle.bb_bucket.proofs.Sights.{front_piece, front_readable, on_ok}
use Rattle.bb_bucket.proofs.look.front_part.Goals as goal

pub unreachable-requires : goal.unreachable-requires
unreachable-requires g c =
    subst
    (λ (s : Option Seen).
    Reaches (option_map (λ (x : Seen). x.len) s) (c.args.from + length c.args.out.now))
    c.in_default.is c.requires.reaches

pub give_part-requires-clause-within : goal.give_part-requires-clause-within
give_part-requires-clause-within g c =
    let seen : Seen = c.in-Some.seen in
    let inside : IsSeenIn 8 (c.args.region.size - 8) (length c.args.memory.now.items) seen =
    subst
    (λ (s : Option Seen).
    IfSome s (IsSeenIn 8 (c.args.region.size - 8) (length c.args.memory.now.items)))
    c.in-Some.is c.requires.inside in
    omega (arith, inside.placed, inside.fits, c.requires.least)

pub give_part-requires-clause-reaches : goal.give_part-requires-clause-reaches
give_part-requires-clause-reaches g c =
    subst
    (λ (s : Option Seen).
    Reaches (option_map (λ (x : Seen). x.len) s) (c.args.from + length c.args.out.now))
    c.in-Some.is c.requires.reaches

pub give_part-requires-clause-inside : goal.give_part-requires-clause-inside
give_part-requires-clause-inside g c =
    let seen : Seen = c.in-Some.seen in
    let inside : IsSeenIn 8 (c.args.region.size - 8) (length c.args.memory.now.items) seen =
    subst
    (λ (s : Option Seen).
    IfSome s (IsSeenIn 8 (c.args.region.size - 8) (length c.args.memory.now.items)))
    c.in-Some.is c.requires.inside in
    subst (λ (l : List ℕ). IsSeenIn seen.at seen.len (length l) seen) (sym c.deref.ensures.value)
    (record { placed = refl; inside = inside.inside; fits = omega arith; held = inside.held })

pub give_part-requires-clause-readable : goal.give_part-requires-clause-readable
give_part-requires-clause-readable g c = λ image told.
    let seen : Seen = c.in-Some.seen in
    let page : ℕ = (g.F.Flash.device c.args.flash.now).geometry.page in
    let region : Image = part_of page c.args.region image in
    let memory : List ℕ = c.args.memory.now.items in
    let inside : IsSeenIn 8 (c.args.region.size - 8) (length memory) seen =
    subst
    (λ (s : Option Seen). IfSome s (IsSeenIn 8 (c.args.region.size - 8) (length memory)))
    c.in-Some.is c.requires.inside in
    subst (λ (l : List ℕ). IsReadable page region l seen) (sym c.deref.ensures.value)
    (front_readable page (c.args.region.size - 8) region memory seen inside
    (subst (λ (s : Option Seen). IsTrue (is_sight_of (sight_in memory s) (front_candidate page region)))
    c.in-Some.is (c.requires.agreed image told)))

pub returns-clause-done : goal.returns-clause-done
returns-clause-done g c =
    let from = g.F.Flash.device c.args.flash.now in
    let page : ℕ = from.geometry.page in
    let seen : Seen = c.in-Some.seen in
    let memory : List ℕ = c.args.memory.now.items in
    let out : List ℕ = c.give_part.new.out in
    let inside : IsSeenIn 8 (c.args.region.size - 8) (length memory) seen =
    subst
    (λ (s : Option Seen). IfSome s (IsSeenIn 8 (c.args.region.size - 8) (length memory)))
    c.in-Some.is c.requires.inside in
    let len : length out ≡ length c.args.out.now = c.give_part.ensures.len in
    let reaches : Reaches (Some seen.len) (c.args.from + length c.args.out.now) =
    subst
    (λ (s : Option Seen).
    Reaches (option_map (λ (x : Seen). x.len) s) (c.args.from + length c.args.out.now))
    c.in-Some.is c.requires.reaches in
    let given : Type 0 =
    ForSome (content from) (λ image.
    out ≡ take (length c.args.out.now) (drop (seen.at + c.args.from) (part_of page c.args.region image).bytes)) in
    let asked : Type 0 =
    ForSome (content from) (λ image.
    IsPieceOf (front_candidate page (part_of page c.args.region image)) c.args.from out) in
    let moved : given → asked = λ same image told.
    front_piece page (c.args.region.size - 8) (part_of page c.args.region image) memory out seen
    c.args.from inside
    (subst
    (λ (s : Option Seen).
    IsTrue (is_sight_of (sight_in memory s) (front_candidate page (part_of page c.args.region image))))
    c.in-Some.is (c.requires.agreed image told))
    (omega (arith, len, reaches))
    (same image told
    ∙ ap (λ n. take n (drop (seen.at + c.args.from) (part_of page c.args.region image).bytes)) (sym len)) in
    on_ok c.give_part.result given asked moved c.give_part.ensures.done
