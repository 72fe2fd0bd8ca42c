use Rattle.std.proofs.lemmas.List.{with_items_is}
use Rattle.std.proofs.Common.{◌≡◌, ℕ, List, ◌≤◌, ◌+◌, ◌∙◌, sym, subst, length, arith, false}
use Rattle.bb_flash.specs.declared.geometry.Geometry.{Geometry}
use Rattle.bb_bucket.specs.Front.{front_candidate, front_is_worn, has_front, is_lost, header_len_of}
use Rattle.bb_bucket.specs.Kind.{part_of}
use Rattle.bb_bucket.specs.Seen.{IsLookOf, IsReadThrough, IsSeenIn, look_with}
use Rattle.bb_bucket.proofs.Candidates.{found_lost, found_no_front, found_record, front_fits, front_found, front_not_found}
use Rattle.bb_bucket.proofs.Quiet.{keeps_of_quiet}
use Rattle.bb_bucket.proofs.look.find_record.Goals as goal

pub returns-then-is_lost-clause-done : goal.returns-then-is_lost-clause-done
returns-then-is_lost-clause-done g c = λ image told.
    let page : ℕ = (g.F.Flash.device c.args.flash.now).geometry.page in
    let whole : length c.read_part.new.out ≡ 8 = omega (arith, c.read_part.auto.out) in
    found_lost page (part_of page c.args.region image) c.args.region.size c.read_part.new.out c.args.memory.now.items _ whole (c.in_ok-front_health.ensures.done image told) (sym c.is_lost.ensures ∙ c.if-is_lost.true)

pub returns-in_default-clause-done : goal.returns-in_default-clause-done
returns-in_default-clause-done g c = λ image told.
    let page : ℕ = (g.F.Flash.device c.args.flash.now).geometry.page in
    let whole : length c.read_part.new.out ≡ 8 = omega (arith, c.read_part.auto.out) in
    found_no_front page (part_of page c.args.region image) c.args.region.size c.read_part.new.out c.args.memory.now.items _ whole (c.in_ok-front_health.ensures.done image told) (sym c.is_lost.ensures ∙ c.if-is_lost.false) (front_not_found _ _ c.in_default.ensures)

pub returns-clause-done : goal.returns-clause-done
returns-clause-done g c = λ image told.
    let page : ℕ = (g.F.Flash.device c.args.flash.now).geometry.page in
    let whole : length c.read_part.new.out ≡ 8 = omega (arith, c.read_part.auto.out) in
    let kept : is_lost c.in_ok-front_health.front_health ≡ false = sym c.is_lost.ensures ∙ c.if-is_lost.false in
    let given = front_found (has_front c.args.region.size c.read_part.new.out) c.in-Some.len (header_len_of c.read_part.new.out) c.in-Some.ensures in
    let fits : 8 + c.in-Some.len ≤ c.args.region.size = omega (arith, front_fits c.args.region.size c.read_part.new.out given.0, given.1) in
    let keeps = keeps_of_quiet _ _ c.in_ok-front_health.ensures.quiet in
    let pieces = c.in_ok-pieces.ensures in
    let read =
    subst
    (λ (geometry : Geometry).
    IsReadThrough geometry.page (part_of geometry.page c.args.region image) c.args.region.size 8 c.in-Some.len c.read_pieces.new.memory c.in_ok-pieces.pieces)
    keeps.geometry (pieces.done image (keeps.content ∙ told)) in
    let items = with_items_is c.args.memory.now c.read_pieces.new.memory (omega (arith, pieces.seen.held, c.read_pieces.ensures.memory)) in
    rw c.look_with.ensures.value
    (subst
    (λ (memory : List ℕ).
    IsLookOf (front_candidate page (part_of page c.args.region image)) (front_is_worn page (part_of page c.args.region image)) memory (look_with c.in_ok-pieces.pieces.seen c.in_ok-pieces.pieces.health))
    (sym items)
    (found_record page (part_of page c.args.region image) c.args.region.size c.in-Some.len c.read_part.new.out c.read_pieces.new.memory c.in_ok-front_health.front_health c.in_ok-pieces.pieces whole (c.in_ok-front_health.ensures.done image told) kept given.0 given.1 fits pieces.len (subst (λ (n : ℕ). IsSeenIn 8 c.in-Some.len n c.in_ok-pieces.pieces.seen) (sym c.read_pieces.ensures.memory) pieces.seen) read))
