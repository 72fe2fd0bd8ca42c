use Rattle.std.proofs.Common.{◌≡◌, ℕ, ◌+◌, ◌-◌, ◌%◌, ◌<◌, ◌∙◌, List, Option, Some, None, ap, subst, arith, length, take, drop}
use Rattle.bb_flash.specs.declared.geometry.Geometry.{Geometry}
use Rattle.bb_bucket.proofs.Pages.{sum_aligned}
use Rattle.bb_bucket.proofs.Quiet.{keeps_of_quiet, quiet_joined}
use Rattle.bb_tree.proofs.Changing.{not_some}
use Rattle.bb_install.specs.Compared.{IsDifference}
use Rattle.bb_install.specs.Holding.{HasBytesAt}
use Rattle.bb_install.proofs.Comparing.{compared, inside_more, piece_differs, piece_stands, some_is}
use Rattle.bb_install.proofs.Places.{slot_lies}
use Rattle.bb_install.proofs.compare.first_difference.Goals as goal

pub piece_difference-requires-clause-aligned : goal.piece_difference-requires-clause-aligned
piece_difference-requires-clause-aligned g c =
    let from = g.F.Flash.device c.args.flash.now in
    let i = c.loop-done.invariant in
    let lies = slot_lies from.geometry c.args.slot c.geometry.ensures.whole.geometry c.requires.place in
    ap (λ (geo : Geometry). (c.args.slot.at + c.loop-done.done) % geo.page) i.quiet.later.geometry
    ∙ sum_aligned from.geometry.page c.args.slot.at c.loop-done.done lies.aligned (i.aligned c.loop-done-test.true)

pub overflow_add-result : goal.overflow_add-result
overflow_add-result g c =
    let part = some_is (λ offset. offset < length (take (c.min-end.result - c.loop-done.done) (drop c.loop-done.done c.args.image.now))) c.in_ok-offset.field-0 c.in-Some.offset c.in-Some.is c.in_ok-offset.ensures.inside in
    let all = inside_more c.args.image.now c.loop-done.done c.min-end.result c.in-Some.offset part in
    let size = c.geometry.ensures.whole.geometry.size_most in
    omega (arith, all, size, c.requires.fits, c.requires.place.inside)

pub returns-in-Some-clause-inside : goal.returns-in-Some-clause-inside
returns-in-Some-clause-inside g c =
    inside_more c.args.image.now c.loop-done.done c.min-end.result c.in-Some.offset
    (some_is (λ offset. offset < length (take (c.min-end.result - c.loop-done.done) (drop c.loop-done.done c.args.image.now))) c.in_ok-offset.field-0 c.in-Some.offset c.in-Some.is c.in_ok-offset.ensures.inside)

pub returns-in-Some-clause-done : goal.returns-in-Some-clause-done
returns-in-Some-clause-done g c = λ image told.
    let from = g.F.Flash.device c.args.flash.now in
    let page : ℕ = from.geometry.page in
    let mid = g.F.Flash.device c.loop-done.flash in
    let i = c.loop-done.invariant in
    let len : ℕ = c.min-end.result - c.loop-done.done in
    let part : List ℕ = take len (drop c.loop-done.done c.args.image.now) in
    let here = c.in_ok-offset.ensures.done image ((keeps_of_quiet from mid i.quiet).content ∙ told) in
    let found : IsDifference page image (c.args.slot.at + c.loop-done.done) part (Some c.in-Some.offset) =
    subst (λ (o : Option ℕ). IsDifference page image (c.args.slot.at + c.loop-done.done) part o) c.in-Some.is
    (subst (λ (geo : Geometry). IsDifference geo.page image (c.args.slot.at + c.loop-done.done) part c.in_ok-offset.field-0) i.quiet.later.geometry here) in
    let lies = slot_lies from.geometry c.args.slot c.geometry.ensures.whole.geometry c.requires.place in
    compared page c.args.slot c.args.image.now image (Some (c.loop-done.done + c.in-Some.offset)) c.requires.fits
    (piece_differs page c.args.slot.at c.loop-done.done len c.in-Some.offset image c.args.image.now c.geometry.ensures.whole.geometry.page_some lies.aligned (i.aligned c.loop-done-test.true) i.inside (i.stands image told) found)

pub loop-done-preserved : goal.loop-done-preserved
loop-done-preserved g c =
    let from = g.F.Flash.device c.args.flash.now in
    let page : ℕ = from.geometry.page in
    let mid = g.F.Flash.device c.loop-done.flash in
    let to = g.F.Flash.device c.piece_difference.new.flash in
    let i = c.loop-done.invariant in
    let r = c.in_ok-offset.ensures in
    let len : ℕ = c.min-end.result - c.loop-done.done in
    let part : List ℕ = take len (drop c.loop-done.done c.args.image.now) in
    let none = not_some c.in_ok-offset.field-0 c.in_default.not-Some in
    let lies = slot_lies from.geometry c.args.slot c.geometry.ensures.whole.geometry c.requires.place in
    record {
      inside = omega (arith, c.min-end.ensures);
      aligned = λ more.
          (let end : c.min-end.result ≡ c.loop-done.done + (length c.loop-done.buffer) = omega (arith, c.min-end.ensures, more) in
          ap (λ n. n % page) end ∙ sum_aligned page c.loop-done.done (length c.loop-done.buffer) (i.aligned c.loop-done-test.true) (ap (λ n. n % page) i.sized ∙ c.requires.pages));
      stands = λ image told.
          (let here = r.done image ((keeps_of_quiet from mid i.quiet).content ∙ told) in
          let same : IsDifference page image (c.args.slot.at + c.loop-done.done) part None =
          subst (λ (o : Option ℕ). IsDifference page image (c.args.slot.at + c.loop-done.done) part o) none
          (subst (λ (geo : Geometry). IsDifference geo.page image (c.args.slot.at + c.loop-done.done) part c.in_ok-offset.field-0) i.quiet.later.geometry here) in
          let end : c.loop-done.done + len ≡ c.min-end.result = omega (arith, c.min-end.ensures, c.loop-done-test.true) in
          subst (λ (n : ℕ). HasBytesAt page image c.args.slot.at (take n c.args.image.now)) end
          (piece_stands page c.args.slot.at c.loop-done.done len image c.args.image.now c.geometry.ensures.whole.geometry.page_some lies.aligned (i.aligned c.loop-done-test.true) i.inside (i.stands image told) same));
      quiet = quiet_joined from mid to i.quiet r.quiet;
      faults = r.faults ∙ i.faults;
      read_faults = r.read_faults ∙ i.read_faults;
      sized = c.piece_difference.auto.buffer ∙ i.sized;
    }
