use Rattle.std.proofs.Common.{◌≡◌, ℕ, ◌+◌, ◌-◌, ◌%◌, ◌<◌, ◌∙◌, List, Option, Some, None, ap, subst, arith, length, take, drop}
use Rattle.bb_flash.specs.declared.geometry.Geometry.{Geometry}
use Rattle.bb_bucket.proofs.Pages.{sum_aligned}
use Rattle.bb_bucket.proofs.Quiet.{keeps_of_quiet, quiet_joined}
use Rattle.bb_tree.proofs.Changing.{not_some}
use Rattle.bb_install.specs.Compared.{IsDifference}
use Rattle.bb_install.specs.Holding.{HasBytesAt}
use Rattle.bb_install.proofs.Comparing.{inside_more, piece_differs, piece_stands, some_is}
use Rattle.std.proofs.Math.Nat.{mod_self}
use Rattle.bb_install.proofs.page_difference.page_difference.Goals as goal

pub difference_in_page-requires-clause-aligned : goal.difference_in_page-requires-clause-aligned
difference_in_page-requires-clause-aligned g c =
    let from = g.F.Flash.device c.args.flash.now in
    let i = c.loop-done.invariant in
    ap (λ (geo : Geometry). (c.args.at + c.loop-done.done) % geo.page) i.quiet.later.geometry
    ∙ sum_aligned from.geometry.page c.args.at c.loop-done.done c.requires.aligned (i.aligned c.loop-done-test.true)

pub overflow_add-result : goal.overflow_add-result
overflow_add-result g c =
    let part = some_is (λ offset. offset < length (take (c.min-end.result - c.loop-done.done) (drop c.loop-done.done c.args.bytes.now))) c.in_ok-offset.field-0 c.in-Some.offset c.in-Some.is c.in_ok-offset.ensures.inside in
    let all = inside_more c.args.bytes.now c.loop-done.done c.min-end.result c.in-Some.offset part in
    let size = c.geometry-page.ensures.whole.geometry.size_most in
    omega (arith, all, size, c.requires.inside)

pub returns-in-Some-clause-inside : goal.returns-in-Some-clause-inside
returns-in-Some-clause-inside g c =
    inside_more c.args.bytes.now c.loop-done.done c.min-end.result c.in-Some.offset
    (some_is (λ offset. offset < length (take (c.min-end.result - c.loop-done.done) (drop c.loop-done.done c.args.bytes.now))) c.in_ok-offset.field-0 c.in-Some.offset c.in-Some.is c.in_ok-offset.ensures.inside)

pub returns-in-Some-clause-done : goal.returns-in-Some-clause-done
returns-in-Some-clause-done g c = λ image told.
    let from = g.F.Flash.device c.args.flash.now in
    let page : ℕ = from.geometry.page in
    let mid = g.F.Flash.device c.loop-done.flash in
    let i = c.loop-done.invariant in
    let len : ℕ = c.min-end.result - c.loop-done.done in
    let part : List ℕ = take len (drop c.loop-done.done c.args.bytes.now) in
    let here = c.in_ok-offset.ensures.done image ((keeps_of_quiet from mid i.quiet).content ∙ told) in
    let found : IsDifference page image (c.args.at + c.loop-done.done) part (Some c.in-Some.offset) =
    subst (λ (o : Option ℕ). IsDifference page image (c.args.at + c.loop-done.done) part o) c.in-Some.is
    (subst (λ (geo : Geometry). IsDifference geo.page image (c.args.at + c.loop-done.done) part c.in_ok-offset.field-0) i.quiet.later.geometry here) in
    piece_differs page c.args.at c.loop-done.done len c.in-Some.offset image c.args.bytes.now c.geometry-page.ensures.whole.geometry.page_some c.requires.aligned (i.aligned c.loop-done-test.true) i.inside (i.stands image told) found

pub loop-done-preserved : goal.loop-done-preserved
loop-done-preserved g c =
    let from = g.F.Flash.device c.args.flash.now in
    let page : ℕ = from.geometry.page in
    let mid = g.F.Flash.device c.loop-done.flash in
    let to = g.F.Flash.device c.difference_in_page.new.flash in
    let i = c.loop-done.invariant in
    let r = c.in_ok-offset.ensures in
    let len : ℕ = c.min-end.result - c.loop-done.done in
    let part : List ℕ = take len (drop c.loop-done.done c.args.bytes.now) in
    let none = not_some c.in_ok-offset.field-0 c.in_default.not-Some in
    record {
      inside = omega (arith, c.min-end.ensures);
      aligned = λ more.
          (let end : c.min-end.result ≡ c.loop-done.done + c.geometry-page.result.page = omega (arith, c.min-end.ensures, more) in
          ap (λ n. n % page) end ∙ sum_aligned page c.loop-done.done c.geometry-page.result.page (i.aligned c.loop-done-test.true) (ap (λ (geo : Geometry). geo.page % page) c.geometry-page.ensures.value ∙ mod_self page));
      stands = λ image told.
          (let here = r.done image ((keeps_of_quiet from mid i.quiet).content ∙ told) in
          let same : IsDifference page image (c.args.at + c.loop-done.done) part None =
          subst (λ (o : Option ℕ). IsDifference page image (c.args.at + c.loop-done.done) part o) none
          (subst (λ (geo : Geometry). IsDifference geo.page image (c.args.at + c.loop-done.done) part c.in_ok-offset.field-0) i.quiet.later.geometry here) in
          let end : c.loop-done.done + len ≡ c.min-end.result = omega (arith, c.min-end.ensures, c.loop-done-test.true) in
          subst (λ (n : ℕ). HasBytesAt page image c.args.at (take n c.args.bytes.now)) end
          (piece_stands page c.args.at c.loop-done.done len image c.args.bytes.now c.geometry-page.ensures.whole.geometry.page_some c.requires.aligned (i.aligned c.loop-done-test.true) i.inside (i.stands image told) same));
      quiet = quiet_joined from mid to i.quiet r.quiet;
      faults = r.faults ∙ i.faults;
      read_faults = r.read_faults ∙ i.read_faults;
      sized = c.difference_in_page.auto.buffer ∙ i.sized;
    }
