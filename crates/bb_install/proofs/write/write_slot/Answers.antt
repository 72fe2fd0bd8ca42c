use Rattle.std.proofs.Common.{◌≡◌, ℕ, ◌+◌, ◌%◌, ◌≤◌, ◌∙◌, List, ap, sym, subst, arith, inr, length, take, drop}
use Rattle.std.proofs.lemmas.Result.{err_from_is_err_and}
use Rattle.bb_flash.specs.declared.geometry.Geometry.{Geometry}
use Rattle.bb_bucket.specs.Blocks.{filled_to}
use Rattle.bb_bucket.proofs.Outcomes.{on_ok_weaker}
use Rattle.bb_install.specs.declared.slot_fault.SlotFault.{SlotFault}
use Rattle.bb_install.specs.Parts.{PartFails, StopsPaging}
use Rattle.bb_install.specs.Writing.{StopsAt}
use Rattle.bb_install.specs.Ranges.{paged_len, program_len}
use Rattle.bb_install.proofs.Ending.{HasRest, ends_part, ends_whole, err_both, last_fits, paged_as, pages_paged, pages_stop, rest_none, rest_small, rest_some, rest_stops, split_paged, tail_as}
use Rattle.bb_install.proofs.Installing.{erased_blank}
use Rattle.bb_install.proofs.Making.{calls_failed, calls_joined_on, runs_done, runs_on}
use Rattle.bb_install.proofs.Turns.{piece_blank}
use Rattle.bb_install.proofs.write.write_slot.Goals as goal

pub program_pages-requires-clause-whole : goal.program_pages-requires-clause-whole
program_pages-requires-clause-whole g c =
    let from = g.F.Flash.device c.args.flash.now in
    let image : List ℕ = c.args.image.now in
    let pages_are = c.split_at.ensures.front ∙ ap (λ p. take (paged_len p (length image)) image) c.requires.page in
    ap (λ (geo : Geometry). length c.split_at.result.0.now % geo.page) c.in_ok-erase_slot.ensures.calls.within.later.geometry
    ∙ split_paged from.geometry.page image c.split_at.result.0.now pages_are

pub program_pages-requires-clause-blank : goal.program_pages-requires-clause-blank
program_pages-requires-clause-blank g c = λ blocks.
    let from = g.F.Flash.device c.args.flash.now in
    let e = c.in_ok-erase_slot.ensures in
    let same = ap (λ (geo : Geometry). geo.block) e.calls.within.later.geometry in
    erased_blank c.args.slot from (g.F.Flash.device c.erase_slot.new.flash) c.geometry-geometry.ensures.whole.geometry c.requires.place e.calls.within.later (omega (arith, blocks, same)) e.done.leaves

pub returns-in_err-program_pages-clause-failed : goal.returns-in_err-program_pages-clause-failed
returns-in_err-program_pages-clause-failed g c =
    let from = g.F.Flash.device c.args.flash.now in
    let mid = g.F.Flash.device c.erase_slot.new.flash in
    let to = g.F.Flash.device c.program_pages.new.flash in
    let image : List ℕ = c.args.image.now in
    let pages : List ℕ = c.split_at.result.0.now in
    let pages_are = c.split_at.ensures.front ∙ ap (λ p. take (paged_len p (length image)) image) c.requires.page in
    let len_is = c.program_len.ensures ∙ ap (λ (geo : Geometry). program_len geo) c.geometry-geometry.ensures.value in
    let place : ℕ = c.in_err-program_pages.field-0.0.at in
    let p = err_from_is_err_and c.from_residual-in_err-program_pages.result c.from_residual-in_err-program_pages.ensures.1 in
    rw (p.1, p.2)
    (inr (pages_stop c.args.slot image pages place from mid to pages_are c.in_ok-erase_slot.ensures.calls.within.later c.in_ok-erase_slot.ensures.done
    (subst (λ (n : ℕ). StopsPaging n c.args.slot pages place mid to) len_is c.in_err-program_pages.ensures.failed) c.program_pages.ensures.erases c.in_ok-erase_slot.ensures.erases))

pub returns-in_err-program_pages-clause-calls : goal.returns-in_err-program_pages-clause-calls
returns-in_err-program_pages-clause-calls g c =
    let from = g.F.Flash.device c.args.flash.now in
    let mid = g.F.Flash.device c.erase_slot.new.flash in
    let to = g.F.Flash.device c.program_pages.new.flash in
    let p = err_from_is_err_and c.from_residual-in_err-program_pages.result c.from_residual-in_err-program_pages.ensures.1 in
    rw p.1
    (calls_failed c.in_err-program_pages.field-0.0 p.0 c.args.slot from to
    (calls_joined_on _ c.args.slot from mid to (runs_on _ c.args.slot from mid c.in_ok-erase_slot.ensures.calls) c.in_err-program_pages.ensures.calls))

pub returns-then-is_empty-clause-done : goal.returns-then-is_empty-clause-done
returns-then-is_empty-clause-done g c =
    let from = g.F.Flash.device c.args.flash.now in
    let mid = g.F.Flash.device c.erase_slot.new.flash in
    let to = g.F.Flash.device c.program_pages.new.flash in
    let image : List ℕ = c.args.image.now in
    let pages : List ℕ = c.split_at.result.0.now in
    let pages_are = c.split_at.ensures.front ∙ ap (λ p. take (paged_len p (length image)) image) c.requires.page in
    let rest_is = c.split_at.ensures.back ∙ ap (λ p. drop (paged_len p (length image)) image) c.requires.page in
    let len_is = c.program_len.ensures ∙ ap (λ (geo : Geometry). program_len geo) c.geometry-geometry.ensures.value in
    let e = c.in_ok-erase_slot.ensures in
    let r = c.in_ok-program_pages.ensures in
    ends_whole c.args.slot image pages from mid to c.geometry-geometry.ensures.whole.geometry c.requires.place c.requires.fits
    (rest_none from.geometry.page image c.split_at.result.1.now rest_is (sym c.is_empty.ensures ∙ c.if-is_empty.true)) pages_are e.calls.within.later r.calls.within.later e.done
    (paged_as from.geometry c.args.slot pages c.program_len.result mid to len_is r.done) (c.program_pages.ensures.erases ∙ e.erases)

pub returns-then-is_empty-clause-calls : goal.returns-then-is_empty-clause-calls
returns-then-is_empty-clause-calls g c =
    let from = g.F.Flash.device c.args.flash.now in
    let mid = g.F.Flash.device c.erase_slot.new.flash in
    let to = g.F.Flash.device c.program_pages.new.flash in
    runs_done tt c.args.slot from to
    (calls_joined_on _ c.args.slot from mid to (runs_on _ c.args.slot from mid c.in_ok-erase_slot.ensures.calls) (runs_on _ c.args.slot mid to c.in_ok-program_pages.ensures.calls))

pub program_part-requires-clause-within : goal.program_part-requires-clause-within
program_part-requires-clause-within g c =
    let from = g.F.Flash.device c.args.flash.now in
    let geometry : Geometry = from.geometry in
    let mid = g.F.Flash.device c.erase_slot.new.flash in
    let to = g.F.Flash.device c.program_pages.new.flash in
    let image : List ℕ = c.args.image.now in
    let pages : List ℕ = c.split_at.result.0.now in
    let rest : List ℕ = c.split_at.result.1.now in
    let left : HasRest geometry c.args.slot image pages rest = record {
      within = c.geometry-geometry.ensures.whole.geometry;
      has = c.requires.place;
      fits = c.requires.fits;
      more = rest_some rest (sym c.is_empty.ensures ∙ c.if-is_empty.false);
      pages_are = c.split_at.ensures.front ∙ ap (λ p. take (paged_len p (length image)) image) c.requires.page;
      rest_is = c.split_at.ensures.back ∙ ap (λ p. drop (paged_len p (length image)) image) c.requires.page;
    } in
    let ends = last_fits geometry c.args.slot image pages rest left in
    omega (arith, ends, c.fill_page.auto.page, c.requires.page)

pub program_part-requires-clause-aligned : goal.program_part-requires-clause-aligned
program_part-requires-clause-aligned g c =
    let from = g.F.Flash.device c.args.flash.now in
    let geometry : Geometry = from.geometry in
    let mid = g.F.Flash.device c.erase_slot.new.flash in
    let to = g.F.Flash.device c.program_pages.new.flash in
    let image : List ℕ = c.args.image.now in
    let pages : List ℕ = c.split_at.result.0.now in
    let rest : List ℕ = c.split_at.result.1.now in
    let left : HasRest geometry c.args.slot image pages rest = record {
      within = c.geometry-geometry.ensures.whole.geometry;
      has = c.requires.place;
      fits = c.requires.fits;
      more = rest_some rest (sym c.is_empty.ensures ∙ c.if-is_empty.false);
      pages_are = c.split_at.ensures.front ∙ ap (λ p. take (paged_len p (length image)) image) c.requires.page;
      rest_is = c.split_at.ensures.back ∙ ap (λ p. drop (paged_len p (length image)) image) c.requires.page;
    } in
    ap (λ (geo : Geometry). length pages % geo.page) (c.in_ok-program_pages.ensures.calls.within.later.geometry ∙ c.in_ok-erase_slot.ensures.calls.within.later.geometry)
    ∙ pages_paged geometry c.args.slot image pages rest left

pub program_part-requires-clause-blank : goal.program_part-requires-clause-blank
program_part-requires-clause-blank g c = λ blocks after told.
    let from = g.F.Flash.device c.args.flash.now in
    let geometry : Geometry = from.geometry in
    let mid = g.F.Flash.device c.erase_slot.new.flash in
    let to = g.F.Flash.device c.program_pages.new.flash in
    let image : List ℕ = c.args.image.now in
    let pages : List ℕ = c.split_at.result.0.now in
    let rest : List ℕ = c.split_at.result.1.now in
    let left : HasRest geometry c.args.slot image pages rest = record {
      within = c.geometry-geometry.ensures.whole.geometry;
      has = c.requires.place;
      fits = c.requires.fits;
      more = rest_some rest (sym c.is_empty.ensures ∙ c.if-is_empty.false);
      pages_are = c.split_at.ensures.front ∙ ap (λ p. take (paged_len p (length image)) image) c.requires.page;
      rest_is = c.split_at.ensures.back ∙ ap (λ p. drop (paged_len p (length image)) image) c.requires.page;
    } in
    let e = c.in_ok-erase_slot.ensures in
    let r = c.in_ok-program_pages.ensures in
    let ends = last_fits geometry c.args.slot image pages rest left in
    let block_is = ap (λ (geo : Geometry). geo.block) e.calls.within.later.geometry in
    let fits : length pages + length c.fill_page.new.page ≤ c.args.slot.size = omega (arith, ends, c.fill_page.auto.page, c.requires.page) in
    piece_blank c.args.slot pages (length pages) (length c.fill_page.new.page) mid to after e.calls.within.whole.geometry r.calls.within.later r.done.leaves
    (ap (λ (geo : Geometry). length pages % geo.page) e.calls.within.later.geometry ∙ pages_paged geometry c.args.slot image pages rest left) (omega arith) fits
    (λ some. erased_blank c.args.slot from mid c.geometry-geometry.ensures.whole.geometry c.requires.place e.calls.within.later (omega (arith, some, block_is)) e.done.leaves)
    blocks told

pub returns-clause-done : goal.returns-clause-done
returns-clause-done g c =
    let from = g.F.Flash.device c.args.flash.now in
    let geometry : Geometry = from.geometry in
    let mid = g.F.Flash.device c.erase_slot.new.flash in
    let to = g.F.Flash.device c.program_pages.new.flash in
    let image : List ℕ = c.args.image.now in
    let pages : List ℕ = c.split_at.result.0.now in
    let rest : List ℕ = c.split_at.result.1.now in
    let left : HasRest geometry c.args.slot image pages rest = record {
      within = c.geometry-geometry.ensures.whole.geometry;
      has = c.requires.place;
      fits = c.requires.fits;
      more = rest_some rest (sym c.is_empty.ensures ∙ c.if-is_empty.false);
      pages_are = c.split_at.ensures.front ∙ ap (λ p. take (paged_len p (length image)) image) c.requires.page;
      rest_is = c.split_at.ensures.back ∙ ap (λ p. drop (paged_len p (length image)) image) c.requires.page;
    } in
    let end = g.F.Flash.device c.program_part.new.flash in
    let len_is = c.program_len.ensures ∙ ap (λ (geo : Geometry). program_len geo) c.geometry-geometry.ensures.value in
    let e = c.in_ok-erase_slot.ensures in
    let r = c.in_ok-program_pages.ensures in
    let filled = c.fill_page.ensures ∙ ap (λ n. filled_to n rest) c.requires.page in
    let small : length rest ≤ geometry.page = omega (arith, rest_small geometry c.args.slot image pages rest left) in
    on_ok_weaker _ _ c.program_part.result
    (λ tail.
    ends_part c.args.slot image pages rest from mid to end left e.calls.within.later r.calls.within.later c.program_part.ensures.calls.within.later e.done
    (paged_as geometry c.args.slot pages c.program_len.result mid to len_is r.done)
    (tail_as c.args.slot (length pages) geometry.page rest c.fill_page.new.page to end filled small tail)
    (c.program_part.ensures.erases ∙ c.program_pages.ensures.erases ∙ e.erases))
    c.program_part.ensures.done

pub returns-clause-failed : goal.returns-clause-failed
returns-clause-failed g c =
    let from = g.F.Flash.device c.args.flash.now in
    let geometry : Geometry = from.geometry in
    let mid = g.F.Flash.device c.erase_slot.new.flash in
    let to = g.F.Flash.device c.program_pages.new.flash in
    let image : List ℕ = c.args.image.now in
    let pages : List ℕ = c.split_at.result.0.now in
    let rest : List ℕ = c.split_at.result.1.now in
    let left : HasRest geometry c.args.slot image pages rest = record {
      within = c.geometry-geometry.ensures.whole.geometry;
      has = c.requires.place;
      fits = c.requires.fits;
      more = rest_some rest (sym c.is_empty.ensures ∙ c.if-is_empty.false);
      pages_are = c.split_at.ensures.front ∙ ap (λ p. take (paged_len p (length image)) image) c.requires.page;
      rest_is = c.split_at.ensures.back ∙ ap (λ p. drop (paged_len p (length image)) image) c.requires.page;
    } in
    let end = g.F.Flash.device c.program_part.new.flash in
    let len_is = c.program_len.ensures ∙ ap (λ (geo : Geometry). program_len geo) c.geometry-geometry.ensures.value in
    let e = c.in_ok-erase_slot.ensures in
    let r = c.in_ok-program_pages.ensures in
    let filled = c.fill_page.ensures ∙ ap (λ n. filled_to n rest) c.requires.page in
    let small : length rest ≤ geometry.page = omega (arith, rest_small geometry c.args.slot image pages rest left) in
    err_both (λ (fault : SlotFault). fault.at ≡ c.args.slot.at + length pages) (λ fault. PartFails fault.at c.fill_page.new.page to end) (λ fault. StopsAt c.args.slot image fault.at from end) c.program_part.result
    (λ fault place fails.
    inr (rest_stops c.args.slot image pages rest fault.at from mid to end left e.calls.within.later r.calls.within.later c.program_part.ensures.calls.within.later e.done
    (paged_as geometry c.args.slot pages c.program_len.result mid to len_is r.done) place
    (subst (λ (xs : List ℕ). PartFails fault.at xs to end) filled fails)
    (c.program_pages.ensures.erases ∙ e.erases)))
    c.program_part.ensures.place c.program_part.ensures.failed

pub returns-clause-calls : goal.returns-clause-calls
returns-clause-calls g c =
    let from = g.F.Flash.device c.args.flash.now in
    let mid = g.F.Flash.device c.erase_slot.new.flash in
    let to = g.F.Flash.device c.program_pages.new.flash in
    calls_joined_on c.program_part.result c.args.slot from to (g.F.Flash.device c.program_part.new.flash)
    (calls_joined_on _ c.args.slot from mid to (runs_on _ c.args.slot from mid c.in_ok-erase_slot.ensures.calls) (runs_on _ c.args.slot mid to c.in_ok-program_pages.ensures.calls))
    c.program_part.ensures.calls
