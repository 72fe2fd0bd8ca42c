use Rattle.std.proofs.Common.{◌≡◌, ℕ, ◌+◌, ◌-◌, ◌*◌, ◌%◌, ◌<◌, ◌≤◌, ◌∷◌, ◌∙◌, [], List, ap, subst, refl, arith, length, take, drop, take_all}
use Rattle.std.proofs.Math.Nat.{zero-mul}
use Rattle.std.proofs.lemmas.List.{length-drop, length-take, length-take-le}
use Rattle.std.proofs.lemmas.Result.{err_from_is_err_and}
use Rattle.std.specs.Int.{div_ceil}
use Rattle.bb_flash.specs.declared.geometry.Geometry.{Geometry}
use Rattle.bb_bucket.specs.Front.{put_at}
use Rattle.bb_install.specs.Parts.{PartFails}
use Rattle.bb_install.specs.Ranges.{piece_ranges}
use Rattle.bb_install.specs.Writing.{SlotWrites}
use Rattle.bb_install.proofs.Making.{calls_failed, calls_joined_on, runs_none, runs_on, writes_as, writes_none}
use Rattle.bb_install.proofs.Pieces.{piece_begins, piece_is, piece_whole, pieces_end, times_whole}
use Rattle.bb_install.proofs.Putting.{put_none}
use Rattle.bb_install.proofs.Turns.{piece_blank, program_stops, program_turn}
use Rattle.bb_install.proofs.program.program_pages.Goals as goal

pub loop-k-init : goal.loop-k-init
loop-k-init g c =
    let from = g.F.Flash.device c.args.flash.now in
    record {
      calls = runs_none c.args.slot from c.geometry.ensures.whole;
      writes = writes_none c.args.slot _ from
          (λ part. ap (λ n. put_at from.geometry.page 0 (take n c.args.pages.now) part) (zero-mul c.args.len) ∙ put_none from.geometry.page part);
      erased = refl;
    }

pub program_part-requires-clause-some : goal.program_part-requires-clause-some
program_part-requires-clause-some g c =
    let first : ℕ = c.loop-k.k * c.args.len in
    let inside = subst (λ (n : ℕ). c.loop-k.k < n) c.div_ceil-count.ensures c.loop-k-test.true in
    let begins = piece_begins (length c.args.pages.now) c.args.len c.loop-k.k c.requires.some inside in
    let some = c.requires.some in
    let size = length-take (c.min-end.result - first) (drop first c.args.pages.now) in
    let rest = length-drop first c.args.pages.now in
    omega (arith, c.min-end.ensures)

pub program_part-requires-clause-aligned : goal.program_part-requires-clause-aligned
program_part-requires-clause-aligned g c =
    let from = g.F.Flash.device c.args.flash.now in
    ap (λ (geo : Geometry). c.loop-k.k * c.args.len % geo.page) c.loop-k.invariant.calls.within.later.geometry
    ∙ times_whole c.loop-k.k c.args.len from.geometry.page c.requires.aligned

pub program_part-requires-clause-whole : goal.program_part-requires-clause-whole
program_part-requires-clause-whole g c =
    let from = g.F.Flash.device c.args.flash.now in
    let page : ℕ = from.geometry.page in
    let first : ℕ = c.loop-k.k * c.args.len in
    let pages : List ℕ = c.args.pages.now in
    let inside = subst (λ (n : ℕ). c.loop-k.k < n) c.div_ceil-count.ensures c.loop-k-test.true in
    let begins = piece_begins (length pages) c.args.len c.loop-k.k c.requires.some inside in
    let piece = ap (λ end. take (end - first) (drop first pages)) c.min-end.ensures ∙ piece_is pages first c.args.len in
    ap (λ (geo : Geometry). length (take (c.min-end.result - first) (drop first pages)) % geo.page) c.loop-k.invariant.calls.within.later.geometry
    ∙ ap (λ (xs : List ℕ). length xs % page) piece
    ∙ piece_whole pages first c.args.len page c.requires.aligned c.requires.whole (times_whole c.loop-k.k c.args.len page c.requires.aligned) (omega arith)

pub program_part-requires-clause-blank : goal.program_part-requires-clause-blank
program_part-requires-clause-blank g c = λ blocks image told.
    let from = g.F.Flash.device c.args.flash.now in
    let page : ℕ = from.geometry.page in
    let first : ℕ = c.loop-k.k * c.args.len in
    let pages : List ℕ = c.args.pages.now in
    let i = c.loop-k.invariant in
    let inside = subst (λ (n : ℕ). c.loop-k.k < n) c.div_ceil-count.ensures c.loop-k-test.true in
    let begins = piece_begins (length pages) c.args.len c.loop-k.k c.requires.some inside in
    let front : length (take first pages) ≡ first = length-take-le first pages (omega arith) in
    let size = length-take (c.min-end.result - first) (drop first pages) in
    let rest = length-drop first pages in
    piece_blank c.args.slot (take first pages) first (length (take (c.min-end.result - first) (drop first pages))) from (g.F.Flash.device c.loop-k.flash) image
    c.geometry.ensures.whole.geometry i.calls.within.later i.writes.leaves
    (ap (λ n. n % page) front ∙ times_whole c.loop-k.k c.args.len page c.requires.aligned) (omega arith) (omega (arith, c.requires.fits)) c.requires.blank blocks told

pub returns-in_err-program_part-clause-failed : goal.returns-in_err-program_part-clause-failed
returns-in_err-program_part-clause-failed g c =
    let from = g.F.Flash.device c.args.flash.now in
    let page : ℕ = from.geometry.page in
    let mid = g.F.Flash.device c.loop-k.flash in
    let to = g.F.Flash.device c.program_part.new.flash in
    let first : ℕ = c.loop-k.k * c.args.len in
    let pages : List ℕ = c.args.pages.now in
    let i = c.loop-k.invariant in
    let r = c.in_err-program_part.ensures in
    let inside = subst (λ (n : ℕ). c.loop-k.k < n) c.div_ceil-count.ensures c.loop-k-test.true in
    let begins = piece_begins (length pages) c.args.len c.loop-k.k c.requires.some inside in
    let fits : first ≤ length pages = omega arith in
    let piece = ap (λ end. take (end - first) (drop first pages)) c.min-end.ensures ∙ piece_is pages first c.args.len in
    let place : ℕ = c.in_err-program_part.field-0.0.at in
    let every = piece_whole pages first c.args.len page c.requires.aligned c.requires.whole (times_whole c.loop-k.k c.args.len page c.requires.aligned) fits in
    let p = err_from_is_err_and c.from_residual.result c.from_residual.ensures.1 in
    rw (p.1, p.2)
    (program_stops c.args.slot pages c.args.len c.loop-k.k place from mid to c.geometry.ensures.whole.geometry c.requires.place c.requires.aligned c.requires.whole c.requires.fits inside fits r.place
    i.calls.within.later r.calls.within.later i.writes every (subst (λ (xs : List ℕ). PartFails place xs mid to) piece r.failed))

pub returns-in_err-program_part-clause-calls : goal.returns-in_err-program_part-clause-calls
returns-in_err-program_part-clause-calls g c =
    let p = err_from_is_err_and c.from_residual.result c.from_residual.ensures.1 in
    rw p.1
    (calls_failed c.in_err-program_part.field-0.0 p.0 c.args.slot (g.F.Flash.device c.args.flash.now) (g.F.Flash.device c.program_part.new.flash)
    (calls_joined_on _ c.args.slot (g.F.Flash.device c.args.flash.now) (g.F.Flash.device c.loop-k.flash) (g.F.Flash.device c.program_part.new.flash) c.loop-k.invariant.calls c.in_err-program_part.ensures.calls))

pub loop-k-preserved : goal.loop-k-preserved
loop-k-preserved g c =
    let from = g.F.Flash.device c.args.flash.now in
    let mid = g.F.Flash.device c.loop-k.flash in
    let to = g.F.Flash.device c.program_part.new.flash in
    let first : ℕ = c.loop-k.k * c.args.len in
    let pages : List ℕ = c.args.pages.now in
    let i = c.loop-k.invariant in
    let r = c.in_ok-program_part.ensures in
    let inside = subst (λ (n : ℕ). c.loop-k.k < n) c.div_ceil-count.ensures c.loop-k-test.true in
    let begins = piece_begins (length pages) c.args.len c.loop-k.k c.requires.some inside in
    let piece = ap (λ end. take (end - first) (drop first pages)) c.min-end.ensures ∙ piece_is pages first c.args.len in
    record {
      calls = calls_joined_on _ c.args.slot from mid to i.calls (runs_on _ c.args.slot mid to r.calls);
      writes = program_turn c.args.slot pages c.args.len c.loop-k.k _ first from mid to c.geometry.ensures.whole.geometry c.requires.aligned refl (omega arith) (omega arith) i.calls.within.later i.writes
          (subst (λ (xs : List ℕ). SlotWrites (record { at = c.args.slot.at + first; size = length xs } ∷ []) c.args.slot (put_at mid.geometry.page first xs) mid to) piece r.done);
      erased = r.erases ∙ i.erased;
    }

pub returns-clause-done : goal.returns-clause-done
returns-clause-done g c =
    let from = g.F.Flash.device c.args.flash.now in
    let now = g.F.Flash.device c.loop-k.flash in
    let page : ℕ = from.geometry.page in
    let pages : List ℕ = c.args.pages.now in
    let len : ℕ = c.args.len in
    let count : ℕ = div_ceil (length pages) len in
    let ended : c.loop-k.k ≡ c.div_ceil-count.result = omega (arith, c.loop-k-test.false) in
    let all : c.loop-k.k ≡ count = ended ∙ c.div_ceil-count.ensures in
    let reached = pieces_end (length pages) len c.requires.some in
    writes_as (piece_ranges len (length pages) c.args.slot count) (piece_ranges len (length pages) c.args.slot count) c.args.slot (put_at page 0 (take (count * len) pages)) (put_at page 0 pages) from now refl
    (λ part. ap (λ (xs : List ℕ). put_at page 0 xs part) (take_all (count * len) pages reached))
    (subst (λ (n : ℕ). SlotWrites (piece_ranges len (length pages) c.args.slot n) c.args.slot (put_at page 0 (take (n * len) pages)) from now) all c.loop-k.invariant.writes)
