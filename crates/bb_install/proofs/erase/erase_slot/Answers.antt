use Rattle.std.proofs.Common.{◌≡◌, ℕ, ◌+◌, ◌*◌, ◌/◌, ◌%◌, ◌<◌, ◌∙◌, ap, sym, subst, arith, replicate}
use Rattle.std.proofs.Math.Nat.{mul-mod_left, zero-mul}
use Rattle.std.proofs.lemmas.Result.{err_from_is_err_and}
use Rattle.bb_flash.specs.declared.geometry.Geometry.{Geometry}
use Rattle.bb_flash.specs.Device.{erases}
use Rattle.bb_bucket.specs.Front.{put_at}
use Rattle.bb_install.specs.Ranges.{block_ranges}
use Rattle.bb_install.specs.Writing.{SlotWrites}
use Rattle.bb_install.proofs.Counting.{erases_more, erases_none}
use Rattle.bb_install.proofs.Making.{calls_failed, calls_joined_on, runs_none, runs_on, writes_none}
use Rattle.bb_install.proofs.Putting.{put_none}
use Rattle.bb_install.proofs.Turns.{block_number, block_some, erase_stops, erase_turn}
use Rattle.bb_install.proofs.erase.erase_slot.Goals as goal

pub loop-k-init : goal.loop-k-init
loop-k-init g c =
    let from = g.F.Flash.device c.args.flash.now in
    record {
      calls = runs_none c.args.slot from c.geometry-block.ensures.whole;
      writes = writes_none c.args.slot _ from
          (λ part. ap (λ n. put_at from.geometry.page 0 (replicate n 255) part) (zero-mul from.geometry.block) ∙ put_none from.geometry.page part);
      erased = sym (erases_none (c.args.slot.at / from.geometry.block) (erases from));
    }

pub erase_part-requires-clause-aligned : goal.erase_part-requires-clause-aligned
erase_part-requires-clause-aligned g c =
    let mid = g.F.Flash.device c.loop-k.flash in
    let same : c.geometry-block.result ≡ mid.geometry = c.geometry-block.ensures.value ∙ sym c.loop-k.invariant.calls.within.later.geometry in
    ap (λ (geo : Geometry). c.loop-k.k * geo.block % mid.geometry.block) same ∙ mul-mod_left c.loop-k.k mid.geometry.block

pub returns-in_err-erase_part-clause-failed : goal.returns-in_err-erase_part-clause-failed
returns-in_err-erase_part-clause-failed g c =
    let from = g.F.Flash.device c.args.flash.now in
    let i = c.loop-k.invariant in
    let r = c.in_err-erase_part.ensures in
    let block_is = ap (λ (geo : Geometry). geo.block) c.geometry-block.ensures.value in
    let count = c.blocks_in-count.ensures ∙ ap (λ b. c.args.slot.size / b) block_is in
    let inside : c.loop-k.k < c.args.slot.size / from.geometry.block = omega (arith, c.loop-k-test.true) in
    let is = r.place ∙ ap (λ b. c.args.slot.at + c.loop-k.k * b) block_is in
    let p = err_from_is_err_and c.from_residual.result c.from_residual.ensures.1 in
    rw (p.1, p.2)
    (erase_stops c.args.slot c.loop-k.k c.in_err-erase_part.field-0.0.at from (g.F.Flash.device c.loop-k.flash) (g.F.Flash.device c.erase_part.new.flash)
    c.geometry-block.ensures.whole.geometry c.requires (block_some c.args.slot.size from.geometry.block c.loop-k.k inside) inside is i.calls.within.later r.calls.within.later i.writes i.erased r.failed)

pub returns-in_err-erase_part-clause-calls : goal.returns-in_err-erase_part-clause-calls
returns-in_err-erase_part-clause-calls g c =
    let p = err_from_is_err_and c.from_residual.result c.from_residual.ensures.1 in
    rw p.1
    (calls_failed c.in_err-erase_part.field-0.0 p.0 c.args.slot (g.F.Flash.device c.args.flash.now) (g.F.Flash.device c.erase_part.new.flash)
    (calls_joined_on _ c.args.slot (g.F.Flash.device c.args.flash.now) (g.F.Flash.device c.loop-k.flash) (g.F.Flash.device c.erase_part.new.flash) c.loop-k.invariant.calls c.in_err-erase_part.ensures.calls))

pub loop-k-preserved : goal.loop-k-preserved
loop-k-preserved g c =
    let from = g.F.Flash.device c.args.flash.now in
    let mid = g.F.Flash.device c.loop-k.flash in
    let to = g.F.Flash.device c.erase_part.new.flash in
    let i = c.loop-k.invariant in
    let r = c.in_ok-erase_part.ensures in
    let block_is = ap (λ (geo : Geometry). geo.block) c.geometry-block.ensures.value in
    let count = c.blocks_in-count.ensures ∙ ap (λ b. c.args.slot.size / b) block_is in
    let inside : c.loop-k.k < c.args.slot.size / from.geometry.block = omega (arith, c.loop-k-test.true) in
    let some = block_some c.args.slot.size from.geometry.block c.loop-k.k inside in
    record {
      calls = calls_joined_on _ c.args.slot from mid to i.calls (runs_on _ c.args.slot mid to r.calls);
      writes = erase_turn c.args.slot c.loop-k.k _ (c.loop-k.k * c.geometry-block.result.block) from mid to c.geometry-block.ensures.whole.geometry some
          (ap (λ b. c.loop-k.k * b) block_is) (omega arith) i.calls.within.later i.writes r.done;
      erased = erases_more (c.args.slot.at / from.geometry.block) c.loop-k.k _ _ (erases from) (erases mid) (erases to)
          (block_number c.args.slot.at c.loop-k.k from.geometry.block c.geometry-block.result.block mid.geometry.block block_is (ap (λ (geo : Geometry). geo.block) i.calls.within.later.geometry) some)
          (omega arith) i.erased r.erases;
    }

pub returns-clause-done : goal.returns-clause-done
returns-clause-done g c =
    let from = g.F.Flash.device c.args.flash.now in
    let block_is = ap (λ (geo : Geometry). geo.block) c.geometry-block.ensures.value in
    let count = c.blocks_in-count.ensures ∙ ap (λ b. c.args.slot.size / b) block_is in
    let all : c.loop-k.k ≡ c.args.slot.size / from.geometry.block = omega (arith, c.loop-k-test.false) in
    subst (λ (n : ℕ). SlotWrites (block_ranges from.geometry.block c.args.slot n) c.args.slot (put_at from.geometry.page 0 (replicate (n * from.geometry.block) 255)) from (g.F.Flash.device c.loop-k.flash)) all
    c.loop-k.invariant.writes
