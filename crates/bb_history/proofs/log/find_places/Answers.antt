use Rattle.std.proofs.Common.{◌/◌, ◌∙◌, ℕ, refl, sym, ap, subst, arith, IsTrue}
use Rattle.bb_base.specs.Faults.{counted}
use Rattle.bb_base.specs.Form.{Form}
use Rattle.bb_bucket.proofs.Quiet.{keeps_of_quiet, quiet_joined, quiet_same}
use Rattle.bb_bucket.specs.BlockLaws.{block_of}
use Rattle.bb_bucket.specs.Blocks.{is_block_of}
use Rattle.bb_bucket.specs.Kind.{part_of}
use Rattle.bb_circular.proofs.LogDevices.{part_paged}
use Rattle.bb_flash.specs.Image.{Image}
use Rattle.bb_flash.specs.declared.geometry.Geometry.{Geometry}
use Rattle.bb_history.specs.History.{failed_to_read}
use Rattle.bb_history.specs.Reading.{AreWithin}
use Rattle.bb_history.proofs.Joining.{handed_failed}
use Rattle.bb_history.proofs.Walking.{all_found, found_as, found_next, kept_within, left_less, no_places}
use Rattle.bb_history.specs.declared.fault.HistoryFault.TheVariants.{NoMemory, ReadFault}
use Rattle.bb_history.proofs.log.find_places.Goals as goal

pub look_at-requires-clause-held : goal.look_at-requires-clause-held
look_at-requires-clause-held g c =
    subst (λ (geometry : Geometry). IsTrue (is_block_of c.args.block geometry))
    (sym c.loop-pages.invariant.quiet.later.geometry) c.requires.held

pub loop-pages-init : goal.loop-pages-init
loop-pages-init g c = record {
  inside = omega arith;
  found = λ image told.
      no_places (g.M.Format.form c.args.format.now) c.args.block.page _ _ _ c.none-places.ensures;
  within = subst (AreWithin (c.args.block.region.size / c.args.block.page)) (sym c.none-places.ensures) tt;
  memory = c.requires.memory;
  quiet = quiet_same (g.F.Flash.device c.args.flash.now) c.geometry.ensures.whole;
  faults = refl;
  read_faults = refl;
}

pub loop-pages-preserved : goal.loop-pages-preserved
loop-pages-preserved g c =
    let i = c.loop-pages.invariant in
    let r = c.in_ok-ended.ensures in
    let form : Form = g.M.Format.form c.args.format.now in
    let page : ℕ = c.args.block.page in
    let all : ℕ = c.args.block.region.size / page in
    let held = block_of c.args.block (g.F.Flash.device c.args.flash.now).geometry c.requires.held in
    let left = c.pages_left-pages.ensures in
    let kept = c.in_ok-keep.ensures in
    record {
      inside = omega (arith, left_less c.loop-pages.pages c.in_ok-ended.ended c.loop-pages-test.true r.before, left, i.inside);
      found = λ image told.
          let old : Image = part_of page c.args.block.region image in
          found_as form page old all _ _ _ _ (sym left) (sym kept)
          (found_next form page old all c.loop-pages.pages c.loop-pages.places _ (omega (arith, held.page_least)) c.loop-pages-test.true
          (i.found image told) c.in_ok-ended.ended (r.done image ((keeps_of_quiet _ _ i.quiet).content ∙ told)));
      within = subst (AreWithin all) (sym kept) (kept_within all c.loop-pages.pages c.in_ok-ended.ended c.loop-pages.places c.loop-pages-test.true i.inside i.within);
      memory = r.memory;
      quiet = quiet_joined (g.F.Flash.device c.args.flash.now) (g.F.Flash.device c.loop-pages.flash) (g.F.Flash.device c.look_at.new.flash) i.quiet r.quiet;
      faults = r.faults ∙ i.faults;
      read_faults = r.read_faults ∙ i.read_faults;
    }

pub loop-pages-smaller : goal.loop-pages-smaller
loop-pages-smaller g c =
    let less = left_less c.loop-pages.pages c.in_ok-ended.ended c.loop-pages-test.true c.in_ok-ended.ensures.before in
    omega (arith, less, c.pages_left-pages.ensures)

pub returns-clause-found : goal.returns-clause-found
returns-clause-found g c = λ image told.
    let i = c.loop-pages.invariant in
    let page : ℕ = c.args.block.page in
    let old : Image = part_of page c.args.block.region image in
    let geometry : Geometry = (g.F.Flash.device c.args.flash.now).geometry in
    let held = block_of c.args.block geometry c.requires.held in
    all_found (g.M.Format.form c.args.format.now) page c.args.block.region.size old c.loop-pages.pages c.loop-pages.places
    (part_paged c.args.block geometry image held (c.geometry.ensures.whole.image image told))
    (omega (arith, c.loop-pages-test.false)) (i.found image told)

pub returns-in_err-ended-clause-faults : goal.returns-in_err-ended-clause-faults
returns-in_err-ended-clause-faults g c =
    c.in_err-ended.ensures.faults
    ∙ ap (λ b. counted b (g.F.Flash.device c.loop-pages.flash).faults) (sym (handed_failed c.from_residual.result ReadFault c.from_residual.ensures.1))
    ∙ ap (counted (failed_to_read c.from_residual.result)) c.loop-pages.invariant.faults

pub returns-in_err-ended-clause-read_faults : goal.returns-in_err-ended-clause-read_faults
returns-in_err-ended-clause-read_faults g c =
    c.in_err-ended.ensures.read_faults
    ∙ ap (λ b. counted b (g.F.Flash.device c.loop-pages.flash).read_faults) (sym (handed_failed c.from_residual.result ReadFault c.from_residual.ensures.1))
    ∙ ap (counted (failed_to_read c.from_residual.result)) c.loop-pages.invariant.read_faults

pub returns-in_err-keep-clause-faults : goal.returns-in_err-keep-clause-faults
returns-in_err-keep-clause-faults g c =
    c.in_ok-ended.ensures.faults ∙ c.loop-pages.invariant.faults
    ∙ ap (λ b. counted b (g.F.Flash.device c.args.flash.now).faults) (sym (handed_failed c.from_residual-in_err-keep.result NoMemory c.from_residual-in_err-keep.ensures.1))

pub returns-in_err-keep-clause-read_faults : goal.returns-in_err-keep-clause-read_faults
returns-in_err-keep-clause-read_faults g c =
    c.in_ok-ended.ensures.read_faults ∙ c.loop-pages.invariant.read_faults
    ∙ ap (λ b. counted b (g.F.Flash.device c.args.flash.now).read_faults) (sym (handed_failed c.from_residual-in_err-keep.result NoMemory c.from_residual-in_err-keep.ensures.1))
