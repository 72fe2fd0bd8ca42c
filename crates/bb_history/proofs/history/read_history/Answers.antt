use Rattle.std.proofs.Common.{◌≤◌, ◌++◌, ◌∙◌, ℕ, append-nil, append_assoc, refl, sym, ap, subst, take, take_all}
use Rattle.bb_base.specs.Faults.{counted}
use Rattle.bb_base.specs.Form.{Form}
use Rattle.bb_bucket.proofs.Quiet.{keeps_of_quiet, quiet_joined, quiet_same}
use Rattle.bb_flash.specs.Device.{Device}
use Rattle.bb_flash.specs.declared.geometry.Geometry.{Geometry}
use Rattle.bb_history.specs.History.{AddsFront, IsRegionOf, failed_to_read, history_of, regions_text}
use Rattle.bb_history.specs.Lines.{copy_text}
use Rattle.bb_history.specs.Reading.{HasPageRoom}
use Rattle.bb_history.proofs.Copying.{copies_next, copies_split}
use Rattle.bb_history.proofs.Joining.{adds_none, front_behind, front_of_first, handed_failed, refused_adds}
use Rattle.bb_layout.specs.Layout.{Laid, fields_of}
use Rattle.bb_state.specs.Kinds.{any_form}
use Rattle.bb_history.specs.declared.fault.HistoryFault.TheVariants.{NoMemory}
use Rattle.bb_history.proofs.history.read_history.Goals as goal

-- pages have a byte at least
pub of-requires : goal.of-requires
of-requires g c =
    subst (λ (geometry : Geometry). 1 ≤ geometry.page) (sym c.geometry-page.ensures.value) c.geometry-page.ensures.whole.geometry.page_some

pub loop-copy-init : goal.loop-copy-init
loop-copy-init g c = record {
  added = λ image told. sym (append-nil c.args.out.now);
  memory =
      let page = ap (λ (geometry : Geometry). geometry.page) c.geometry-page.ensures.value in
      subst (λ n. HasPageRoom n (any_form c.args.format.now).area_len c.in_ok-memory.memory) page
      (subst (λ n. HasPageRoom c.geometry-page.result.page n c.in_ok-memory.memory) c.area_len.ensures c.in_ok-memory.ensures);
  quiet = quiet_same (g.F.Flash.device c.args.flash.now) c.geometry-page.ensures.whole;
  faults = refl;
  read_faults = refl;
}

pub read_region-requires-clause-region : goal.read_region-requires-clause-region
read_region-requires-clause-region g c =
    let there = c.region_at-region.ensures in
    subst (λ (geometry : Geometry). IsRegionOf geometry c.args.layout.now.storage c.region_at-region.result) (sym c.loop-copy.invariant.quiet.later.geometry)
    (c.requires c.loop-copy.copy c.region_at-region.result there)

pub loop-copy-preserved : goal.loop-copy-preserved
loop-copy-preserved g c =
    let i = c.loop-copy.invariant in
    let r = c.in_ok-read_region.ensures.reads in
    let from : Device = g.F.Flash.device c.args.flash.now in
    let page : ℕ = from.geometry.page in
    let layout : Laid = fields_of c.args.layout.now in
    let form : Form = any_form c.args.format.now in
    let there = c.region_at-region.ensures in
    record {
      added = λ image told.
          let keeps = keeps_of_quiet _ _ i.quiet in
          r.told image (keeps.content ∙ told)
          ∙ ap (λ l. l ++ copy_text layout.vars c.loop-copy.copy (history_of layout form (g.F.Flash.device c.loop-copy.flash).geometry.page c.region_at-region.result image)) (i.added image told)
          ∙ append_assoc c.args.out.now (regions_text layout form page 0 (take c.loop-copy.copy c.args.regions.now) image) _
          ∙ ap (λ n. c.args.out.now ++ (regions_text layout form page 0 (take c.loop-copy.copy c.args.regions.now) image ++ copy_text layout.vars c.loop-copy.copy (history_of layout form n c.region_at-region.result image)))
          (ap (λ (geometry : Geometry). geometry.page) keeps.geometry)
          ∙ ap (λ l. c.args.out.now ++ l) (sym (copies_next layout form page image c.args.regions.now c.loop-copy.copy c.region_at-region.result there));
      memory =
          subst (λ n. HasPageRoom n form.area_len c.read_region.new.memory) (ap (λ (geometry : Geometry). geometry.page) i.quiet.later.geometry)
          c.in_ok-read_region.ensures.memory;
      quiet = quiet_joined from (g.F.Flash.device c.loop-copy.flash) (g.F.Flash.device c.read_region.new.flash) i.quiet r.quiet;
      faults = r.faults ∙ i.faults;
      read_faults = r.read_faults ∙ i.read_faults;
    }

pub returns : goal.returns
returns g c =
    let i = c.loop-copy.invariant in
    let from : Device = g.F.Flash.device c.args.flash.now in
    record {
      told = λ image told.
          i.added image told
          ∙ ap (λ rs. c.args.out.now ++ regions_text (fields_of c.args.layout.now) (any_form c.args.format.now) from.geometry.page 0 rs image)
          (take_all c.loop-copy.copy c.args.regions.now c.loop-copy-test.false);
      quiet = i.quiet;
      faults = i.faults;
      read_faults = i.read_faults;
    }

pub returns-in_err-memory : goal.returns-in_err-memory
returns-in_err-memory g c =
    let from : Device = g.F.Flash.device c.args.flash.now in
    let failed = handed_failed c.from_residual.result NoMemory c.from_residual.ensures.1 in
    record {
      told = λ image told. refused_adds _ _ _ c.from_residual.result NoMemory c.from_residual.ensures.1 (adds_none _ c.args.out.now);
      quiet = quiet_same from c.geometry-page.ensures.whole;
      faults = ap (λ b. counted b from.faults) (sym failed);
      read_faults = ap (λ b. counted b from.read_faults) (sym failed);
    }

-- the lines of the copies before, and those of this one that were added
pub returns-in_err-read_region : goal.returns-in_err-read_region
returns-in_err-read_region g c =
    let i = c.loop-copy.invariant in
    let r = c.in_err-read_region.ensures.reads in
    let from : Device = g.F.Flash.device c.args.flash.now in
    let page : ℕ = from.geometry.page in
    let layout : Laid = fields_of c.args.layout.now in
    let form : Form = any_form c.args.format.now in
    let given = c.from_residual-in_err-read_region.result in
    let failed = handed_failed given _ c.from_residual-in_err-read_region.ensures.1 in
    let there = c.region_at-region.ensures in
    record {
      told = λ image told.
          let keeps = keeps_of_quiet _ _ i.quiet in
          refused_adds _ _ _ given _ c.from_residual-in_err-read_region.ensures.1
          (front_behind (regions_text layout form page 0 (take c.loop-copy.copy c.args.regions.now) image) _ _ c.args.out.now c.loop-copy.out c.read_region.new.out
          (copies_split layout form page image c.args.regions.now c.loop-copy.copy c.region_at-region.result there)
          (i.added image told)
          (front_of_first _ _ _ c.loop-copy.out c.read_region.new.out refl
          (subst (λ n. AddsFront (copy_text layout.vars c.loop-copy.copy (history_of layout form n c.region_at-region.result image)) c.loop-copy.out c.read_region.new.out)
          (ap (λ (geometry : Geometry). geometry.page) keeps.geometry) (r.told image (keeps.content ∙ told)))));
      quiet = quiet_joined from (g.F.Flash.device c.loop-copy.flash) (g.F.Flash.device c.read_region.new.flash) i.quiet r.quiet;
      faults =
          r.faults ∙ ap (λ b. counted b (g.F.Flash.device c.loop-copy.flash).faults) (sym failed)
          ∙ ap (counted (failed_to_read given)) i.faults;
      read_faults =
          r.read_faults ∙ ap (λ b. counted b (g.F.Flash.device c.loop-copy.flash).read_faults) (sym failed)
          ∙ ap (counted (failed_to_read given)) i.read_faults;
    }
