use Rattle.std.proofs.Common.{◌++◌, ◌∙◌, ℕ, IsTrue, length, sym, ap, subst}
use Rattle.bb_base.specs.Faults.{counted}
use Rattle.bb_base.specs.Form.{Form}
use Rattle.bb_bucket.proofs.Quiet.{keeps_of_quiet, quiet_joined}
use Rattle.bb_bucket.specs.Blocks.{is_block_of}
use Rattle.bb_bucket.specs.Kind.{part_of}
use Rattle.bb_flash.specs.Image.{Image}
use Rattle.bb_flash.specs.declared.geometry.Geometry.{Geometry}
use Rattle.bb_history.specs.History.{AddsFront, failed_to_read}
use Rattle.bb_history.specs.Lines.{count_line}
use Rattle.bb_history.specs.Reading.{places_text}
use Rattle.bb_history.proofs.Joining.{adds_behind, adds_none, handed_failed, refused_adds}
use Rattle.bb_history.proofs.Texts.{log_text}
use Rattle.bb_layout.specs.Layout.{Laid, fields_of}
use Rattle.bb_history.specs.declared.fault.HistoryFault.TheVariants.{NoMemory}
use Rattle.bb_history.proofs.log.read_log.Goals as goal

pub add_entries-requires-clause-held : goal.add_entries-requires-clause-held
add_entries-requires-clause-held g c =
    subst (λ (geometry : Geometry). IsTrue (is_block_of c.args.block geometry))
    (sym c.in_ok-places.ensures.quiet.later.geometry) c.requires.held

pub returns-in_err-places-clause-reads : goal.returns-in_err-places-clause-reads
returns-in_err-places-clause-reads g c =
    let r = c.in_err-places.ensures in
    let given = c.from_residual.result in
    let failed = handed_failed given _ c.from_residual.ensures.1 in
    record {
      told = λ image told. refused_adds _ _ _ given _ c.from_residual.ensures.1 (adds_none _ c.args.out.now);
      quiet = r.quiet;
      faults = r.faults ∙ ap (λ b. counted b (g.F.Flash.device c.args.flash.now).faults) (sym failed);
      read_faults = r.read_faults ∙ ap (λ b. counted b (g.F.Flash.device c.args.flash.now).read_faults) (sym failed);
    }

pub returns-in_err-add_count-clause-reads : goal.returns-in_err-add_count-clause-reads
returns-in_err-add_count-clause-reads g c =
    let r = c.in_ok-places.ensures in
    let given = c.from_residual-in_err-add_count.result in
    let failed = handed_failed given NoMemory c.from_residual-in_err-add_count.ensures.1 in
    record {
      told = λ image told.
          refused_adds _ _ _ given NoMemory c.from_residual-in_err-add_count.ensures.1
          (subst (AddsFront _ c.args.out.now) (sym c.in_err-add_count.ensures.unchanged) (adds_none _ c.args.out.now));
      quiet = r.quiet;
      faults = r.faults ∙ ap (λ b. counted b (g.F.Flash.device c.args.flash.now).faults) (sym failed);
      read_faults = r.read_faults ∙ ap (λ b. counted b (g.F.Flash.device c.args.flash.now).read_faults) (sym failed);
    }

pub returns-clause-reads : goal.returns-clause-reads
returns-clause-reads g c =
    let form : Form = g.M.Format.form c.args.format.now in
    let page : ℕ = c.args.block.page in
    let layout : Laid = fields_of c.args.layout.now in
    let first = c.in_ok-places.ensures in
    let then = c.add_entries.ensures.reads in
    record {
      told = λ image told.
          let old : Image = part_of page c.args.block.region image in
          let keeps = keeps_of_quiet _ _ first.quiet in
          adds_behind (count_line c.args.copy (length c.in_ok-places.places)) (places_text layout form page old 1 c.in_ok-places.places) _
          c.args.out.now c.add_count.new.out c.add_entries.new.out c.add_entries.result
          (log_text layout form page old c.args.copy c.in_ok-places.places (first.found image told))
          (c.in_ok-add_count.ensures.added ∙ ap (λ n. c.args.out.now ++ count_line c.args.copy n) c.len.ensures)
          (then.told image (keeps.content ∙ told));
      quiet = quiet_joined (g.F.Flash.device c.args.flash.now) (g.F.Flash.device c.find_places.new.flash) (g.F.Flash.device c.add_entries.new.flash) first.quiet then.quiet;
      faults = then.faults ∙ ap (counted (failed_to_read c.add_entries.result)) first.faults;
      read_faults = then.read_faults ∙ ap (counted (failed_to_read c.add_entries.result)) first.read_faults;
    }
