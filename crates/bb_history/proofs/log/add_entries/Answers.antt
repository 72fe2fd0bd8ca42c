use Rattle.std.proofs.Common.{◌+◌, ◌/◌, ◌++◌, ◌∙◌, ℕ, List, IsTrue, append-nil, append_assoc, length, take, take_all, refl, sym, ap, subst, arith}
use Rattle.std.specs.Prelude.{IfSome}
use Rattle.bb_base.specs.Faults.{counted}
use Rattle.bb_base.specs.Form.{Form}
use Rattle.bb_bucket.proofs.Quiet.{keeps_of_quiet, quiet_joined, quiet_same}
use Rattle.bb_bucket.specs.Blocks.{is_block_of}
use Rattle.bb_bucket.specs.Kind.{part_of}
use Rattle.bb_flash.specs.Image.{Image}
use Rattle.bb_flash.specs.declared.geometry.Geometry.{Geometry}
use Rattle.bb_history.specs.History.{failed_to_read}
use Rattle.bb_history.specs.Reading.{FitsRoom, ended_text, place_text, places_text}
use Rattle.bb_history.proofs.Joining.{front_of_whole, handed_failed, refused_adds}
use Rattle.bb_history.proofs.Texts.{ended_is, places_behind, places_next_at, places_split, within_at}
use Rattle.bb_layout.specs.Layout.{Laid, fields_of}
use Rattle.bb_history.specs.declared.fault.HistoryFault.TheVariants.{NoMemory, ReadFault}
use Rattle.bb_history.proofs.log.add_entries.Goals as goal

pub look_at-requires-clause-held : goal.look_at-requires-clause-held
look_at-requires-clause-held g c =
    subst (λ (geometry : Geometry). IsTrue (is_block_of c.args.block geometry))
    (sym c.loop-number.invariant.quiet.later.geometry) c.requires.held

pub look_at-requires-clause-some : goal.look_at-requires-clause-some
look_at-requires-clause-some g c =
    (within_at (c.args.block.region.size / c.args.block.page) c.args.places.now c.loop-number.number c.at-place.result c.requires.within c.at-place.ensures).0

pub look_at-requires-clause-inside : goal.look_at-requires-clause-inside
look_at-requires-clause-inside g c =
    (within_at (c.args.block.region.size / c.args.block.page) c.args.places.now c.loop-number.number c.at-place.result c.requires.within c.at-place.ensures).1

-- the area of an entry stands inside what is left of it
pub add_ended-requires : goal.add_ended-requires
add_ended-requires g c =
    subst (λ n. IfSome c.in_ok-ended.ended (FitsRoom n)) (sym (ap length c.deref.ensures.value ∙ c.in_ok-ended.ensures.memory.area))
    c.in_ok-ended.ensures.fits

pub loop-number-init : goal.loop-number-init
loop-number-init g c = record {
  added = λ image told. sym (append-nil c.args.out.now);
  memory = c.requires.memory;
  quiet = quiet_same (g.F.Flash.device c.args.flash.now) c.geometry.ensures.whole;
  faults = refl;
  read_faults = refl;
}

pub loop-number-preserved : goal.loop-number-preserved
loop-number-preserved g c =
    let i = c.loop-number.invariant in
    let r = c.in_ok-ended.ensures in
    let form : Form = g.M.Format.form c.args.format.now in
    let page : ℕ = c.args.block.page in
    let layout : Laid = fields_of c.args.layout.now in
    record {
      added = λ image told.
          let old : Image = part_of page c.args.block.region image in
          let number : ℕ = c.loop-number.number in
          let keeps = keeps_of_quiet _ _ i.quiet in
          let left : List ℕ = c.look_at.new.memory.area.items in
          c.in_ok-add_ended.ensures.added
          ∙ ap (λ l. l ++ ended_text layout (number + 1) c.deref.result.now c.in_ok-ended.ended) (i.added image told)
          ∙ ap (λ l. (c.args.out.now ++ places_text layout form page old 1 (take number c.args.places.now)) ++ l)
          (ap (λ (area : List ℕ). ended_text layout (number + 1) area c.in_ok-ended.ended) c.deref.ensures.value
          ∙ ended_is layout form page old (number + 1) c.at-place.result left c.in_ok-ended.ended (r.done image (keeps.content ∙ told)))
          ∙ append_assoc c.args.out.now (places_text layout form page old 1 (take number c.args.places.now)) (place_text layout form page old (number + 1) c.at-place.result)
          ∙ ap (λ l. c.args.out.now ++ l) (sym (places_next_at layout form page old c.args.places.now number c.at-place.result c.at-place.ensures));
      memory = r.memory;
      quiet = quiet_joined (g.F.Flash.device c.args.flash.now) (g.F.Flash.device c.loop-number.flash) (g.F.Flash.device c.look_at.new.flash) i.quiet r.quiet;
      faults = r.faults ∙ i.faults;
      read_faults = r.read_faults ∙ i.read_faults;
    }

pub returns-clause-reads : goal.returns-clause-reads
returns-clause-reads g c =
    let i = c.loop-number.invariant in
    let form : Form = g.M.Format.form c.args.format.now in
    record {
      told = λ image told.
          let old : Image = part_of c.args.block.page c.args.block.region image in
          i.added image told
          ∙ ap (λ ps. c.args.out.now ++ places_text (fields_of c.args.layout.now) form c.args.block.page old 1 ps)
          (take_all c.loop-number.number c.args.places.now (omega (arith, c.len-number-end.ensures)));
      quiet = i.quiet;
      faults = i.faults;
      read_faults = i.read_faults;
    }

-- a read failed: the lines of the entries before it were added
pub returns-in_err-ended-clause-reads : goal.returns-in_err-ended-clause-reads
returns-in_err-ended-clause-reads g c =
    let i = c.loop-number.invariant in
    let r = c.in_err-ended.ensures in
    let form : Form = g.M.Format.form c.args.format.now in
    let failed = handed_failed c.from_residual.result ReadFault c.from_residual.ensures.1 in
    record {
      told = λ image told.
          let old : Image = part_of c.args.block.page c.args.block.region image in
          refused_adds _ _ _ c.from_residual.result ReadFault c.from_residual.ensures.1
          (front_of_whole (places_text (fields_of c.args.layout.now) form c.args.block.page old 1 (take c.loop-number.number c.args.places.now))
          (places_behind (fields_of c.args.layout.now) form c.args.block.page old c.args.places.now c.loop-number.number) _ c.args.out.now c.loop-number.out
          (places_split (fields_of c.args.layout.now) form c.args.block.page old c.args.places.now c.loop-number.number) (i.added image told));
      quiet = quiet_joined (g.F.Flash.device c.args.flash.now) (g.F.Flash.device c.loop-number.flash) (g.F.Flash.device c.look_at.new.flash) i.quiet r.quiet;
      faults =
          r.faults ∙ ap (λ b. counted b (g.F.Flash.device c.loop-number.flash).faults) (sym failed)
          ∙ ap (counted (failed_to_read c.from_residual.result)) i.faults;
      read_faults =
          r.read_faults ∙ ap (λ b. counted b (g.F.Flash.device c.loop-number.flash).read_faults) (sym failed)
          ∙ ap (counted (failed_to_read c.from_residual.result)) i.read_faults;
    }

-- so they were where memory was refused
pub returns-in_err-add_ended-clause-reads : goal.returns-in_err-add_ended-clause-reads
returns-in_err-add_ended-clause-reads g c =
    let i = c.loop-number.invariant in
    let r = c.in_ok-ended.ensures in
    let form : Form = g.M.Format.form c.args.format.now in
    let given = c.from_residual-in_err-add_ended.result in
    let failed = handed_failed given NoMemory c.from_residual-in_err-add_ended.ensures.1 in
    record {
      told = λ image told.
          let old : Image = part_of c.args.block.page c.args.block.region image in
          refused_adds _ _ _ given NoMemory c.from_residual-in_err-add_ended.ensures.1
          (front_of_whole (places_text (fields_of c.args.layout.now) form c.args.block.page old 1 (take c.loop-number.number c.args.places.now))
          (places_behind (fields_of c.args.layout.now) form c.args.block.page old c.args.places.now c.loop-number.number) _ c.args.out.now _
          (places_split (fields_of c.args.layout.now) form c.args.block.page old c.args.places.now c.loop-number.number)
          (c.in_err-add_ended.ensures.unchanged ∙ i.added image told));
      quiet = quiet_joined (g.F.Flash.device c.args.flash.now) (g.F.Flash.device c.loop-number.flash) (g.F.Flash.device c.look_at.new.flash) i.quiet r.quiet;
      faults = r.faults ∙ i.faults ∙ ap (λ b. counted b (g.F.Flash.device c.args.flash.now).faults) (sym failed);
      read_faults = r.read_faults ∙ i.read_faults ∙ ap (λ b. counted b (g.F.Flash.device c.args.flash.now).read_faults) (sym failed);
    }
