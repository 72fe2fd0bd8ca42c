use Rattle.std.proofs.Common.{◌≡◌, ◌++◌, ◌∙◌, List, Option, ℕ, option_to_list, ap, subst, sym, arith}
use Rattle.std.proofs.lemmas.Grind.{common_steps}
use Rattle.bb_base.specs.Faults.{counted}
use Rattle.bb_copies.proofs.Ends.{whole_slice}
use Rattle.bb_history.specs.History.{AddsFront}
use Rattle.bb_history.specs.Reading.{shown_text}
use Rattle.bb_history.proofs.Joining.{adds_none, handed_failed, refused_adds}
use Rattle.bb_history.proofs.Singles.{reading_fits, reading_is}
use Rattle.bb_layout.specs.Layout.{Laid, fields_of}
use Rattle.bb_history.specs.declared.fault.HistoryFault.TheVariants.{NoMemory, ReadFault}
use Rattle.bb_history.proofs.region.read_single.Goals as goal

pub add_single-requires : goal.add_single-requires
add_single-requires g c =
    let out : List ℕ = c.read_copy.new.area in
    let is_out : c.deref.result.now ≡ out = c.deref.ensures.value ∙ whole_slice out c.args.memory.now.area.items _ (c.read_copy.auto.area ∙ c.deref_mut-2.ensures.len) in
    reading_fits (g.M.Format.form c.args.format.now) out c.deref.result.now c.len_of.result c.in_ok-passing.passing c.len_of.ensures is_out
    c.in_ok-passing.ensures.fits

pub returns-in_err-passing-clause-reads : goal.returns-in_err-passing-clause-reads
returns-in_err-passing-clause-reads g c =
    let r = c.in_err-passing.ensures in
    let given = c.from_residual.result in
    let failed = handed_failed given ReadFault c.from_residual.ensures.1 in
    record {
      told = λ image told. refused_adds _ _ _ given ReadFault c.from_residual.ensures.1 (adds_none _ c.args.out.now);
      quiet = r.quiet;
      faults = r.faults ∙ ap (λ b. counted b (g.F.Flash.device c.args.flash.now).faults) (sym failed);
      read_faults = r.read_faults ∙ ap (λ b. counted b (g.F.Flash.device c.args.flash.now).read_faults) (sym failed);
    }

-- the area that the copy passes is the one that was left
pub returns-clause-reads : goal.returns-clause-reads
returns-clause-reads g c =
    let r = c.in_ok-passing.ensures in
    let layout : Laid = fields_of c.args.layout.now in
    let out : List ℕ = c.read_copy.new.area in
    let is_out : c.deref.result.now ≡ out = c.deref.ensures.value ∙ whole_slice out c.args.memory.now.area.items _ (c.read_copy.auto.area ∙ c.deref_mut-2.ensures.len) in
    record {
      told = λ image told.
          c.in_ok-add_single.ensures
          ∙ ap (λ (o : Option (List ℕ)). c.args.out.now ++ shown_text layout c.args.copy (option_to_list o))
          (reading_is out c.deref.result.now _ c.len_of.result c.in_ok-passing.passing c.len_of.ensures is_out (r.done image told).area);
      quiet = r.quiet;
      faults = r.faults;
      read_faults = r.read_faults;
    }

pub returns-in_err-add_single-clause-reads : goal.returns-in_err-add_single-clause-reads
returns-in_err-add_single-clause-reads g c =
    let r = c.in_ok-passing.ensures in
    let layout : Laid = fields_of c.args.layout.now in
    let out : List ℕ = c.read_copy.new.area in
    let is_out : c.deref.result.now ≡ out = c.deref.ensures.value ∙ whole_slice out c.args.memory.now.area.items _ (c.read_copy.auto.area ∙ c.deref_mut-2.ensures.len) in
    let given = c.from_residual-in_err-add_single.result in
    let failed = handed_failed given NoMemory c.from_residual-in_err-add_single.ensures.1 in
    record {
      told = λ image told.
          refused_adds _ _ _ given NoMemory c.from_residual-in_err-add_single.ensures.1
          (subst (λ (o : Option (List ℕ)). AddsFront (shown_text layout c.args.copy (option_to_list o)) c.args.out.now c.add_single.new.out)
          (reading_is out c.deref.result.now _ c.len_of.result c.in_ok-passing.passing c.len_of.ensures is_out (r.done image told).area)
          c.in_err-add_single.ensures);
      quiet = r.quiet;
      faults = r.faults ∙ ap (λ b. counted b (g.F.Flash.device c.args.flash.now).faults) (sym failed);
      read_faults = r.read_faults ∙ ap (λ b. counted b (g.F.Flash.device c.args.flash.now).read_faults) (sym failed);
    }

-- room stays as it was, whatever was read into it
pub returns-in_err-passing-clause-memory : goal.returns-in_err-passing-clause-memory
returns-in_err-passing-clause-memory g c = record {
  page_is = c.requires.memory.page_is;
  piece = grind (arith, common_steps, c.requires.memory.piece);
  area = grind (arith, common_steps, c.requires.memory.area);
}

pub returns-clause-memory : goal.returns-clause-memory
returns-clause-memory g c = record {
  page_is = c.requires.memory.page_is;
  piece = grind (arith, common_steps, c.requires.memory.piece);
  area = grind (arith, common_steps, c.requires.memory.area);
}

pub returns-in_err-add_single-clause-memory : goal.returns-in_err-add_single-clause-memory
returns-in_err-add_single-clause-memory g c = record {
  page_is = c.requires.memory.page_is;
  piece = grind (arith, common_steps, c.requires.memory.piece);
  area = grind (arith, common_steps, c.requires.memory.area);
}
