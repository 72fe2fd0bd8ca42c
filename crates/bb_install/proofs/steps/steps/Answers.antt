use Rattle.std.proofs.Common.{◌≡◌, ◌∙◌, ap, refl, subst, sym}
use Rattle.std.proofs.lemmas.Result.{err_from_is_err_and}
use Rattle.bb_flash.specs.declared.geometry.Geometry.{Geometry}
use Rattle.bb_install.specs.Beside.{IsBesideCopies}
use Rattle.bb_install.specs.Slot.{HasPlace}
use Rattle.bb_install.specs.Steps.{IsInstallRun, ended}
use Rattle.bb_install.specs.declared.install_end.InstallEnd.{InstallEnd}
use Rattle.bb_install.proofs.Beside.{beside_copies}
use Rattle.bb_install.proofs.Stepping.{ends_barred, ends_early, ends_late, ends_stuck, first_step, on_still, save_made, save_refused, second_left, second_step, slot_made, slot_stuck}
use Rattle.bb_shell.specs.Ends.{IsBoundIn}
use Rattle.bb_state.specs.Backed.{Backed}
use Rattle.bb_state.specs.Keyed.{Keyed}
use Rattle.bb_state.specs.Kinds.{laid_kinds}
use Rattle.bb_state.specs.State.{keyed_of, laid_of, used_of}
use Rattle.bb_install.proofs.steps.steps.Goals as goal

-- ---- the calls

pub write-requires-clause-place : goal.write-requires-clause-place
write-requires-clause-place g c =
    let keyed : keyed_of c.save.new.state ≡ keyed_of c.args.state.now =
    c.save.ensures.leaves.keyed ∙ ap (λ (b : Backed). b.keyed) c.disable.ensures.backing in
    let at : (g.F.Flash.device c.save.new.flash).geometry ≡ (laid_of c.args.state.now).geometry =
    c.save.ensures.leaves.on.geometry ∙ ap (λ (k : Keyed). k.layout.geometry) keyed in
    subst (λ (geometry : Geometry). HasPlace geometry c.args.slot) (sym at) c.requires.beside.place

pub write-requires-clause-page : goal.write-requires-clause-page
write-requires-clause-page g c =
    let keyed : keyed_of c.save.new.state ≡ keyed_of c.args.state.now =
    c.save.ensures.leaves.keyed ∙ ap (λ (b : Backed). b.keyed) c.disable.ensures.backing in
    let at : (g.F.Flash.device c.save.new.flash).geometry ≡ (laid_of c.args.state.now).geometry =
    c.save.ensures.leaves.on.geometry ∙ ap (λ (k : Keyed). k.layout.geometry) keyed in
    c.requires.page ∙ ap (λ (geometry : Geometry). geometry.page) (c.requires.ready.on.geometry ∙ sym at)

pub finish-requires-clause-ready : goal.finish-requires-clause-ready
finish-requires-clause-ready g c =
    let keyed : keyed_of c.save.new.state ≡ keyed_of c.args.state.now =
    c.save.ensures.leaves.keyed ∙ ap (λ (b : Backed). b.keyed) c.disable.ensures.backing in
    let from = g.F.Flash.device c.save.new.flash in
    let to = g.F.Flash.device c.write.new.flash in
    let beside = beside_copies (laid_of c.args.state.now) c.args.state.now.facts c.args.slot c.requires.beside in
    let run = slot_made c.args.slot c.args.image.now from to _ c.in_ok-write.ensures in
    record {
      sure = c.in_ok-save.ensures.leaves.sure;
      on =
          on_still c.save.new.state c.args.slot c.args.image.now _ from to c.save.ensures.leaves.on
          (subst (λ (k : Keyed). IsBesideCopies (laid_kinds k.layout) c.args.slot) (sym keyed) beside) run c.save.ensures.kinds;
      bound = subst (λ (k : Keyed). IsBoundIn c.args.chooser.now k.layout) (sym keyed) c.requires.ready.bound;
    }

-- ---- the ends

pub returns-in_err-disable : goal.returns-in_err-disable
returns-in_err-disable g c =
    let old = c.args.state.now in
    let device = g.F.Flash.device c.args.flash.now in
    let p = err_from_is_err_and c.from_residual.result c.from_residual.ensures.1 in
    ends_barred c.args.chooser.now c.args.target c.args.slot c.args.image.now old c.disable.new.state c.disable.ensures.table
    c.disable.ensures.backing device (ended c.from_residual.result) c.in_err-disable.ensures.other.0
    (ap ended p.1 ∙ p.2 ∙ c.in_err-disable.ensures.other.1)

pub returns-in_err-save : goal.returns-in_err-save
returns-in_err-save g c =
    let old = c.args.state.now in
    let disabled = c.disable.new.state in
    let from = g.F.Flash.device c.args.flash.now in
    let to = g.F.Flash.device c.save.new.flash in
    let p = err_from_is_err_and c.from_residual-in_err-save.result c.from_residual-in_err-save.ensures.1 in
    subst (λ (end : InstallEnd). IsInstallRun c.args.chooser.now c.args.target c.args.slot c.args.image.now old c.save.new.state from to end)
    (sym (ap ended p.1 ∙ p.2))
    (ends_early c.args.chooser.now c.args.target c.args.slot c.args.image.now old disabled c.disable.ensures.table c.disable.ensures.backing
    c.in_ok-disable.ensures.other c.save.new.state from to _
    (save_refused (keyed_of old) (used_of old) (used_of c.save.new.state) _ _ from to _
    (first_step c.args.chooser.now c.args.target c.args.slot c.args.image.now old disabled c.disable.ensures.table c.disable.ensures.backing
    c.in_err-save.ensures.step))
    c.in_err-save.ensures.leaves)

pub returns-in_err-write : goal.returns-in_err-write
returns-in_err-write g c =
    let old = c.args.state.now in
    let disabled = c.disable.new.state in
    let from = g.F.Flash.device c.args.flash.now in
    let before = g.F.Flash.device c.save.new.flash in
    let to = g.F.Flash.device c.write.new.flash in
    let keyed : keyed_of c.save.new.state ≡ keyed_of old =
    c.save.ensures.leaves.keyed ∙ ap (λ (b : Backed). b.keyed) c.disable.ensures.backing in
    let beside = beside_copies (laid_of old) old.facts c.args.slot c.requires.beside in
    let stuck = slot_stuck c.args.slot c.args.image.now before to _ c.in_err-write.ensures in
    let p = err_from_is_err_and c.from_residual-in_err-write.result c.from_residual-in_err-write.ensures.1 in
    subst (λ (end : InstallEnd). IsInstallRun c.args.chooser.now c.args.target c.args.slot c.args.image.now old c.save.new.state from to end)
    (sym (ap ended p.1 ∙ p.2))
    (ends_stuck c.args.chooser.now c.args.target c.args.slot c.args.image.now old disabled c.disable.ensures.table c.disable.ensures.backing
    c.in_ok-disable.ensures.other (used_of c.save.new.state) from before
    (save_made (keyed_of old) (used_of old) (used_of c.save.new.state) _ _ from before _
    (first_step c.args.chooser.now c.args.target c.args.slot c.args.image.now old disabled c.disable.ensures.table c.disable.ensures.backing
    c.in_ok-save.ensures.step))
    c.save.new.state to _ refl stuck c.in_ok-save.ensures.leaves
    (on_still c.save.new.state c.args.slot c.args.image.now _ before to c.save.ensures.leaves.on
    (subst (λ (k : Keyed). IsBesideCopies (laid_kinds k.layout) c.args.slot) (sym keyed) beside) stuck.run c.save.ensures.kinds))

pub returns : goal.returns
returns g c =
    let old = c.args.state.now in
    let disabled = c.disable.new.state in
    let from = g.F.Flash.device c.args.flash.now in
    let before = g.F.Flash.device c.save.new.flash in
    let behind = g.F.Flash.device c.write.new.flash in
    let to = g.F.Flash.device c.finish.new.flash in
    ends_late c.args.chooser.now c.args.target c.args.slot c.args.image.now old disabled c.disable.ensures.table c.disable.ensures.backing
    c.in_ok-disable.ensures.other (used_of c.save.new.state) from before
    (save_made (keyed_of old) (used_of old) (used_of c.save.new.state) _ _ from before _
    (first_step c.args.chooser.now c.args.target c.args.slot c.args.image.now old disabled c.disable.ensures.table c.disable.ensures.backing
    c.in_ok-save.ensures.step))
    c.finish.new.state behind to c.finish.result (slot_made c.args.slot c.args.image.now before behind _ c.in_ok-write.ensures)
    (second_step c.args.chooser.now c.args.target c.args.slot c.args.image.now old disabled c.disable.ensures.table c.disable.ensures.backing
    c.save.new.state c.save.ensures.leaves.keyed c.save.ensures.leaves.table (c.in_ok-save.ensures.leaves.kept c.in_ok-save.ensures.leaves.sure)
    c.finish.ensures.step)
    (second_left c.args.chooser.now c.args.target c.args.slot c.args.image.now old disabled c.disable.ensures.table c.disable.ensures.backing
    c.save.new.state c.save.ensures.leaves.keyed c.save.ensures.leaves.table c.finish.ensures.leaves)
