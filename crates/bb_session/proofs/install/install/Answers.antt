use Rattle.std.proofs.Common.{List, ℕ, ◌≤◌, length, subst, sym}
use Rattle.bb_install.specs.Steps.{IsInstallRun}
use Rattle.bb_session.proofs.Installed.{done_installed}
use Rattle.bb_session.proofs.install.install.Goals as goal

pub install-end-requires-clause-ready : goal.install-end-requires-clause-ready
install-end-requires-clause-ready g c = record {
  sure = c.requires.hand.sure;
  on = c.requires.hand.on;
  bound = record { area_len = c.requires.served.bound.sized; vars = c.requires.served.bound.bound };
}

pub install-end-requires-clause-there : goal.install-end-requires-clause-there
install-end-requires-clause-there g c = c.requires.served.there

pub install-end-requires-clause-beside : goal.install-end-requires-clause-beside
install-end-requires-clause-beside g c = c.requires.served.fits.beside

pub install-end-requires-clause-fits : goal.install-end-requires-clause-fits
install-end-requires-clause-fits g c =
    subst (λ (image : List ℕ). length image ≤ c.args.place.now.slot.size) (sym c.as_slice-image.ensures) c.requires.served.fits.fits

pub returns : goal.returns
returns g c =
    let from = g.F.Flash.device c.args.flash.now in
    let to = g.F.Flash.device c.install-end.new.flash in
    record {
      did =
          done_installed c.args.chooser.now c.args.target c.args.place.now c.args.state.now c.install-end.new.state from to
          c.install-end.result c.report.result c.requires.served c.requires.hand.kept
          (subst
          (λ (image : List ℕ).
          IsInstallRun c.args.chooser.now c.args.target c.args.place.now.slot image c.args.state.now c.install-end.new.state from to
          c.install-end.result)
          c.as_slice-image.ensures c.install-end.ensures)
          c.report.ensures.gives;
    }
