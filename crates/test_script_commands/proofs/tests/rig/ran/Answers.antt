use Rattle.std.proofs.Common.{◌≡◌, ◌∙◌, List, ap, is_ok, refl, subst, sym}
use Rattle.bb_chooser.specs.Binding.{IsBoundTo}
use Rattle.bb_flash.specs.Memory.{device_of}
use Rattle.bb_layout.specs.declared.var.Var.{Var}
use Rattle.bb_script_commands.specs.Held.{CanCall, Held}
use Rattle.bb_state.specs.Keyed.{Keyed}
use Rattle.test_script_commands.proofs.tests.rig.ran.Goals as goal

pub load-requires : goal.load-requires
load-requires c =
    c.in_ok-state.ensures.fresh (device_of c.args.board.now)
    (sym c.geometry-geometry.ensures.value ∙ sym c.in_ok-layout.ensures.geometry ∙ sym c.in_ok-state.ensures.geometry)
    c.geometry-geometry.ensures.whole

pub run_script-run-requires : goal.run_script-run-requires
run_script-run-requires c =
    subst (λ (h : Held). CanCall h (device_of c.load.new.flash)) (sym c.new-commands.ensures)
    (record {
      sure = c.load.ensures.sure ∙ ap is_ok c.in-Ok.is;
      geometry = c.load.ensures.on.geometry;
      agrees = c.load.ensures.on.agrees;
      whole = c.load.ensures.on.whole;
      bound = record {
        area_len = c.in_ok-chooser.ensures.sized ∙ sym c.in_ok-state.ensures.area_len
            ∙ ap (λ (k : Keyed). k.layout.area_len) (sym c.load.ensures.keyed);
        vars =
            subst (λ (vars : List Var). IsBoundTo vars c.in_ok-chooser.chooser)
            (sym c.in_ok-state.ensures.vars ∙ ap (λ (k : Keyed). k.layout.vars) (sym c.load.ensures.keyed))
            c.in_ok-chooser.ensures.bound;
      };
      unfailed = refl;
    })
