use Rattle.std.proofs.Common.{◌∙◌, List, ℕ, ap, subst}
use Rattle.bb_state.specs.Backed.{Backed}
use Rattle.bb_state.specs.State.{keyed_of, last_table_of, used_of}
use Rattle.bb_install.specs.Steps.{IsSaveStep}
use Rattle.bb_install.proofs.steps.finish.Goals as goal

pub returns : goal.returns
returns g c =
    let from = g.F.Flash.device c.args.flash.now in
    let to = g.F.Flash.device c.save.new.flash in
    let enabled = c.enable.new.state in
    let before = c.args.state.now in
    record {
      step =
          subst (λ (t : List ℕ). IsSaveStep (keyed_of before) (used_of before) (used_of c.save.new.state) (last_table_of before) t from to c.save.result)
          c.enable.ensures.table
          (subst (λ (b : Backed). IsSaveStep b.keyed b.used (used_of c.save.new.state) b.kept enabled.table from to c.save.result)
          c.enable.ensures.backing c.save.ensures.step);
      leaves =
          let left = c.save.ensures.leaves in
          record {
            keyed = left.keyed ∙ ap (λ (b : Backed). b.keyed) c.enable.ensures.backing;
            table = left.table ∙ c.enable.ensures.table;
            on = left.on;
            sure = left.sure;
            kept = left.kept;
          };
    }
