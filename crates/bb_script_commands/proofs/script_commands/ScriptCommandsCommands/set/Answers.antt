use Rattle.std.proofs.Common.{subst, sym}
use Rattle.bb_script_commands.specs.Held.{CanCall, Held}
use Rattle.bb_script_commands.proofs.Saving.{can_moved}
use Rattle.bb_script_commands.proofs.script_commands.ScriptCommandsCommands.set.Goals as goal

pub returns-then-set_value-clause-ready : goal.returns-then-set_value-clause-ready
returns-then-set_value-clause-ready g c device can =
    can_moved c.self.inside.state c.set_value.new.state c.self.inside.by c.self.inside.so_far (g.B.Flash.device device) c.set_value.ensures.backing
    (subst (λ (h : Held). CanCall h (g.B.Flash.device device)) (sym c.self.view_is) can)
