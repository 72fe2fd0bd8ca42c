-- The rounds that commands of a script run on a device, of which a save alone is one after which no
-- start is tried.
use Rattle.std.specs.Prelude.{◌≡◌, List, Some, None, is_none}
use Rattle.bb_flash.specs.Device.{Device}
use Rattle.bb_shell.specs.Boot.{Round}
use Rattle.bb_shell.specs.Sequence.{RanRounds, refused_in}
use Rattle.bb_shell.specs.Stages.{kept_after}
use Rattle.bb_script_commands.specs.Held.{CanCall, Held}

-- These rounds were run one after another, from what was last loaded or saved on. Where no save was
-- refused commands may be called again.
pub record RanFor (before after : Held) (from to : Device) (rounds : List Round) : Type 0 where
  pub ran :
      RanRounds before.backed.keyed before.by.plans (Some before.backed.kept) before.backed.used
      after.backed.used rounds from to
  pub kept :
      refused_in rounds ≡ None →
      Some after.backed.kept ≡ kept_after (Some before.backed.kept) rounds
  pub fault : after.so_far.fault ≡ refused_in rounds
  pub sure : after.backed.sure ≡ is_none (refused_in rounds)
  pub keyed : after.backed.keyed ≡ before.backed.keyed
  pub by : after.by ≡ before.by
  pub ready : refused_in rounds ≡ None → CanCall after to
