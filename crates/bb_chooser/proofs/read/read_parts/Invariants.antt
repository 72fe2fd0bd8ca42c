use Rattle.std.proofs.Common.{◌≡◌, ◌+◌, List, drop, map}
use Rattle.bb_chooser.proofs.Following.{after}
use Rattle.bb_chooser.proofs.Texts.{now}
use Rattle.bb_chooser.specs.GivenSoFar.{given_in}
use Rattle.bb_chooser.specs.Reading.{settings_in_parts}
use Rattle.bb_chooser.specs.Settings.{given_by}
use Rattle.bb_chooser.specs.declared.setting.Setting.{Setting}
use Rattle.bb_chooser.proofs.read.read_parts.Given as goal

-- some settings are taken, and what all lines set is these and what the rest sets
abbrev pub invariant-loop-i : goal.invariant-loop-i
invariant-loop-i l = record {
  so_far : List Setting;
  taken : given_in l.given ≡ given_by so_far;
  rest : settings_in_parts 1 (map now l.parts) ≡ after so_far (settings_in_parts (l.i + 1) (drop l.i (map now l.parts)));
}
