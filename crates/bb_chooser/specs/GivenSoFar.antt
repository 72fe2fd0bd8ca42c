-- What lines have set so far, as the code keeps it.
use Rattle.std.specs.Prelude.{ℕ, List}
use Rattle.std.specs.HashMap.{get_by_text}
use Rattle.std.specs.Option.{option_or}
use Rattle.bb_chooser.specs.Settings.{Given, targets_in, prefix_in, attempts_in, priority_in, reset_attempts_in, reset_priorities_in, retry_in, disable_in, boot_of, attempts_of, priority_of, target_of}
use Rattle.bb_chooser.specs.declared.given.GivenSoFar.{GivenSoFar}
use Rattle.bb_chooser.specs.declared.setting.Setting.{Setting}
use Rattle.bb_chooser.specs.declared.target.Target.{Target}

-- what is given for each key
abbrev pub given_in : GivenSoFar → Given
given_in so_far = record {
  targets = so_far.targets;
  prefix = so_far.prefix;
  attempts = so_far.attempts;
  priority = so_far.priority;
  reset_attempts = so_far.reset_attempts;
  reset_priorities = so_far.reset_priorities;
  retry = so_far.retry;
  disable = so_far.disable;
  boot = get_by_text so_far.boots;
  attempts_of = get_by_text so_far.attempts_of;
  priority_of = get_by_text so_far.priority_of;
}

-- the target of this name, as it is given so far
abbrev pub target_called : GivenSoFar → List ℕ → Target
target_called so_far name = target_of (given_in so_far) name

-- one setting more, which counts in place of the one before
abbrev pub given_with : Setting → Given → Given
given_with setting given = record {
  targets = option_or (targets_in setting) given.targets;
  prefix = option_or (prefix_in setting) given.prefix;
  attempts = option_or (attempts_in setting) given.attempts;
  priority = option_or (priority_in setting) given.priority;
  reset_attempts = option_or (reset_attempts_in setting) given.reset_attempts;
  reset_priorities = option_or (reset_priorities_in setting) given.reset_priorities;
  retry = option_or (retry_in setting) given.retry;
  disable = option_or (disable_in setting) given.disable;
  boot = λ name. option_or (boot_of name setting) (given.boot name);
  attempts_of = λ name. option_or (attempts_of name setting) (given.attempts_of name);
  priority_of = λ name. option_or (priority_of name setting) (given.priority_of name);
}
