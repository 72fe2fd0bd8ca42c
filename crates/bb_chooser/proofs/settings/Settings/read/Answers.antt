use Rattle.bb_chooser.proofs.Refusing.{exactly}
use Rattle.bb_chooser.specs.Settings.{settings_of}
use Rattle.bb_chooser.specs.declared.settings_error.SettingsError.TheVariants.{BadLine, NoTargets, TargetTwice, BadNumber, BadEvent}
use Rattle.bb_chooser.proofs.settings.Settings.read.Goals as goal

pub returns-clause-bad_line : goal.returns-clause-bad_line
returns-clause-bad_line c = λ line. exactly (settings_of c.args.text.now) (λ s. s) c.read_settings.result (BadLine line) (λ h. cc) c.read_settings.ensures.ok c.read_settings.ensures.refused

pub returns-clause-target_twice : goal.returns-clause-target_twice
returns-clause-target_twice c = λ line. exactly (settings_of c.args.text.now) (λ s. s) c.read_settings.result (TargetTwice line) (λ h. cc) c.read_settings.ensures.ok c.read_settings.ensures.refused

pub returns-clause-bad_number : goal.returns-clause-bad_number
returns-clause-bad_number c = λ line. exactly (settings_of c.args.text.now) (λ s. s) c.read_settings.result (BadNumber line) (λ h. cc) c.read_settings.ensures.ok c.read_settings.ensures.refused

pub returns-clause-bad_event : goal.returns-clause-bad_event
returns-clause-bad_event c = λ line. exactly (settings_of c.args.text.now) (λ s. s) c.read_settings.result (BadEvent line) (λ h. cc) c.read_settings.ensures.ok c.read_settings.ensures.refused

pub returns-clause-no_targets : goal.returns-clause-no_targets
returns-clause-no_targets c = exactly (settings_of c.args.text.now) (λ s. s) c.read_settings.result NoTargets (λ h. cc) c.read_settings.ensures.ok c.read_settings.ensures.refused
