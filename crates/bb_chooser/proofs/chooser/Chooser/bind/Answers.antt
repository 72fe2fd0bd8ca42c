use Rattle.bb_chooser.proofs.Refusing.{exactly}
use Rattle.bb_chooser.specs.Binding.{bind_of}
use Rattle.bb_chooser.specs.declared.settings_error.SettingsError.TheVariants.{NoSuchVariable, NotUint32}
use Rattle.bb_chooser.proofs.chooser.Chooser.bind.Goals as goal

pub returns-clause-no_such_variable : goal.returns-clause-no_such_variable
returns-clause-no_such_variable c =
    let layout = c.args.layout.now in
    λ name. exactly (bind_of c.args.settings layout) (λ b. b) c.bound_chooser.result (NoSuchVariable name) (λ h. cc) c.bound_chooser.ensures.ok c.bound_chooser.ensures.refused

pub returns-clause-not_uint32 : goal.returns-clause-not_uint32
returns-clause-not_uint32 c =
    let layout = c.args.layout.now in
    λ name. exactly (bind_of c.args.settings layout) (λ b. b) c.bound_chooser.result (NotUint32 name) (λ h. cc) c.bound_chooser.ensures.ok c.bound_chooser.ensures.refused
