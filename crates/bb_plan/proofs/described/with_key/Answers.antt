use Rattle.std.proofs.Common.{ℕ, List, Option, refl}
use Rattle.std.specs.Option.{option_copied}
use Rattle.bb_layout.specs.Layout.{fields_of}
use Rattle.bb_plan.specs.PlanSteps.{key_reading, with_key}
use Rattle.bb_plan.specs.Plan.{keyed_as}
use Rattle.bb_plan.proofs.Readings.{gone_on, stopped, yielded}
use Rattle.bb_plan.proofs.described.with_key.Goals as goal

-- a key's block, if there is one
abbrev Key : Type 0
Key = Option (List ℕ)

pub returns-in_err-key-clause-read : goal.returns-in_err-key-clause-read
returns-in_err-key-clause-read g c =
    let layout = c.args.layout in
    stopped (with_key (fields_of layout)) (key_reading (option_copied c.args.key_file) layout.format)
    (λ (k : Key). k) keyed_as c.in_err-key.ensures.read c.from_residual.result
    c.from_residual.ensures.1

pub returns-clause-read : goal.returns-clause-read
returns-clause-read g c =
    let layout = c.args.layout in
    gone_on (with_key (fields_of layout)) (key_reading (option_copied c.args.key_file) layout.format)
    (λ (k : Key). k) keyed_as c.in_ok-key.key c.in_ok-key.ensures.read (yielded keyed_as refl)
