-- What the rounds of a boot make of a device: first each save, then each start.
use Rattle.std.specs.Prelude.{◌≡◌, ℕ, Bool, true, false, not, List, [], ◌∷◌, Option, Some, None, IsSomeAnd, is_some, option_map}
use Rattle.std.specs.Str.{bytes_eq}
use Rattle.bb_base.specs.Faults.{counted}
use Rattle.bb_copies.specs.Saving.{IsSave}
use Rattle.bb_copies.specs.declared.answers.CopyFault.{CopyFault}
use Rattle.bb_flash.specs.declared.plan.Plan.{Plan}
use Rattle.bb_flash.specs.Calls.{told_after_start}
use Rattle.bb_flash.specs.Cuts.{IsLater}
use Rattle.bb_flash.specs.Device.{Device, IsDevice, StartKeeps}
use Rattle.bb_state.specs.Keyed.{Keyed}
use Rattle.bb_state.specs.Kinds.{laid_form, laid_kinds}
use Rattle.bb_state.specs.Shows.{IsOwn}
use Rattle.bb_shell.specs.Boot.{Round, plan_at}
use Rattle.bb_shell.specs.declared.outcome.Outcome.{Outcome}
use Rattle.bb_shell.specs.declared.outcome.Outcome.TheVariants.{Refused, Unplanned, Failed, Started}

-- ---- the save of a round

-- what it was refused for, if it was
abbrev pub refusal_of : Outcome → Option CopyFault
refusal_of (Refused fault) = Some fault
refusal_of Unplanned = None
refusal_of Failed = None
refusal_of Started = None

abbrev pub is_refused_save : Outcome → Bool
is_refused_save outcome = is_some (refusal_of outcome)

-- The table is the one that was last loaded or saved: no call of the device is made.
pub record SavesNothing
    (used now : Option ℕ) (refusal : Option CopyFault) (from to : Device) : Type 0 where
  pub device : to ≡ from
  pub copy : now ≡ used
  pub done : refusal ≡ None

-- It is another one, and is saved to the copies, of which `used` is the first that passes the last
-- one, and `now` the first that passes this one.
abbrev pub IsBegun :
    Keyed → Option ℕ → Option ℕ → List ℕ → Option CopyFault → Device → Device → Type 0
IsBegun keyed used now table refusal from to =
    IsSave (laid_form keyed) (laid_kinds keyed.layout) true used now table from to refusal

-- The table is the one that was last loaded or saved. Where none is known to be, it is another.
abbrev pub same_as_kept : Option (List ℕ) → List ℕ → Bool
same_as_kept None table = false
same_as_kept (Some kept) table = bytes_eq table kept

-- a table of the layout was to be saved where `kept` was last loaded or saved, if it was not to be
-- saved always
pub record IsSaveRun
    (keyed : Keyed) (kept : Option (List ℕ)) (used now : Option ℕ) (table : List ℕ)
    (refusal : Option CopyFault) (from to : Device) : Type 0 where
  pub own : IsOwn keyed.layout table
  pub idle : same_as_kept kept table ≡ true → SavesNothing used now refusal from to
  pub begun : same_as_kept kept table ≡ false → IsBegun keyed used now table refusal from to

-- ---- the start of a round

-- what holds of every start, whether it was made or failed
pub record StartRuns (made : Bool) (from to : Device) : Type 0 where
  pub keeps : StartKeeps from to
  pub later : IsLater from to
  pub whole : IsDevice to
  pub start_faults : to.start_faults ≡ counted (not made) from.start_faults

pub record IsStartMade (from to : Device) (plan : Plan) : Type 0 where
  pub runs : StartRuns true from to
  pub done : to.told ≡ option_map (told_after_start plan) from.told

pub record IsStartFailed (from to : Device) (plan : Plan) : Type 0 where
  pub runs : StartRuns false from to
  pub failed : to.told ≡ from.told

-- after the save the target is started by its plan; where it has none, or the save was refused,
-- no call is made
abbrev pub IsTried : Option Plan → Outcome → Device → Device → Type 0
IsTried plan (Refused fault) from to = to ≡ from
IsTried plan Unplanned from to = to ≡ from
IsTried plan Failed from to = IsSomeAnd plan (IsStartFailed from to)
IsTried plan Started from to = IsSomeAnd plan (IsStartMade from to)

-- ---- rounds

-- a round was run: its save, and then its start
pub record IsRoundRun
    (keyed : Keyed) (plans : List (Option Plan)) (kept : Option (List ℕ)) (used now : Option ℕ)
    (round : Round) (from to : Device) : Type 0 where
  -- between the two
  pub middle : Device
  pub saved : IsSaveRun keyed kept used now round.table (refusal_of round.outcome) from middle
  pub tried : IsTried (plan_at plans round.target) round.outcome middle to

-- P holds up to some device and the copy that is used then, and Q from them on
pub record Between (P Q : Option ℕ → Device → Type 0) : Type 0 where
  pub copy : Option ℕ
  pub device : Device
  pub before : P copy device
  pub behind : Q copy device

-- The rounds were run one after another. `kept` was last loaded or saved before them, or their
-- first save was to be made whatever was; `used` is the copy that is used before them, `now` the
-- one after them.
unfoldable pub AreRun :
    Keyed → List (Option Plan) → Option (List ℕ) → Option ℕ → Option ℕ → List Round → Device → Device
    → Type 0
AreRun keyed plans kept used now [] from to = (now ≡ used) × (to ≡ from)
AreRun keyed plans kept used now (round ∷ later) from to =
    Between
    (λ copy device. IsRoundRun keyed plans kept used copy round from device)
    (λ copy device. AreRun keyed plans (Some round.table) copy now later device to)
