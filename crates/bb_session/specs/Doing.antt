-- The work of a session on a table that was just loaded: the state that it starts from, what it
-- made of the device, and what it gave.
use Rattle.std.specs.Prelude.{◌≡◌, ◌⊎◌, ℕ, Bool, true, false, List, [], Option, Some, None, Result, Ok, Err, IsOk}
use Rattle.bb_actions.specs.Actions.{actions_text}
use Rattle.bb_chooser.specs.Binding.{Binding}
use Rattle.bb_copies.specs.declared.answers.CopyFault.{CopyFault}
use Rattle.bb_flash.specs.Device.{Device}
use Rattle.bb_flash.specs.declared.geometry.Geometry.{Geometry}
use Rattle.bb_layout.specs.Layout.{Laid}
use Rattle.bb_state.specs.Keyed.{Keyed}
use Rattle.bb_state.specs.State.{IsOn, is_sure, last_table_of}
use Rattle.bb_state.specs.declared.state.State.{State}
use Rattle.bb_shell.specs.Running.{IsSaveRun}
use Rattle.bb_install.specs.declared.install_end.InstallEnd.{InstallEnd}
use Rattle.bb_install.specs.declared.install_end.InstallEnd.TheVariants as ends
use Rattle.bb_plan.specs.declared.plan.SlotImage.{SlotImage}
use Rattle.bb_plan.specs.declared.plan.Work.{Work}
use Rattle.bb_plan.specs.declared.plan.Work.TheVariants.{Act, Good, Install, Write}
use Rattle.bb_plan.specs.Refusal.{copy_refusal}
use Rattle.bb_session.specs.Acting.{Acts, SavesOnce, WorkAnswers, acts_of, refusal_by_table}
use Rattle.bb_session.specs.Installing.{installed_name, installed_text}
use Rattle.bb_session.specs.Marking.{good_text}
use Rattle.bb_session.specs.Session.{Session, session_by_acts}
use Rattle.bb_session.specs.Work.{Gives, IsRunAfter, SendsByMemory}
use Rattle.bb_plan.specs.declared.refusal.Refusal.{Refusal}
use Rattle.bb_plan.specs.declared.refusal.Refusal.TheVariants as refusals
use Rattle.bb_session.specs.declared.report.Report.{Report}

-- a state whose table is the one that was just loaded
pub record IsAtHand (state : State) (device : Device) : Type 0 where
  pub on : IsOn state device
  pub sure : is_sure state ≡ true
  pub kept : last_table_of state ≡ state.table

-- its session after a load of this table
abbrev pub session_on : Keyed → Work → List ℕ → WorkAnswers → Session
session_on keyed work table answers =
    session_by_acts (record { keyed = keyed; work = work }) (Some table)
    (acts_of keyed.layout work table) answers

-- a session was given, or memory was refused for what was to be sent of it
abbrev pub EndsWith : Session → Result Report Refusal → Type 0
EndsWith session given =
    Gives session given ⊎ ((given ≡ Err refusals.NoMemory) × SendsByMemory session.refusal)

-- a text was given, or memory was refused for it
abbrev pub IsTold : List ℕ → Result Report Refusal → Type 0
IsTold text given =
    (given ≡ Ok (record { text = text; refusal = None })) ⊎ (given ≡ Err refusals.NoMemory)

-- A work was done on a table that was loaded. `used` is the copy that the load took.
pub record IsDone (keyed : Keyed) (used : Option ℕ) (table : List ℕ) (work : Work)
    (from to : Device) (given : Result Report Refusal) : Type 0 where
  pub answers : WorkAnswers
  pub ran : IsRunAfter keyed work table used from to answers
  pub ends : EndsWith (session_on keyed work table answers) given

-- how long a page is that a work needs memory for, before its first call of the device
abbrev pub page_len : Geometry → Work → ℕ
page_len geometry (Install targets target place) = geometry.page
page_len geometry _ = 0

-- ---- an install

-- what is given of its end, unless memory was refused for it
abbrev pub IsEndTold : Binding → ℕ → SlotImage → InstallEnd → Result Report Refusal → Type 0
IsEndTold targets target place ends.Done given = IsTold (installed_text targets target place) given
IsEndTold targets target place ends.LastTarget given =
    (given ≡ Err (refusals.LastTarget (installed_name targets target)))
    ⊎ (given ≡ Err refusals.NoMemory)
IsEndTold targets target place (ends.SlotFault at) given = given ≡ Err (refusals.SlotFault at)
IsEndTold targets target place (ends.Fault fault) given = given ≡ Err (copy_refusal fault)

-- ---- one save

-- it saves once, a table that it makes of the loaded one
abbrev pub stores : Work → Bool
stores (Write area) = true
stores (Act actions) = true
stores (Good targets) = true
stores _ = false

-- that table was made, or the loaded one ends the session
abbrev pub IsPut : {A : Type 0} → Acts → List ℕ → Result A Refusal → Type 0
IsPut acts table (Ok done) = acts ≡ SavesOnce table
IsPut acts table (Err refusal) = refusal_by_table acts ≡ Some refusal

-- what the work says of it
abbrev pub said_of : Laid → Work → List ℕ → List ℕ
said_of layout (Act actions) table = actions_text layout table actions
said_of layout (Good targets) table = good_text targets table
said_of layout _ table = []

-- what a save gives by why it was refused, if it was
abbrev pub SaveGives : {A : Type 0} → Option CopyFault → Result A Refusal → Type 0
SaveGives None given = IsOk given
SaveGives (Some fault) given = given ≡ Err (copy_refusal fault)

-- a table was to be saved where `kept` was loaded, or whatever was
pub record IsSavedOver {A : Type 0} (keyed : Keyed) (used : Option ℕ) (kept : Option (List ℕ))
    (table : List ℕ) (from to : Device) (given : Result A Refusal) : Type 0 where
  pub refusal : Option CopyFault
  pub now : Option ℕ
  pub run : IsSaveRun keyed kept used now table refusal from to
  pub gives : SaveGives refusal given
