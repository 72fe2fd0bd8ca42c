-- How often a board starts a system: over power-ons in each of which it boots by the same files,
-- with cuts and decays in between, and where no reset gives attempts back, the starts are no more
-- than the attempts that the first table gave (barebox User Manual, Bootchooser).
use Rattle.std.specs.Prelude.{◌≡◌, ◌≤◌, ℕ, Bool, false, true, List, [], ◌∷◌, Option, Some, None, is_some, count_by, length, nat_lt, slice_get, sum_by, option_and_then, option_map, if◌then◌else◌}
use Rattle.std.specs.Option.{option_map_or}
use Rattle.bb_chooser.specs.Binding.{Binding, IsBinding}
use Rattle.bb_chooser.specs.Choosing.{number_at}
use Rattle.bb_chooser.specs.Resets.{reset_of}
use Rattle.bb_chooser.specs.declared.cause.Cause.{Cause}
use Rattle.bb_copies.specs.Chronicle.{Chronicle, Content, CutOff, Decayed, ChronicleEntry, Event, Finished, IsStanding, Loaded, Looked, Turn, Unloaded, Untouched, loaded_in}
use Rattle.bb_flash.specs.declared.plan.Plan.{Plan}
use Rattle.bb_shell.specs.Boot.{Round, first_table, last_round}
use Rattle.bb_shell.specs.Rounds.{RoundAnswer, is_started, rounds_by}
use Rattle.bb_shell.specs.Stages.{made_of, saves_of}

-- ---- the turn of rounds

-- the target that the last round started, counted from 0, if it started one
abbrev pub target_started : List Round → Option ℕ
target_started rounds =
    option_and_then
    (λ round. if is_started round.outcome then Some round.target else None)
    (last_round rounds)

-- after a load of the area at this place of the list, where `kept` is the table that it gave, or
-- none where the first save was to be made whatever it gave
abbrev pub turn_of_rounds : ℕ → Option (List ℕ) → List Round → Turn
turn_of_rounds place kept rounds =
    Loaded place (saves_of kept rounds) (made_of kept rounds) (target_started rounds)

-- how a board reads the areas that it stores: tables of its layout are as they are stored
abbrev pub ReadsOwn : Binding → (List ℕ → List ℕ) → Type 0
ReadsOwn b shows = (table : List ℕ) → length table ≡ b.area_len → shows table ≡ table

-- A boot by these files did this with a content: no load answered Ok; or one did, and the rounds
-- after it came of some answers, from the table on that the area which it gave shows. Of a boot
-- that was cut they are those that it had had by then, and a save that it had begun is one that
-- was refused.
pub record IsBootAfter (b : Binding) (cause : Cause) (plans : List (Option Plan))
    (shows : List ℕ → List ℕ) (before : Content) (place : ℕ) (saves : List (List ℕ)) (ok : ℕ) (started : Option ℕ)
    : Type 0 where
  pub table : List ℕ
  pub table_is : option_map shows (slice_get before.areas place) ≡ Some table
  pub sized : length table ≡ b.area_len
  pub answers : List RoundAnswer
  pub turn :
      Loaded place saves ok started
      ≡ turn_of_rounds place (Some table)
      (rounds_by b plans (first_table b cause true table) answers)

abbrev pub IsBootTurn :
    Binding → Cause → List (Option Plan) → (List ℕ → List ℕ) → Content → Turn → Type 0
IsBootTurn b cause plans shows before Untouched = Unit {0}
IsBootTurn b cause plans shows before Looked = Unit {0}
IsBootTurn b cause plans shows before Unloaded = Unit {0}
IsBootTurn b cause plans shows before (Loaded place saves ok started) =
    IsBootAfter b cause plans shows before place saves ok started

abbrev pub IsBootEvent :
    Binding → Cause → List (Option Plan) → (List ℕ → List ℕ) → Content → Event → Type 0
IsBootEvent b cause plans shows before (Finished turn) = IsBootTurn b cause plans shows before turn
IsBootEvent b cause plans shows before (CutOff turn) = IsBootTurn b cause plans shows before turn
IsBootEvent b cause plans shows before Decayed = Unit {0}

-- ---- a chronicle of boots

-- the table that the load of an event gave, which a reset leaves as it is
abbrev pub StaysReset : Binding → Cause → (List ℕ → List ℕ) → Content → Event → Type 0
StaysReset b cause shows before event =
    (place : ℕ) (table : List ℕ) → loaded_in event ≡ Some place →
    option_map shows (slice_get before.areas place) ≡ Some table → reset_of b cause table ≡ table

-- a session is such a boot, for whatever cause, and its reset leaves a table that its load gave
pub record IsPowerOn (b : Binding) (plans : List (Option Plan)) (shows : List ℕ → List ℕ)
    (before : Content) (event : Event) : Type 0 where
  pub cause : Cause
  pub boots : IsBootEvent b cause plans shows before event
  pub stays : StaysReset b cause shows before event

-- so is each, one after another
unfoldable pub AreBoots :
    Binding → List (Option Plan) → (List ℕ → List ℕ) → Content → List ChronicleEntry → Type 0
AreBoots b plans shows before [] = Unit {0}
AreBoots b plans shows before (entry ∷ later) =
    IsPowerOn b plans shows before entry.event × AreBoots b plans shows entry.content later

-- ---- counts

abbrev pub turn_starts : Turn → Bool
turn_starts (Loaded place saves ok started) = is_some started
turn_starts _ = false

abbrev pub starts_in : Event → Bool
starts_in (Finished turn) = turn_starts turn
starts_in (CutOff turn) = turn_starts turn
starts_in Decayed = false

-- how many systems were started
abbrev pub starts_of : List ChronicleEntry → ℕ
starts_of entries = count_by (λ entry. starts_in entry.event) entries

-- the attempts of the targets that are enabled: those with a priority above 0
abbrev pub enabled_attempts : Binding → List ℕ → ℕ
enabled_attempts b table =
    sum_by
    (λ t. if nat_lt 0 (number_at table t.priority_at) then number_at table t.attempts_at else 0)
    b.targets

-- the area that the first load that answered Ok gave, if one did
unfoldable pub first_loaded : Content → List ChronicleEntry → Option (List ℕ)
first_loaded before [] = None
first_loaded before (entry ∷ later) =
    option_map_or (slice_get before.areas) (loaded_in entry.event)
    (first_loaded entry.content later)

-- ---- the law

-- the starts are no more than the attempts of the enabled targets in the first table that a load
-- gave
abbrev pub AttemptsLaw : Type 0
AttemptsLaw =
    (b : Binding) (plans : List (Option Plan)) (shows : List ℕ → List ℕ) (first table : List ℕ)
    (before : Content) (entries : List ChronicleEntry) →
    IsBinding b →
    ReadsOwn b shows →
    IsStanding first before →
    Chronicle first before entries →
    AreBoots b plans shows before entries →
    option_map shows (first_loaded before entries) ≡ Some table →
    starts_of entries ≤ enabled_attempts b table

-- and where no load answered Ok, no system is started
abbrev pub NoLoadLaw : Type 0
NoLoadLaw =
    (b : Binding) (plans : List (Option Plan)) (shows : List ℕ → List ℕ) (before : Content)
    (entries : List ChronicleEntry) →
    AreBoots b plans shows before entries →
    first_loaded before entries ≡ None →
    starts_of entries ≡ 0
