-- What sessions, power cuts and decays make of the copies, one after another, and the law that
-- nothing acknowledged is lost. Areas are listed from the oldest on.
use Rattle.std.specs.Prelude.{◌≡◌, ℕ, ◌+◌, ◌≤◌, ⊤, List, [], ◌∷◌, ◌++◌, length, take, map, All}
use Rattle.std.specs.Prelude.{AllPairs, slice_get, Option, Some, None, IsSome}
use Rattle.bb_copies.specs.StandsFor.{Decay, StandsFor, first_passed}
use Rattle.bb_copies.specs.StandsFor.{marks_left, picked}

-- a content of the copies: what each passes, and what it stands for, which are the areas, the place
-- of the acknowledged one, and a mark a copy
pub record Content : Type 0 where
  pub passed : List (Option (List ℕ))
  pub areas : List (List ℕ)
  pub acked : ℕ
  pub marks : List (Option ℕ)

-- a content stands for its list of areas
abbrev pub IsStanding : List ℕ → Content → Type 0
IsStanding first content = StandsFor first content.passed content.areas content.acked content.marks

-- ---- one session

-- what a session did with the copies
pub data Turn : Type 0 where
  -- no load was made
  Untouched : Turn
  -- a look, which settles nothing
  Looked : Turn
  -- the load was refused or cut
  Unloaded : Turn
  -- the load answered Ok: the place of the area that it gave, the areas of the saves that were
  -- begun, how many of them answered Ok, and the number of the target that was started, or none
  Loaded : (place : ℕ) (saves : List (List ℕ)) (ok : ℕ) (started : Option ℕ) → Turn

-- the list and the acknowledged area are as before
pub record IsAsBefore (before : Content) (h2 : List (List ℕ)) (a2 : ℕ) : Type 0 where
  pub areas : h2 ≡ before.areas
  pub acked : a2 ≡ before.acked

-- A load cuts the list after the area that it gave, which is that of the first copy that passes.
-- The saves come after it. All of them answered Ok, or all but the last; a system is started only
-- where all did.
pub record IsAfterSaves (before : Content) (place : ℕ) (saves : List (List ℕ)) (ok : ℕ)
    (started : Option ℕ) (h2 : List (List ℕ)) (a2 : ℕ) : Type 0 where
  pub given : place ≡ picked before.marks
  pub areas : h2 ≡ take (place + 1) before.areas ++ saves
  pub acked : a2 ≡ place + ok
  pub most : ok ≤ length saves
  pub least : length saves ≤ ok + 1
  pub start : IsSome started → ok ≡ length saves

-- the list and the acknowledged area after a turn
abbrev pub TurnMakes : Content → Turn → List (List ℕ) → ℕ → Type 0
TurnMakes before Untouched h2 a2 = IsAsBefore before h2 a2
TurnMakes before Looked h2 a2 = IsAsBefore before h2 a2
TurnMakes before Unloaded h2 a2 = IsAsBefore before h2 a2
TurnMakes before (Loaded place saves ok started) h2 a2 = IsAfterSaves before place saves ok started h2 a2

-- ---- one after another

-- what happens to the copies
pub data Event : Type 0 where
  -- a session that came to its end
  Finished : Turn → Event
  -- a session that was cut: its turn is what it had done by then
  CutOff : Turn → Event
  -- what happens to the copies between sessions
  Decayed : Event

-- a session leaves a content that stands for what its turn makes of the list
pub record IsAfterTurn (first : List ℕ) (before : Content) (turn : Turn)
    (after : Content) : Type 0 where
  pub step : TurnMakes before turn after.areas after.acked
  pub stands : IsStanding first after

-- a decay changes neither the list nor the acknowledged area
pub record IsAfterDecay (before after : Content) : Type 0 where
  pub decay : Decay before.passed after.passed
  pub areas : after.areas ≡ before.areas
  pub acked : after.acked ≡ before.acked
  pub marks : after.marks ≡ marks_left before.marks after.passed

-- an event brings one content from another
abbrev pub Follows : List ℕ → Content → Event → Content → Type 0
Follows first before (Finished turn) after = IsAfterTurn first before turn after
Follows first before (CutOff turn) after = IsAfterTurn first before turn after
Follows first before Decayed after = IsAfterDecay before after

-- what happened, and the content that it left
pub record ChronicleEntry : Type 0 where
  pub event : Event
  pub content : Content

-- what happened to a content, one after another
abbrev pub Chronicle : List ℕ → Content → List ChronicleEntry → Type 0
Chronicle first before [] = ⊤
Chronicle first before (entry ∷ later) =
    Follows first before entry.event entry.content × Chronicle first entry.content later

-- all contents of a chronicle, from the one that it begins with on
abbrev pub contents_of : Content → List ChronicleEntry → List Content
contents_of before entries = before ∷ map (λ entry. entry.content) entries

-- ---- the law

-- a later content has all that was acknowledged in an earlier one, and acknowledges no less
pub record Outlives (earlier later : Content) : Type 0 where
  pub acked : earlier.acked ≤ later.acked
  pub begins : take (earlier.acked + 1) later.areas ≡ take (earlier.acked + 1) earlier.areas

-- the place of the area that the load of a session gave, where it answered Ok
abbrev pub place_of : Turn → Option ℕ
place_of Untouched = None
place_of Looked = None
place_of Unloaded = None
place_of (Loaded place saves ok started) = Some place

-- the same of an event
abbrev pub loaded_in : Event → Option ℕ
loaded_in (Finished turn) = place_of turn
loaded_in (CutOff turn) = place_of turn
loaded_in Decayed = None

-- the area of the first copy that passes stands at a place of the list that is not before the
-- acknowledged one
pub record IsGiven (first : List ℕ) (before : Content) (place : ℕ) : Type 0 where
  pub acked : before.acked ≤ place
  pub area : slice_get before.areas place ≡ Some (first_passed first before.passed)

-- so it is with each load of a chronicle that answered Ok
abbrev pub EachLoad : List ℕ → Content → List ChronicleEntry → Type 0
EachLoad first before entries =
    (k : ℕ) (content : Content) (entry : ChronicleEntry) (place : ℕ) →
    slice_get (contents_of before entries) k ≡ Some content →
    slice_get entries k ≡ Some entry →
    loaded_in entry.event ≡ Some place →
    IsGiven first content place

-- Nothing that was acknowledged is lost: each content stands for its list, has all that was
-- acknowledged before, and each load gives the last acknowledged area or a later one.
pub record KeepsAcknowledged (first : List ℕ) (before : Content)
    (entries : List ChronicleEntry) : Type 0 where
  pub standing : All (IsStanding first) (contents_of before entries)
  pub outlives : AllPairs Outlives (contents_of before entries)
  pub loads : EachLoad first before entries

-- it is so in each chronicle that begins with a content that stands for a list
abbrev pub ChronicleLaw : Type 0
ChronicleLaw =
    (first : List ℕ) (before : Content) (entries : List ChronicleEntry) →
    IsStanding first before →
    Chronicle first before entries →
    KeepsAcknowledged first before entries
