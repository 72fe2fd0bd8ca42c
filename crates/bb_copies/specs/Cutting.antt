-- What a session did that was cut: how its turn begins, up to the stage at which the cut fell.
use Rattle.std.specs.Prelude.{◌≡◌, ℕ, ◌+◌, ◌≤◌, List, [], ◌∷◌, length, take, slice_get}
use Rattle.std.specs.Prelude.{Option, Some, None, IfSome}
use Rattle.bb_copies.specs.Chronicle.{Content, CutOff, Follows, Loaded, Looked, Turn, Unloaded}
use Rattle.bb_copies.specs.Chronicle.{Untouched, place_of}
use Rattle.bb_copies.specs.StandsFor.{picked}
use Rattle.bb_copies.specs.Trail.{Stage, StandsAt, StandsAtOne, session_stages}

-- the stages that a turn reached: a save that wasn't acknowledged is the last
abbrev pub turn_stages : Content → Turn → List Stage
turn_stages before Untouched = record { areas = before.areas; acked = before.acked } ∷ []
turn_stages before Looked = record { areas = before.areas; acked = before.acked } ∷ []
turn_stages before Unloaded = record { areas = before.areas; acked = before.acked } ∷ []
turn_stages before (Loaded place saves ok started) =
    take (2 + length saves + ok) (session_stages before.areas before.acked place saves)

-- the place that a turn loaded, if it loaded one, is the one that the content's marks give
abbrev pub LoadsThePicked : Content → Turn → Type 0
LoadsThePicked before turn = IfSome (place_of turn) (λ place. place ≡ picked before.marks)

-- ---- how a turn begins

-- After the load of the same place the saves that were begun are the first ones of the turn's, and
-- nothing was started. No more of them answered Ok, where all saves of the turn did or all but the
-- last, as in each session.
pub record BeginsLoaded (from place : ℕ) (begun saves : List (List ℕ)) (done ok : ℕ)
    (started : Option ℕ) : Type 0 where
  pub same : from ≡ place
  pub first : begun ≡ take (length begun) saves
  pub fewer : length saves ≤ ok + 1 → done ≤ ok
  pub unstarted : started ≡ None

-- The first turn is how the second begins. Where no load answered Ok in the first they are the
-- same, or the load of the second was cut.
abbrev pub BeginsTurn : Turn → Turn → Type 0
BeginsTurn Untouched Untouched = Unit {0}
BeginsTurn Looked Looked = Unit {0}
BeginsTurn Unloaded Unloaded = Unit {0}
BeginsTurn Unloaded (Loaded place saves ok started) = Unit {0}
BeginsTurn (Loaded from begun done target) (Loaded place saves ok started) =
    BeginsLoaded from place begun saves done ok target
BeginsTurn cut turn = ⊥

-- ---- a cut

-- A session that was cut at a stage of its turn did the beginning `cut` of it. It leaves copies
-- that pass this, and that stand for the list and the acknowledged area of the stage.
pub record IsCutOff (first : List ℕ) (before : Content) (turn : Turn) (stage : Stage)
    (passed : List (Option (List ℕ))) : Type 0 where
  pub cut : Turn
  pub begins : BeginsTurn cut turn
  pub after : Content
  pub passed_is : after.passed ≡ passed
  pub areas : after.areas ≡ stage.areas
  pub acked : after.acked ≡ stage.acked
  pub follows : Follows first before (CutOff cut) after

-- a content stands for one of some stages, the one of this number
pub record IsAtOne (first : List ℕ) (passed : List (Option (List ℕ))) (stages : List Stage)
    : Type 0 where
  pub number : ℕ
  pub stage : Stage
  pub is : slice_get stages number ≡ Some stage
  pub stands : StandsAt first passed stage

-- the law of cuts, over every turn of a session
pub record CutLaw : Type 0 where
  -- what stands for a stage that a turn reached is what a session leaves that was cut there
  pub each :
      (first : List ℕ) (before : Content) (turn : Turn) (number : ℕ) (stage : Stage)
      (passed : List (Option (List ℕ))) →
      LoadsThePicked before turn →
      slice_get (turn_stages before turn) number ≡ Some stage →
      StandsAt first passed stage →
      IsCutOff first before turn stage passed
  -- and what stands for one of some stages, as a trail has it, stands for a stage of them
  pub one :
      (first : List ℕ) (passed : List (Option (List ℕ))) (stages : List Stage) →
      StandsAtOne first passed stages →
      IsAtOne first passed stages
