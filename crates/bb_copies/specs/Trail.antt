-- How far a session came with the copies, and since when: what an image stands for that a cut of
-- power leaves.
use Rattle.std.specs.Prelude.{◌⊎◌, ℕ, ◌+◌, ◌≤◌, ⊤, List, [], ◌∷◌, ◌++◌, take, map, Option}
use Rattle.bb_copies.specs.StandsFor.{Stands}

-- ---- stages

-- a list of areas, and the place of the acknowledged one
pub record Stage : Type 0 where
  pub areas : List (List ℕ)
  pub acked : ℕ

-- the stages of a save: the new area is the last of the list since it began, and acknowledged since
-- it answered Ok
abbrev pub save_stages : List (List ℕ) → ℕ → List Stage
save_stages begun a =
    record { areas = begun; acked = a } ∷ record { areas = begun; acked = a + 1 } ∷ []

-- those of saves, one after another
abbrev pub stages_of : List (List ℕ) → ℕ → List (List ℕ) → List Stage
stages_of h a [] = []
stages_of h a (area ∷ saves) =
    save_stages (h ++ area ∷ []) a ++ stages_of (h ++ area ∷ []) (a + 1) saves

-- those of a session: before its load answered Ok, then the area at this place was loaded, and then
-- come its saves
abbrev pub session_stages : List (List ℕ) → ℕ → ℕ → List (List ℕ) → List Stage
session_stages h a place saves =
    let loaded = take (place + 1) h in
    record { areas = h; acked = a }
    ∷ record { areas = loaded; acked = place }
    ∷ stages_of loaded place saves

-- a content stands for what a stage says
abbrev pub StandsAt : List ℕ → List (Option (List ℕ)) → Stage → Type 0
StandsAt first passed stage = Stands first passed stage.areas stage.acked

-- a content stands for one of the stages
abbrev pub StandsAtOne : List ℕ → List (Option (List ℕ)) → List Stage → Type 0
StandsAtOne first passed [] = ⊥
StandsAtOne first passed (stage ∷ later) =
    StandsAt first passed stage ⊎ StandsAtOne first passed later

-- ---- trails

-- a stage that a session reached, and the moment since when it or a later one holds
pub record Milestone : Type 0 where
  pub stage : Stage
  pub since : ℕ

-- the stages of a trail
abbrev pub stages_in : List Milestone → List Stage
stages_in trail = map (λ milestone. milestone.stage) trail

-- a stage that holds since a moment
abbrev pub milestone_of : List (List ℕ) → ℕ → ℕ → Milestone
milestone_of h a moment = record { stage = record { areas = h; acked = a }; since = moment }

-- The trail of saves, from a moment on since when the area at `a` is acknowledged. Each save began
-- then, or when the one before it answered: since it began its area is the last of the list. Since
-- it answered Ok, at the next of the moments, that area is acknowledged. A save without such a
-- moment was refused, and is the last.
unfoldable pub trail_of : List (List ℕ) → ℕ → ℕ → List (List ℕ) → List ℕ → List Milestone
trail_of h a since [] answered = milestone_of h a since ∷ []
trail_of h a since (area ∷ saves) [] =
    milestone_of h a since ∷ milestone_of (h ++ area ∷ []) a since ∷ []
trail_of h a since (area ∷ saves) (when ∷ answered) =
    milestone_of h a since
    ∷ milestone_of (h ++ area ∷ []) a since
    ∷ trail_of (h ++ area ∷ []) (a + 1) when saves answered

-- the trail of a session whose load answered Ok: before it did the list is as it was, and since
-- then the area at this place is acknowledged
abbrev pub session_trail :
    List (List ℕ) → ℕ → ℕ → ℕ → ℕ → List (List ℕ) → List ℕ → List Milestone
session_trail h a began place loaded saves answered =
    milestone_of h a began ∷ trail_of (take (place + 1) h) place loaded saves answered

-- the moment of the first milestone; where there is none it is now
abbrev pub next_moment : ℕ → List Milestone → ℕ
next_moment now [] = now
next_moment now (milestone ∷ later) = milestone.since

-- Each image since a moment stands for one of the stages. `Since` says which images those are, as
-- what their copies pass. The moment is not after the next one.
pub record IsSince (Since : ℕ → List (Option (List ℕ)) → Type 0) (next : ℕ) (first : List ℕ)
    (stages : List Stage) (moment : ℕ) : Type 0 where
  pub order : moment ≤ next
  pub images :
      (passed : List (Option (List ℕ))) → Since moment passed → StandsAtOne first passed stages

-- A trail: each image since a milestone's moment stands for its stage, or for that of a later one.
-- The moments never fall, and none is in the future.
abbrev pub IsTrail : (ℕ → List (Option (List ℕ)) → Type 0) → ℕ → List ℕ → List Milestone → Type 0
IsTrail Since now first [] = ⊤
IsTrail Since now first (milestone ∷ later) =
    IsSince Since (next_moment now later) first (stages_in (milestone ∷ later)) milestone.since
    × IsTrail Since now first later
