-- Why a session names a copy that it couldn't write, or a call on its slot. The counts are those of
-- the whole session.
use Rattle.std.specs.Prelude.{◌≡◌, ◌≢◌, ◌⊎◌, ℕ, ◌+◌, ◌-◌, List, [], ◌∷◌, ◌++◌, Option, Some, None, Ok, Err, count_by, is_none}
use Rattle.std.specs.Option.{ForSome, IfSome}
use Rattle.bb_copies.specs.Buckets.{EachCopy}
use Rattle.bb_copies.specs.Passing.{passes_at}
use Rattle.bb_copies.specs.Refreshing.{IsUntouched}
use Rattle.bb_copies.specs.Settling.{IsUnread, PassesAnother, RoseBy}
use Rattle.bb_copies.specs.StandsFor.{SomePasses}
use Rattle.bb_flash.specs.Cuts.{IsLater}
use Rattle.bb_flash.specs.Device.{Device, content}
use Rattle.bb_state.specs.Kinds.{laid_kinds}
use Rattle.bb_session.specs.Looking.{first_found, passed_in}
use Rattle.bb_shell.specs.Boot.{Round}
use Rattle.bb_session.specs.Acting.{WorkAnswers, kept_before, place_in, start_plans_of}
use Rattle.bb_session.specs.Around.{AreRunAround}
use Rattle.bb_session.specs.Exactly.{last_area_of, saves_made}
use Rattle.bb_plan.specs.Plan.{SessionPlan}
use Rattle.bb_plan.specs.declared.plan.SlotImage.{SlotImage}
use Rattle.bb_session.specs.Session.{LoadAnswer, acts_after, loaded_area, work_session}
use Rattle.bb_session.specs.Work.{IsLoaded}

-- The area that the copies were to take: that of the last save that was begun, which is the one
-- that was refused. In a load that was refused it is that of the first copy that passed at entry.
abbrev pub IsWanted : SessionPlan → Device → LoadAnswer → WorkAnswers → List ℕ → Type 0
IsWanted plan from (Ok found) answers area =
    last_area_of None (saves_made plan found answers) ≡ Some area
IsWanted plan from (Err fault) answers area =
    ForSome (content from)
    (λ image. first_found (passed_in plan.keyed from.geometry.page image) ≡ Some area)

-- the copy passes another area than the copies were to take, and two calls failed
pub record IsLeftStale (plan : SessionPlan) (from to : Device) (load : LoadAnswer)
    (answers : WorkAnswers) (copy : ℕ) : Type 0 where
  pub area : List ℕ
  pub wanted : IsWanted plan from load answers area
  pub passes :
      ForSome (content to)
      (λ image.
      PassesAnother area (passes_at (passed_in plan.keyed from.geometry.page image) copy))
  pub cause : RoseBy 2 from.faults to.faults

-- The copy is the one that the load took, or one that a save after it left as the first that
-- passes: that of all rounds of the session but the last, whose save was refused.
pub record IsUsed (plan : SessionPlan) (from middle : Device) (load : LoadAnswer)
    (answers : WorkAnswers) (copy : ℕ) : Type 0 where
  -- after the load
  pub first : Device
  pub used : Option ℕ
  pub loaded : IsLoaded plan.keyed used from first load
  pub found : Option (List ℕ)
  pub found_is : load ≡ Ok found
  pub earlier : List Round
  pub last : Round
  pub rounds : (work_session plan load answers).rounds ≡ earlier ++ last ∷ []
  -- the slot that was written between them, if one was, and the call on it that failed
  pub place : Option SlotImage
  pub stuck : Option ℕ
  pub of_work : IfSome place (λ p. place_in (acts_after plan found) ≡ Some p)
  pub run :
      AreRunAround plan.keyed (start_plans_of plan.work) place
      (kept_before plan.work (loaded_area plan.keyed.layout found)) used (Some copy) earlier stuck
      first middle

-- The copy is the one that is used, and the save left it as it was, in every image. No other copy
-- passes anything, and for each of them a call failed.
pub record IsLeftAlone (plan : SessionPlan) (from to : Device) (load : LoadAnswer)
    (answers : WorkAnswers) (copy : ℕ) : Type 0 where
  -- before the save
  pub middle : Device
  pub used : IsUsed plan from middle load answers copy
  pub later : IsLater middle to
  pub untouched :
      EachCopy (laid_kinds plan.keyed.layout) (λ place kind. place ≡ copy → IsUntouched kind middle to)
  pub others :
      ForSome (content to)
      (λ image.
      (place : ℕ) → place ≢ copy →
      passes_at (passed_in plan.keyed from.geometry.page image) place ≡ None)
  pub cause : RoseBy (plan.keyed.layout.copies - 1) from.faults to.faults

-- The load took no copy, and the copy is the last. None passes anything, and for each of them a
-- call failed.
pub record AreAllLost (plan : SessionPlan) (from to : Device) (load : LoadAnswer) (copy : ℕ)
    : Type 0 where
  pub found : load ≡ Ok None
  pub last : copy + 1 ≡ plan.keyed.layout.copies
  pub none :
      ForSome (content to)
      (λ image. first_found (passed_in plan.keyed from.geometry.page image) ≡ None)
  pub cause : RoseBy plan.keyed.layout.copies from.faults to.faults

-- Why a session names a call on its slot: where a copy passes at exit, more calls failed than there
-- are copies that pass nothing there.
abbrev pub RoseAboveLost : SessionPlan → Device → Device → Type 0
RoseAboveLost plan from to =
    ForSome (content to)
    (λ image.
    let passed = passed_in plan.keyed from.geometry.page image in
    SomePasses passed → RoseBy (count_by is_none passed + 1) from.faults to.faults)

-- one of these holds of a copy that is named; or it couldn't be read back, and three calls failed,
-- of which one is a read
abbrev pub IsWriteFault :
    SessionPlan → Device → Device → LoadAnswer → WorkAnswers → ℕ → Type 0
IsWriteFault plan from to load answers copy =
    IsLeftStale plan from to load answers copy
    ⊎ (IsUnread from to
    ⊎ (IsLeftAlone plan from to load answers copy ⊎ AreAllLost plan from to load copy))
