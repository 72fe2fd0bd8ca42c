-- What any session of the drill leaves on its board, whatever fails: its geometry, and at most the
-- starts of its command.
use Rattle.std.proofs.Common.{◌≡◌, ℕ, ◌+◌, ◌≤◌, Bool, true, false, List, [], ◌∷◌, length, Option, Some, None, Result, Ok, if◌then◌else◌, refl, ap, ◌∙◌, inl, inr, arith}
use Rattle.std.proofs.lemmas.List.{length-append}
use Rattle.std.proofs.lemmas.Option.{same_Some}
use Rattle.bb_drill.specs.Board.{IsSessionOn}
use Rattle.bb_drill.specs.Draws.{may_start}
use Rattle.bb_drill.specs.declared.command.DrillCommand.{DrillCommand}
use Rattle.bb_flash.specs.Cuts.{IsLater}
use Rattle.bb_flash.specs.Device.{Device, Start, starts}
use Rattle.bb_flash.specs.Memory.{Memory, device_of}
use Rattle.bb_flash.specs.declared.plan.Plan.{Plan as StartPlan}
use Rattle.bb_plan.specs.Plan.{SessionPlan}
use Rattle.bb_plan.specs.declared.plan.Work.{Work}
use Rattle.bb_plan.specs.declared.refusal.Refusal.{Refusal}
use Rattle.bb_session.specs.Acting.{WorkAnswers, start_plans_of}
use Rattle.bb_session.specs.Booting.{start_of}
use Rattle.bb_session.specs.Session.{LoadAnswer, work_session}
use Rattle.bb_session.specs.Work.{IsWork, IsWorkedOut}
use Rattle.bb_session.specs.declared.report.Report.{Report}
use Rattle.bb_state.specs.Keyed.{Keyed}
use Rattle.bb_drill_sessions.specs.Plans.{drill_plan}
use Rattle.bb_drill_sessions.proofs.Plans.{on_board}
use Rattle.bb_drill_sessions.proofs.Starting.{AddsOne, none_started, work_start}

-- the start of a work that was done, which is none where it has no plan of one
record IsStarted (work : Work) (from to : Device) : Type 0 where
  start : Option StartPlan
  none : start_plans_of work ≡ [] → start ≡ None
  adds : AddsOne start from to

started_by : (plan : SessionPlan) (from to : Device) (load : LoadAnswer) (answers : WorkAnswers) → IsWork plan from to load answers →
    IsStarted plan.work from to
started_by plan from to load answers work = record {
  start = start_of plan.work (work_session plan load answers).rounds;
  none = none_started plan (work_session plan load answers).rounds;
  adds = work_start plan from to load answers work;
}

started_in : (keyed : Keyed) (work : Work) (from to : Device) (given : Result Report Refusal) → IsWorkedOut keyed work from to given →
    IsStarted work from to
started_in keyed work from to given (inl done) = started_by (record { keyed = keyed; work = work }) from to done.load done.answers done.work
started_in keyed work from to given (inr (inl text)) = started_by (record { keyed = keyed; work = work }) from to text.load text.answers text.work
started_in keyed work from to given (inr (inr memory)) =
    record { start = None; none = λ unplanned. refl; adds = ap starts memory.unasked }

abbrev most_starts : Bool → ℕ
most_starts may = if may then 1 else 0

few_starts : (start : Option StartPlan) (may : Bool) (before after : Memory) → (may ≡ false → start ≡ None) →
    AddsOne start (device_of before) (device_of after) →
    length after.told.starts ≤ length before.told.starts + most_starts may
few_starts None true before after none adds = let same = ap length (same_Some after.told.starts before.told.starts adds) in omega (arith, same)
few_starts None false before after none adds = let same = ap length (same_Some after.told.starts before.told.starts adds) in omega (arith, same)
few_starts (Some plan) false before after none adds = absurd (let e = none refl in cc)
few_starts (Some plan) true before after none adds =
    let start : List Start = (record { plan = plan; image = after.told.image }) ∷ [] in
    let long = ap length (adds.added before.told refl after.told refl) ∙ length-append before.told.starts start in
    let one : length start ≡ 1 = refl in
    omega (arith, long, one)

pub on_of : (command : DrillCommand) (plan : SessionPlan) → drill_plan command ≡ Ok plan → (before after : Memory)
    (given : Result Report Refusal) → IsWorkedOut plan.keyed plan.work (device_of before) (device_of after) given →
    IsLater (device_of before) (device_of after) → IsSessionOn command before after
on_of command plan is before after given worked later =
    let started = started_in plan.keyed plan.work (device_of before) (device_of after) given worked in
    record {
      geometry = later.geometry;
      starts =
          few_starts started.start (may_start command) before after (λ idle. started.none ((on_board command plan is).none idle))
          started.adds;
    }
