use Rattle.std.proofs.Common.{rules, ◌≡◌, ◌<◌, ◌+◌, Ok, Err, arith, length, refl, subst, sym, ◌∙◌}
use Rattle.std.proofs.lemmas.Grind.{common_steps}
use Rattle.bb_shell.proofs.Reading.{AreRead, ended_long, ended_planned, planned_before, read_all, read_more, read_none}
use Rattle.bb_shell.specs.Plans.{IsPlanned}
use Rattle.bb_shell.specs.declared.plan_fault.PlanFault.TheVariants.{FileTooLong}
use Rattle.bb_shell.proofs.plans.read_plans.Goals as goal

pub loop-target-init : goal.loop-target-init
loop-target-init g c =
    let before = g.F.Files.folder c.args.files.now in
    record {
      read = subst (AreRead c.args.chooser.now before 0) (sym c.none-plans.ensures) (read_none c.args.chooser.now before);
      told = refl;
      faults = refl;
    }

pub returns-in_err-read_plan-clause-too_long : goal.returns-in_err-read_plan-clause-too_long
returns-in_err-read_plan-clause-too_long g c target h =
    let b = c.args.chooser.now in
    let before = g.F.Files.folder c.args.files.now in
    let inside : c.loop-target.target < length b.targets = omega (arith, c.loop-target-test.true, c.count-target-end.ensures.count) in
    let of = planned_before b c.loop-target.target before (g.F.Files.folder c.loop-target.files) c.read_plan.result c.loop-target.invariant.told c.read_plan.ensures.planned in
    let given : c.read_plan.result ≡ Err (FileTooLong target) = search rules in
    ended_long b before c.loop-target.target c.loop-target.plans c.read_plan.result target inside c.loop-target.invariant.read of given

pub returns-in_err-read_plan-clause-planned : goal.returns-in_err-read_plan-clause-planned
returns-in_err-read_plan-clause-planned g c =
    let b = c.args.chooser.now in
    let before = g.F.Files.folder c.args.files.now in
    let inside : c.loop-target.target < length b.targets = omega (arith, c.loop-target-test.true, c.count-target-end.ensures.count) in
    let of = planned_before b c.loop-target.target before (g.F.Files.folder c.loop-target.files) c.read_plan.result c.loop-target.invariant.told c.read_plan.ensures.planned in
    let given : c.read_plan.result ≡ Err c.in_err-read_plan.field-0.0 = search rules in
    let same : c.from_residual.result ≡ Err c.in_err-read_plan.field-0.0 = search rules in
    subst (IsPlanned b before) (sym same)
    (ended_planned b before c.loop-target.target c.loop-target.plans c.read_plan.result inside c.loop-target.invariant.read of c.in_err-read_plan.field-0.0 given)

pub loop-target-preserved : goal.loop-target-preserved
loop-target-preserved g c =
    let b = c.args.chooser.now in
    let before = g.F.Files.folder c.args.files.now in
    let inside : c.loop-target.target < length b.targets = omega (arith, c.loop-target-test.true, c.count-target-end.ensures.count) in
    let of = planned_before b c.loop-target.target before (g.F.Files.folder c.loop-target.files) c.read_plan.result c.loop-target.invariant.told c.read_plan.ensures.planned in
    let given : c.read_plan.result ≡ Ok c.in_ok-read_plan.field-0 = search rules in
    record {
      read =
          subst (AreRead b before (c.loop-target.target + 1)) (sym c.in_ok-push.ensures.ok)
          (read_more b before c.loop-target.target c.loop-target.plans c.read_plan.result inside c.loop-target.invariant.read of c.in_ok-read_plan.field-0 given);
      told = c.read_plan.ensures.told ∙ c.loop-target.invariant.told;
      faults = c.in_ok-read_plan.ensures.counts ∙ c.loop-target.invariant.faults;
    }

pub returns-clause-ok : goal.returns-clause-ok
returns-clause-ok g c =
    let b = c.args.chooser.now in
    let all : c.loop-target.target ≡ length b.targets = search rules in
    read_all b (g.F.Files.folder c.args.files.now) c.loop-target.target c.loop-target.plans all c.loop-target.invariant.read

pub returns-in_err-push-clause-planned : goal.returns-in_err-push-clause-planned
returns-in_err-push-clause-planned g c = grind (arith, common_steps)

pub returns-clause-planned : goal.returns-clause-planned
returns-clause-planned g c = grind (arith, common_steps)
