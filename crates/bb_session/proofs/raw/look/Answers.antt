use Rattle.std.proofs.Common.{◌≡◌, ◌∙◌, [], Err, refl, ap, option_map, subst, arith}
use Rattle.std.specs.Vec.{with_items}
use Rattle.bb_copies.specs.Loading.{LookGives}
use Rattle.bb_state.specs.Kinds.{laid_form, laid_kinds}
use Rattle.bb_state.specs.State.{keyed_of, stored_of}
use Rattle.bb_plan.specs.Refusal.{copy_refusal}
use Rattle.bb_session.specs.Acting.{no_answers}
use Rattle.bb_session.specs.Doing.{IsTold}
use Rattle.bb_session.specs.Looking.{look_text}
use Rattle.bb_plan.specs.declared.plan.Work.TheVariants.{Show}
use Rattle.bb_session.proofs.Worked.{as_then, looked_ok, refilled, refused_by, refused_ends, take-refill, worked_out}
use Rattle.bb_session.proofs.raw.look.Goals as goal

pub returns-in_err-found-clause-gives : goal.returns-in_err-found-clause-gives
returns-in_err-found-clause-gives g c =
    let done = c.in_err-found.ensures.look in
    worked_out (keyed_of c.args.state.now) Show (g.F.Flash.device c.args.flash.now)
    (g.F.Flash.device c.look.new.flash) (Err c.in_err-found.field-0.0) no_answers c.from_residual-in_err-found.result
    (record {
      looked = record { told = λ image told. tt; fails = done.fails; faults = done.faults; read_faults = done.read_faults; quiet = done.quiet };
      alone = refl;
      listed = refl;
    })
    (refused_ends (copy_refusal c.in_err-found.field-0.0) [] c.from_residual-in_err-found.result
    (refused_by c.from_residual-in_err-found.result _ c.from_residual-in_err-found.ensures.1))

pub returns-clause-gives : goal.returns-clause-gives
returns-clause-gives g c =
    let filled = with_items c.in_ok-area.area c.look.new.area in
    let items : filled.items ≡ c.look.new.area =
    take-refill _ _ _ (omega (arith, c.in_ok-area.ensures.len, c.look.auto.area, c.deref_mut.ensures.len)) in
    let done = c.in_ok-found.ensures.look in
    looked_ok (keyed_of c.args.state.now) (stored_of c.look.new.self) c.look.new.area c.in_ok-found.found
    (g.F.Flash.device c.args.flash.now) (g.F.Flash.device c.look.new.flash) c.of.result (as_then (LookGives (laid_form (keyed_of c.args.state.now)) (laid_kinds (keyed_of c.args.state.now).layout) (g.F.Flash.device c.args.flash.now)) (stored_of c.look.new.self) c.in_ok-found.found done.gives) c.in_ok-found.ensures.area done.faults
    done.read_faults done.quiet
    (subst (λ text. IsTold text c.of.result)
    (ap look_text
    (ap (option_map (λ area. area.items)) c.then_some.ensures
    ∙ refilled c.in_ok-found.found filled c.look.new.area items))
    (c.of.ensures _ c.look_text.ensures))

pub returns-in_err-found-clause-later : goal.returns-in_err-found-clause-later
returns-in_err-found-clause-later g c = c.in_err-found.ensures.look.quiet.later

pub returns-clause-later : goal.returns-clause-later
returns-clause-later g c = c.in_ok-found.ensures.look.quiet.later
