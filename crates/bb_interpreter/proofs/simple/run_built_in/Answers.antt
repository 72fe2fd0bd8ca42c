use Rattle.std.proofs.Common.{refl, sym}
use Rattle.std.proofs.lemmas.Result.{err_from_is_err_and}
use Rattle.bb_interpreter.specs.declared.built_in.BuiltIn.TheVariants.{True, False, Test, Brackets}
use Rattle.bb_interpreter.specs.Test.{brackets_status, test_status}
use Rattle.bb_interpreter.proofs.SimpleLemmas.{echo_does, echo_stops, status_does}
use Rattle.bb_interpreter.proofs.simple.run_built_in.Goals as goal

pub returns-in_err-send_echo-in-Echo-clause-leads : goal.returns-in_err-send_echo-in-Echo-clause-leads
returns-in_err-send_echo-in-Echo-clause-leads g c device =
    let p = err_from_is_err_and c.from_residual.result c.from_residual.ensures.1 in
    rw (p.1, p.2)
    (echo_stops g.C.Commands.call_gives c.in_err-send_echo-in-Echo.field-0.0 c.args.built_in c.args.words.now c.args.run.now c.send_echo.new.run device c.in-Echo.is
    (c.in_err-send_echo-in-Echo.ensures.leads device))

pub returns-in_ok-send_echo-in-Echo-clause-leads : goal.returns-in_ok-send_echo-in-Echo-clause-leads
returns-in_ok-send_echo-in-Echo-clause-leads g c device =
    echo_does g.C.Commands.call_gives c.args.built_in c.args.words.now c.args.run.now c.send_echo.new.run device c.in-Echo.is
    (c.in_ok-send_echo-in-Echo.ensures.leads device)

pub returns-in-True-clause-leads : goal.returns-in-True-clause-leads
returns-in-True-clause-leads g c device =
    status_does g.C.Commands.call_gives c.args.built_in True c.args.words.now 0 0 c.args.run.now device c.in-True.is (λ at. refl) refl

pub returns-in-False-clause-leads : goal.returns-in-False-clause-leads
returns-in-False-clause-leads g c device =
    status_does g.C.Commands.call_gives c.args.built_in False c.args.words.now 1 1 c.args.run.now device c.in-False.is (λ at. refl) refl

pub returns-in-Test-clause-leads : goal.returns-in-Test-clause-leads
returns-in-Test-clause-leads g c device =
    status_does g.C.Commands.call_gives c.args.built_in Test c.args.words.now c.test_status-run.result (test_status c.args.words.now) c.args.run.now device c.in-Test.is (λ at. refl) (sym c.test_status-run.ensures)

pub returns-in-Brackets-clause-leads : goal.returns-in-Brackets-clause-leads
returns-in-Brackets-clause-leads g c device =
    status_does g.C.Commands.call_gives c.args.built_in Brackets c.args.words.now c.brackets_status-run.result (brackets_status c.args.words.now) c.args.run.now device c.in-Brackets.is (λ at. refl) (sym c.brackets_status-run.ensures)
