use Rattle.std.proofs.Common.{◌≡◌, ◌∙◌, ◌++◌, List, ℕ, Some, Bool, ap, sym}
use Rattle.std.specs.Bool.{then_some}
use Rattle.bb_copies.specs.Loading.{LookGives}
use Rattle.bb_state.specs.Kinds.{laid_form, laid_kinds}
use Rattle.bb_session.proofs.Worked.{as_then, look_told}
use Rattle.bb_state.specs.State.{keyed_of, stored_of}
use Rattle.bb_drill_sessions.proofs.look.look_at.Goals as goal

pub returns-then-not-found-clause-found : goal.returns-then-not-found-clause-found
returns-then-not-found-clause-found g c = λ image held.
    let stored = stored_of c.look.new.self in
    sym (ap (λ (found : Bool). then_some found stored) c.if-not-found.true)
    ∙ look_told (keyed_of c.args.state.now) stored c.in-Ok.found (g.F.Flash.device c.args.flash.now)
    (as_then (LookGives (laid_form (keyed_of c.args.state.now)) (laid_kinds (keyed_of c.args.state.now).layout) (g.F.Flash.device c.args.flash.now)) stored c.in-Ok.found c.in-Ok.ensures.look.gives) image held

pub returns-clause-found : goal.returns-clause-found
returns-clause-found g c = λ image held.
    let stored = stored_of c.look.new.self in
    let table : c.add.new.self ≡ stored =
    c.in_ok-add.ensures.ok ∙ ap (λ (front : List ℕ). front ++ c.stored.result.now) c.none-table.ensures ∙ c.stored.ensures in
    ap (λ (t : List ℕ). Some t) table
    ∙ sym (ap (λ (found : Bool). then_some found stored) c.if-not-found.false)
    ∙ look_told (keyed_of c.args.state.now) stored c.in-Ok.found (g.F.Flash.device c.args.flash.now)
    (as_then (LookGives (laid_form (keyed_of c.args.state.now)) (laid_kinds (keyed_of c.args.state.now).layout) (g.F.Flash.device c.args.flash.now)) stored c.in-Ok.found c.in-Ok.ensures.look.gives) image held

pub returns-then-not-found-clause-calm : goal.returns-then-not-found-clause-calm
returns-then-not-found-clause-calm g c = c.in-Ok.ensures.look.faults

pub returns-clause-calm : goal.returns-clause-calm
returns-clause-calm g c = c.in-Ok.ensures.look.faults
