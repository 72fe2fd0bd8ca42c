use Rattle.std.proofs.Common.{◌∙◌, All, ap, refl, subst, sym}
use Rattle.bb_actions.proofs.Values.{are_fitting}
use Rattle.bb_actions.specs.Actions.{AreBoundTo, FitsArea}
use Rattle.bb_plan.specs.Plan.{IsServed, keyed_as}
use Rattle.bb_plan.specs.declared.plan.Work.{Work}
use Rattle.bb_plan.specs.declared.plan.Work.TheVariants.{Act}
use Rattle.bb_drill_sessions.specs.Rules.{made_by}
use Rattle.bb_state.proofs.Showing.{own_sized}
use Rattle.bb_drill_sessions.proofs.Making.{made_once, mark_made}
use Rattle.bb_drill_sessions.proofs.made.follow.Goals as goal

pub put_values-requires : goal.put_values-requires
put_values-requires c =
    let layout = c.args.plan.now.keyed.layout in
    let bound : AreBoundTo layout.vars c.in-Act.actions =
    subst (IsServed (keyed_as c.args.plan.now.keyed)) c.in-Act.is c.requires.served in
    subst (λ n. All (FitsArea n) c.in-Act.actions) (sym c.requires.sized)
    (are_fitting layout.area_len layout.vars layout.facts.vars_are c.in-Act.actions bound)

pub returns-in_ok-spend-in-Boot : goal.returns-in_ok-spend-in-Boot
returns-in_ok-spend-in-Boot c =
    let keyed = keyed_as c.args.plan.now.keyed in
    let layout = c.args.plan.now.keyed.layout in
    let own = own_sized keyed.layout c.args.table.now layout.facts c.requires.sized in
    c.in_ok-spend-in-Boot.ensures keyed own
    ∙ ap (λ (work : Work). made_by (record { keyed = keyed; work = work }) c.args.table.now) (sym c.in-Boot.is)

pub returns-in-Act : goal.returns-in-Act
returns-in-Act c =
    let keyed = keyed_as c.args.plan.now.keyed in
    c.put_values.ensures.table
    ∙ made_once (record { keyed = keyed; work = Act c.in-Act.actions }) c.args.table.now (own_sized keyed.layout c.args.table.now c.args.plan.now.keyed.layout.facts c.requires.sized) refl refl _ refl
    ∙ ap (λ (work : Work). made_by (record { keyed = keyed; work = work }) c.args.table.now) (sym c.in-Act.is)

pub returns-in-Good : goal.returns-in-Good
returns-in-Good c =
    let keyed = keyed_as c.args.plan.now.keyed in
    c.mark.ensures ∙ mark_made keyed c.in-Good.chooser c.args.table.now (own_sized keyed.layout c.args.table.now c.args.plan.now.keyed.layout.facts c.requires.sized)
    ∙ ap (λ (work : Work). made_by (record { keyed = keyed; work = work }) c.args.table.now) (sym c.in-Good.is)
