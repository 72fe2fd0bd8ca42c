use Rattle.std.proofs.Common.{◌≡◌, ◌≤◌, ◌++◌, ◌∙◌, List, Option, ℕ, OnOk, ap, length, subst}
use Rattle.std.specs.Prelude.{IfSome}
use Rattle.bb_history.proofs.Texts.{failing_adds, passing_adds}
use Rattle.bb_history.specs.Reading.{entry_lines}
use Rattle.bb_layout.specs.Layout.{Laid, fields_of}
use Rattle.bb_history.proofs.lines.add_passing.Goals as goal

pub front-requires : goal.front-requires
front-requires c =
    subst (λ (o : Option ℕ). IfSome o (λ len. len ≤ length c.args.left.now)) c.in-Some.is c.requires

pub returns-in_default-clause-added : goal.returns-in_default-clause-added
returns-in_default-clause-added c =
    failing_adds (fields_of c.args.layout.now) c.args.number c.args.left.now c.args.passed c.args.out.now c.in_default.is

pub returns-clause-added : goal.returns-clause-added
returns-clause-added c =
    let layout : Laid = fields_of c.args.layout.now in
    subst (λ (text : List ℕ). OnOk c.add_entry.result (c.add_entry.new.out ≡ c.args.out.now ++ text))
    (ap (entry_lines layout c.args.number) c.front.ensures
    ∙ passing_adds layout c.args.number c.args.left.now c.args.passed c.in-Some.len c.in-Some.is)
    c.add_entry.ensures.added
