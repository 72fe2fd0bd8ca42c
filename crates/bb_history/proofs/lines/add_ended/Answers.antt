use Rattle.std.proofs.Common.{◌≡◌, ◌++◌, List, Option, ℕ, OnOk, length, subst}
use Rattle.std.specs.Prelude.{IfSome}
use Rattle.bb_history.proofs.Texts.{ended_adds, none_adds}
use Rattle.bb_history.specs.Reading.{FitsRoom}
use Rattle.bb_history.specs.declared.entry.Ended.{Ended}
use Rattle.bb_layout.specs.Layout.{fields_of}
use Rattle.bb_history.proofs.lines.add_ended.Goals as goal

pub add_passing-requires : goal.add_passing-requires
add_passing-requires c =
    subst (λ (e : Option Ended). IfSome e (FitsRoom (length c.args.left.now))) c.in-Some.is c.requires

pub returns-in_default-clause-added : goal.returns-in_default-clause-added
returns-in_default-clause-added c =
    none_adds (fields_of c.args.layout.now) c.args.number c.args.left.now c.args.ended c.args.out.now c.in_default.is

pub returns-clause-added : goal.returns-clause-added
returns-clause-added c =
    subst (λ (text : List ℕ). OnOk c.add_passing.result (c.add_passing.new.out ≡ c.args.out.now ++ text))
    (ended_adds (fields_of c.args.layout.now) c.args.number c.args.left.now c.args.ended c.in-Some.ended c.in-Some.is)
    c.add_passing.ensures.added
