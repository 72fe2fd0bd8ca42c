use Rattle.std.proofs.Common.{◌≡◌, ◌<◌, true, length, arith, sym, ◌∙◌, below_more}
use Rattle.bb_layout.specs.VarNames.{is_first_of_name}
use Rattle.bb_layout.proofs.Places.{names_differ, name_twice}
use Rattle.bb_layout.proofs.ranges.has_name_twice.Goals as goal

pub returns-then-not-is_first_of_name : goal.returns-then-not-is_first_of_name
returns-then-not-is_first_of_name c =
    let inside : c.loop-i.i < length c.args.vars.now = omega arith in
    sym (name_twice c.args.vars.now c.loop-i.i inside (sym c.is_first_of_name.ensures ∙ c.if-not-is_first_of_name.true))

pub loop-i-preserved : goal.loop-i-preserved
loop-i-preserved c =
    below_more (λ k. is_first_of_name c.args.vars.now k ≡ true) c.loop-i.i c.loop-i.invariant (sym c.is_first_of_name.ensures ∙ c.if-not-is_first_of_name.false)

pub returns : goal.returns
returns c =
    sym (names_differ c.args.vars.now (λ k l. c.loop-i.invariant k (omega arith)))
