use Rattle.std.proofs.Common.{sym, ◌∙◌, subst, All, ℕ, ◌≤◌, rules}
use Rattle.bb_layout.specs.Ranges.{end_of}
use Rattle.bb_layout.proofs.RangeFacts.{names_apart, ranges_apart, ends_inside}
use Rattle.bb_layout.proofs.ranges.area_len.Goals as goal

pub returns-clause-names : goal.returns-clause-names
returns-clause-names c = names_apart c.args.vars.now (sym c.has_name_twice.ensures ∙ c.if-has_name_twice.false)

pub returns-clause-apart : goal.returns-clause-apart
returns-clause-apart c = ranges_apart c.args.vars.now c.requires (sym c.in_ok-has_overlap.ensures ∙ c.if-branch.false)

pub returns-clause-inside : goal.returns-clause-inside
returns-clause-inside c = subst (λ (n : ℕ). All (λ v. end_of v ≤ n) c.args.vars.now) (sym c.last_end-end.ensures) (ends_inside c.args.vars.now)

pub returns-clause-ok : goal.returns-clause-ok
returns-clause-ok c = search rules

pub returns-clause-short : goal.returns-clause-short
returns-clause-short c = search rules
