use Rattle.std.proofs.Common.{◌≡◌, ℕ, ◌+◌, ◌-◌, ◌==◌, ◌&&◌, Bool, List, true, false, arith, cond, get_or, sym, subst, ap, ◌∙◌}
use Rattle.bb_chooser.proofs.Counts.{disabled_keeps, few_targets, spend_is, spent, spent_keeps}
use Rattle.bb_chooser.specs.Binding.{Binding, IsBinding}
use Rattle.bb_chooser.specs.Choosing.{number_at, with_number}
use Rattle.bb_chooser.specs.Others.{KeepsOthers}
use Rattle.bb_chooser.proofs.chooser.Chooser.spend.Goals as goal

pub overflow_cast-target : goal.overflow_cast-target
overflow_cast-target c =
    let few = few_targets c.args.self.now (subst IsBinding c.self.view_is c.self.invariant) in
    let there = c.requires.there in
    omega arith

pub overflow_add-target : goal.overflow_add-target
overflow_add-target c =
    let few = few_targets c.args.self.now (subst IsBinding c.self.view_is c.self.invariant) in
    let there = c.requires.there in
    omega arith

pub returns-then-not-disables-clause-spent : goal.returns-then-not-disables-clause-spent
returns-then-not-disables-clause-spent c =
    let b = c.args.self.now in
    let table = c.args.table.now in
    let target = c.args.target in
    let t = c.index-bound.result.now in
    let at : t ≡ get_or b.targets target t = c.index-bound.ensures ∙ ap (λ (x : Binding). get_or x.targets target t) c.self.view_is in
    let left = number_at table t.attempts_at - 1 in
    let taken : c.put_number.new.table ≡ with_number table t.attempts_at left = c.put_number.ensures.put ∙ ap (λ n. with_number table t.attempts_at (n - 1)) c.number_at-left.ensures in
    let noted : c.put_number-2.new.table ≡ spent b table t target left =
    c.put_number-2.ensures.put ∙ ap (λ (l : List ℕ). with_number l c.self.inside.last_chosen_at (target + 1)) taken
    ∙ ap (λ (x : Binding). with_number (with_number table t.attempts_at left) x.last_chosen_at (target + 1)) c.self.view_is in
    let disables : (b.rules.disable_on_zero_attempts && (left == 0)) ≡ false =
    ap (λ (x : Binding). x.rules.disable_on_zero_attempts && (left == 0)) (sym c.self.view_is)
    ∙ ap (λ n. c.self.inside.rules.disable_on_zero_attempts && (n - 1 == 0)) (sym c.number_at-left.ensures) ∙ sym c.disables.ensures ∙ c.if-not-disables.true in
    let spends = spend_is b table target t c.requires.there at ∙ ap (λ (d : Bool). cond d (with_number (spent b table t target left) t.priority_at 0) (spent b table t target left)) disables in
    noted ∙ sym spends

pub returns-then-not-disables-clause-others : goal.returns-then-not-disables-clause-others
returns-then-not-disables-clause-others c =
    let b = c.args.self.now in
    let table = c.args.table.now in
    let target = c.args.target in
    let t = c.index-bound.result.now in
    let at : t ≡ get_or b.targets target t = c.index-bound.ensures ∙ ap (λ (x : Binding). get_or x.targets target t) c.self.view_is in
    let left = number_at table t.attempts_at - 1 in
    let taken : c.put_number.new.table ≡ with_number table t.attempts_at left = c.put_number.ensures.put ∙ ap (λ n. with_number table t.attempts_at (n - 1)) c.number_at-left.ensures in
    let noted : c.put_number-2.new.table ≡ spent b table t target left =
    c.put_number-2.ensures.put ∙ ap (λ (l : List ℕ). with_number l c.self.inside.last_chosen_at (target + 1)) taken
    ∙ ap (λ (x : Binding). with_number (with_number table t.attempts_at left) x.last_chosen_at (target + 1)) c.self.view_is in
    subst (KeepsOthers b table) (sym noted) (spent_keeps b (subst IsBinding c.self.view_is c.self.invariant) table c.requires.sized target t left c.requires.there at)

pub returns-clause-spent : goal.returns-clause-spent
returns-clause-spent c =
    let b = c.args.self.now in
    let table = c.args.table.now in
    let target = c.args.target in
    let t = c.index-bound.result.now in
    let at : t ≡ get_or b.targets target t = c.index-bound.ensures ∙ ap (λ (x : Binding). get_or x.targets target t) c.self.view_is in
    let left = number_at table t.attempts_at - 1 in
    let taken : c.put_number.new.table ≡ with_number table t.attempts_at left = c.put_number.ensures.put ∙ ap (λ n. with_number table t.attempts_at (n - 1)) c.number_at-left.ensures in
    let noted : c.put_number-2.new.table ≡ spent b table t target left =
    c.put_number-2.ensures.put ∙ ap (λ (l : List ℕ). with_number l c.self.inside.last_chosen_at (target + 1)) taken
    ∙ ap (λ (x : Binding). with_number (with_number table t.attempts_at left) x.last_chosen_at (target + 1)) c.self.view_is in
    let disables : (b.rules.disable_on_zero_attempts && (left == 0)) ≡ true =
    ap (λ (x : Binding). x.rules.disable_on_zero_attempts && (left == 0)) (sym c.self.view_is)
    ∙ ap (λ n. c.self.inside.rules.disable_on_zero_attempts && (n - 1 == 0)) (sym c.number_at-left.ensures) ∙ sym c.disables.ensures ∙ c.if-not-disables.false in
    let spends = spend_is b table target t c.requires.there at ∙ ap (λ (d : Bool). cond d (with_number (spent b table t target left) t.priority_at 0) (spent b table t target left)) disables in
    c.put_number-3.ensures.put ∙ ap (λ (l : List ℕ). with_number l t.priority_at 0) noted ∙ sym spends

pub returns-clause-others : goal.returns-clause-others
returns-clause-others c =
    let b = c.args.self.now in
    let table = c.args.table.now in
    let target = c.args.target in
    let t = c.index-bound.result.now in
    let at : t ≡ get_or b.targets target t = c.index-bound.ensures ∙ ap (λ (x : Binding). get_or x.targets target t) c.self.view_is in
    let left = number_at table t.attempts_at - 1 in
    let taken : c.put_number.new.table ≡ with_number table t.attempts_at left = c.put_number.ensures.put ∙ ap (λ n. with_number table t.attempts_at (n - 1)) c.number_at-left.ensures in
    let noted : c.put_number-2.new.table ≡ spent b table t target left =
    c.put_number-2.ensures.put ∙ ap (λ (l : List ℕ). with_number l c.self.inside.last_chosen_at (target + 1)) taken
    ∙ ap (λ (x : Binding). with_number (with_number table t.attempts_at left) x.last_chosen_at (target + 1)) c.self.view_is in
    let last : c.put_number-3.new.table ≡ with_number (spent b table t target left) t.priority_at 0 =
    c.put_number-3.ensures.put ∙ ap (λ (l : List ℕ). with_number l t.priority_at 0) noted in
    subst (KeepsOthers b table) (sym last) (disabled_keeps b (subst IsBinding c.self.view_is c.self.invariant) table c.requires.sized target t left c.requires.there at)
