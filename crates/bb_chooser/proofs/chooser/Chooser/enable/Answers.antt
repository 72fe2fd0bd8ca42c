use Rattle.std.proofs.Common.{◌≡◌, List, ℕ, arith, get_or, sym, subst, ap, ◌∙◌}
use Rattle.bb_chooser.proofs.Counts.{attempts_keep, enable_is, enabled_defaults, keeps_none, priority_keeps}
use Rattle.bb_chooser.proofs.Writing.{flip, number_other}
use Rattle.bb_chooser.specs.Binding.{Binding, IsBinding, IsInside, StandsAlone}
use Rattle.bb_chooser.specs.Choosing.{number_at, with_number}
use Rattle.bb_chooser.specs.Others.{KeepsOthers}
use Rattle.bb_chooser.proofs.chooser.Chooser.enable.Goals as goal

pub returns-clause-enabled : goal.returns-clause-enabled
returns-clause-enabled c =
    let b = c.args.self.now in
    let table = c.args.table.now in
    let target = c.args.target in
    let t = c.index-bound.result.now in
    let at : t ≡ get_or b.targets target t = c.index-bound.ensures ∙ ap (λ (x : Binding). get_or x.targets target t) c.self.view_is in
    c.put_number-2.ensures.put
    ∙ ap (λ (l : List ℕ). with_number l t.attempts_at t.target.default_attempts) c.put_number.ensures.put
    ∙ sym (enable_is b table target t c.requires.there at)

pub returns-clause-defaults : goal.returns-clause-defaults
returns-clause-defaults c =
    let b = c.args.self.now in
    let target = c.args.target in
    let t = c.index-bound.result.now in
    let at : t ≡ get_or b.targets target t = c.index-bound.ensures ∙ ap (λ (x : Binding). get_or x.targets target t) c.self.view_is in
    let is = subst IsBinding c.self.view_is c.self.invariant in
    let room : IsInside b.area_len t = subst (IsInside b.area_len) (sym at) (is.each_inside target t c.requires.there) in
    let alone : StandsAlone b.last_chosen_at t =
    subst (StandsAlone b.last_chosen_at) (sym at) (is.each_alone target t c.requires.there) in
    let first = c.put_number.new.table in
    let last = c.put_number-2.new.table in
    let priority : number_at last t.priority_at ≡ t.target.default_priority =
    ap (λ (l : List ℕ). number_at l t.priority_at) c.put_number-2.ensures.put
    ∙ number_other first t.attempts_at t.target.default_attempts t.priority_at
    (omega (arith, room.attempts, c.requires.sized, c.put_number.ensures.same_length)) (flip t.attempts_at t.priority_at alone.own)
    ∙ c.put_number.ensures.reads in
    enabled_defaults b last target t c.requires.there at priority c.put_number-2.ensures.reads

pub returns-clause-others : goal.returns-clause-others
returns-clause-others c =
    let b = c.args.self.now in
    let table = c.args.table.now in
    let target = c.args.target in
    let t = c.index-bound.result.now in
    let at : t ≡ get_or b.targets target t = c.index-bound.ensures ∙ ap (λ (x : Binding). get_or x.targets target t) c.self.view_is in
    let is = subst IsBinding c.self.view_is c.self.invariant in
    let first = with_number table t.priority_at t.target.default_priority in
    subst (KeepsOthers b table)
    (sym (c.put_number-2.ensures.put ∙ ap (λ (l : List ℕ). with_number l t.attempts_at t.target.default_attempts) c.put_number.ensures.put))
    (attempts_keep b is table first c.requires.sized
    (priority_keeps b is table table c.requires.sized (keeps_none b table) target t t.target.default_priority c.requires.there at)
    target t t.target.default_attempts c.requires.there at)
