use Rattle.std.proofs.Common.{◌≡◌, ℕ, List, sym, subst, ap, ◌∙◌}
use Rattle.bb_chooser.proofs.Counts.{resets_keep}
use Rattle.bb_chooser.proofs.Resetting.{first, reset_is, second}
use Rattle.bb_chooser.specs.Binding.{Binding, IsBinding}
use Rattle.bb_chooser.specs.Others.{KeepsOthers}
use Rattle.bb_chooser.specs.declared.bound_target.BoundTarget.{BoundTarget}
use Rattle.bb_chooser.proofs.chooser.Chooser.reset.Goals as goal

pub returns-clause-reset : goal.returns-clause-reset
returns-clause-reset c =
    let b = c.args.self.now in
    let r = c.resets-resets.result in
    let table = c.args.table.now in
    let targets : c.as_slice.result.now ≡ b.targets = c.as_slice.ensures.value ∙ ap (λ (x : Binding). x.targets) c.self.view_is in
    let targets' : c.as_slice-2.result.now ≡ b.targets = c.as_slice-2.ensures.value ∙ ap (λ (x : Binding). x.targets) c.self.view_is in
    c.reset_attempts.ensures.put ∙ ap (λ (ts : List BoundTarget). second r.attempts c.reset_priorities.new.table ts) targets'
    ∙ ap (λ (l : List ℕ). second r.attempts l b.targets) (c.reset_priorities.ensures.put ∙ ap (λ (ts : List BoundTarget). first r.priorities table ts) targets)
    ∙ reset_is b c.args.cause table r (subst IsBinding c.self.view_is c.self.invariant) c.requires c.resets-resets.ensures

pub returns-clause-others : goal.returns-clause-others
returns-clause-others c =
    let b = c.args.self.now in
    let r = c.resets-resets.result in
    let table = c.args.table.now in
    let targets : c.as_slice.result.now ≡ b.targets = c.as_slice.ensures.value ∙ ap (λ (x : Binding). x.targets) c.self.view_is in
    let targets' : c.as_slice-2.result.now ≡ b.targets = c.as_slice-2.ensures.value ∙ ap (λ (x : Binding). x.targets) c.self.view_is in
    let is : c.reset_attempts.new.table ≡ second r.attempts (first r.priorities table b.targets) b.targets =
    c.reset_attempts.ensures.put ∙ ap (λ (ts : List BoundTarget). second r.attempts c.reset_priorities.new.table ts) targets'
    ∙ ap (λ (l : List ℕ). second r.attempts l b.targets) (c.reset_priorities.ensures.put ∙ ap (λ (ts : List BoundTarget). first r.priorities table ts) targets) in
    subst (KeepsOthers b table) (sym is) (resets_keep b r.priorities r.attempts table (subst IsBinding c.self.view_is c.self.invariant) c.requires)
