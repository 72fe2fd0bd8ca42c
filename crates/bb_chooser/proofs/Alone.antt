-- A chooser that was bound to a layout changes bytes of the layout's variables alone.
use Rattle.std.proofs.Common.{◌≡◌, ℕ, ◌<◌, ◌≤◌, ◌⊎◌, List, Ok, arith, get_or, inl, inr, map, subst, ap, ◌∙◌}
use Rattle.std.proofs.lemmas.Option.{get_or_from_slice_get, slice_get_within}
use Rattle.bb_layout.specs.Facts.{AreVars}
use Rattle.bb_layout.specs.Outside as outside
use Rattle.bb_layout.specs.Outside.{ChangesVarsAlone}
use Rattle.bb_layout.specs.Ranges.{end_of}
use Rattle.bb_layout.specs.Results.{all_ok}
use Rattle.bb_layout.specs.Variables.{IsWellFormed}
use Rattle.bb_layout.specs.declared.var.Var.{Var}
use Rattle.bb_vars.specs.Kind.{size_of}
use Rattle.bb_chooser.proofs.Bound.{IsBoundAt, IsFound, all_bound, all_from, found}
use Rattle.bb_chooser.proofs.Writing.{each_map}
use Rattle.bb_chooser.specs.Binding.{Binding, IsBoundTo, IsVarAt, binding, bound_of, last_chosen_name, uint32_at}
use Rattle.bb_chooser.specs.Others.{IsOutside, KeepsOthers}
use Rattle.bb_chooser.specs.declared.bound_target.BoundTarget.{BoundTarget}
use Rattle.bb_chooser.specs.declared.rules.Rules.{Rules}
use Rattle.bb_chooser.specs.declared.target.Target.{Target}

-- ---- what a bound chooser changes

outside_var : (vars : List Var) (at k : ℕ) → IsVarAt vars at → outside.IsOutside vars k → IsOutside at k
outside_var vars at k is out =
    let v = is.1 in
    let here : (k < v.at) ⊎ (end_of v ≤ k) = subst (λ (w : Var). (k < w.at) ⊎ (end_of w ≤ k)) is.3 (out is.0 v is.2) in
    let place = is.4.0 in
    let size = is.4.1 in
    elim here [
      | inl before ↦ inl (omega arith)
      | inr behind ↦ inr (omega arith)
    ]

pub keeps_changes : (vars : List Var) (b : Binding) (old new : List ℕ) → KeepsOthers b old new → IsBoundTo vars b → ChangesVarsAlone vars old new
keeps_changes vars b old new kept bound = record {
  same_length = kept.same_length;
  bytes = λ k out.
      kept.bytes k (outside_var vars b.last_chosen_at k bound.last_chosen out) (λ i t inside. (
        outside_var vars (get_or b.targets i t).attempts_at k (bound.attempts i t inside) out,
        outside_var vars (get_or b.targets i t).priority_at k (bound.priorities i t inside) out,
      ));
}

-- ---- what it is bound to

module _ (area_len : ℕ) (layout : List ℕ) (vars : List Var) (are : AreVars area_len vars) where
  found_var : (full : List ℕ) (at : ℕ) → IsFound layout vars full at → IsVarAt vars at
  found_var full at f =
      let v = f.var in
      let within = slice_get_within vars f.place v f.there in
      let is = get_or_from_slice_get vars f.place v v f.there in
      let formed : IsWellFormed v = subst IsWellFormed is (are.each f.place v within) in
      (f.place, v, within, is, (f.at_is, formed.size ∙ ap size_of f.kind))

  pub bound_to : (prefix : List ℕ) (rules : Rules) (targets : List Target) (ts : List BoundTarget) (last : ℕ)
      → all_ok (map (bound_of layout vars prefix) targets) ≡ Ok ts → uint32_at layout vars (last_chosen_name prefix) ≡ Ok last
      → IsBoundTo vars (binding ts rules last area_len)
  bound_to prefix rules targets ts last bound at =
      let each = (all_bound layout vars prefix targets ts bound).0 in
      record {
        last_chosen = found_var (last_chosen_name prefix) last (found layout vars (last_chosen_name prefix) last at);
        attempts =
            all_from (λ t. IsVarAt vars t.attempts_at) ts
            (each_map (IsBoundAt layout vars prefix) (λ t. IsVarAt vars t.attempts_at) ts (λ t is. found_var _ t.attempts_at is.attempts) each);
        priorities =
            all_from (λ t. IsVarAt vars t.priority_at) ts
            (each_map (IsBoundAt layout vars prefix) (λ t. IsVarAt vars t.priority_at) ts (λ t is. found_var _ t.priority_at is.priority) each);
      }
