use Rattle.std.proofs.Common.{◌≡◌, ℕ, ◌+◌, ◌≤◌, List, All, Some, ap, arith, length, refl, rules, slice_get, subst, sym, ◌∙◌}
use Rattle.std.proofs.lemmas.List.{take_all}
use Rattle.std.proofs.lemmas.Option.{slice_get_read}
use Rattle.bb_vars.specs.Table.{table_with}
use Rattle.bb_layout.specs.Defaults.{defaults_of}
use Rattle.bb_layout.specs.declared.var.Var.{Var}
use Rattle.bb_layout.proofs.Filling.{defaults_more, room_at}
use Rattle.bb_layout.proofs.defaults.fill_defaults.Goals as goal

pub loop-var-init : goal.loop-var-init
loop-var-init c = search (rules, defaults_more, room_at)

pub put_default-requires : goal.put_default-requires
put_default-requires c =
    let vars = c.as_slice-var-items.result.now in
    let var = c.var-item.result in
    let len = length c.args.out.now in
    let there : slice_get vars c.loop-var.var-index ≡ Some var =
    slice_get_read vars (length vars) c.loop-var.var-index var refl (omega arith) c.var-item.is in
    let room = subst (λ (vs : List Var). All (λ v. v.at + length v.default ≤ len) vs) (sym c.as_slice-var-items.ensures) c.requires in
    subst (λ (n : ℕ). var.at + length var.default ≤ n) (sym c.loop-var.invariant.1)
    (room_at len vars c.loop-var.var-index var room there)

pub loop-var-preserved : goal.loop-var-preserved
loop-var-preserved c =
    let vars = c.as_slice-var-items.result.now in
    let var = c.var-item.result in
    let there : slice_get vars c.loop-var.var-index ≡ Some var =
    slice_get_read vars (length vars) c.loop-var.var-index var refl (omega arith) c.var-item.is in (
      c.put_default.ensures.put
          ∙ ap (λ (area : List ℕ). table_with area var.at var.default) c.loop-var.invariant.0
          ∙ sym (defaults_more (length c.args.out.now) vars c.loop-var.var-index var there),
      c.put_default.ensures.same_length ∙ c.loop-var.invariant.1,
    )

pub returns : goal.returns
returns c =
    let vars = c.as_slice-var-items.result.now in
    c.loop-var.invariant.0
    ∙ ap (defaults_of (length c.args.out.now)) (take_all c.loop-var.var-index vars (omega arith) ∙ c.as_slice-var-items.ensures)
