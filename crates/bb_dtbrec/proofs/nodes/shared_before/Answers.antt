use Rattle.std.proofs.Common.{◌≡◌, ◌+◌, ◌-◌, ℕ, List, take, sym, ap, ◌∙◌, arith}
use Rattle.std.specs.List.{common_prefix_len}
use Rattle.std.specs.Str.{bytes_eq}
use Rattle.bb_layout.specs.Record.{grown_by}
use Rattle.bb_dtbrec.specs.Layouts.{field_for}
use Rattle.bb_dtbrec.proofs.Writing.{path_before}
use Rattle.bb_dtbrec.proofs.nodes.shared_before.Goals as goal

pub returns : goal.returns
returns c =
    let vars = c.args.vars.now in
    let place : ℕ = c.args.place in
    let some = c.if-place-eq0.false in
    let next : (place - 1) + 1 ≡ place = omega (arith, some) in
    c.shared_len.ensures
    ∙ ap (λ (p : List (List ℕ)). common_prefix_len bytes_eq p c.args.path.now)
    (sym (path_before vars (place - 1) c.in-Some.before.now (sym c.in-Some.ensures))
    ∙ ap (λ (n : ℕ). (grown_by field_for (take n vars)).path) next)
