use Rattle.std.proofs.Common.{rules, ◌≡◌, List, ℕ, length, sym, ap, ◌∙◌, arith}
use Rattle.std.specs.Map.{lookup}
use Rattle.std.specs.Str.{bytes_eq}
use Rattle.std.specs.String.{string_bytes}
use Rattle.std.proofs.lemmas.Grind.{common_steps}
use Rattle.bb_tree.specs.Texts.{texts_in}
use Rattle.bb_layout.specs.VarNames.{place_of_var, with_place}
use Rattle.bb_layout.proofs.Places.{from_ok, places_push}
use Rattle.bb_layout.proofs.var_list.VarList.push.Goals as goal

pub invariant_of-self-else-is_err : goal.invariant_of-self-else-is_err
invariant_of-self-else-is_err c = λ name.
    let vars = c.self.inside.inner.items in
    let places = texts_in c.self.inside.places.entries in
    let ok = sym c.is_err.ensures.value ∙ c.if-is_err.false in
    let noted_is : texts_in c.note.new.places.entries ≡ with_place places (string_bytes c.in_ok-key.key) c.len-place.result =
    from_ok _ c.note.result ok c.note.ensures.ok in
    let key : string_bytes c.in_ok-key.key ≡ c.args.var.name = c.in_ok-key.ensures.ok ∙ c.as_str.ensures in
    let count : c.len-place.result ≡ length vars = search rules in
    ap (lookup (bytes_eq name)) (noted_is ∙ ap (λ (m : List ℕ). with_place places m c.len-place.result) key ∙ ap (with_place places c.args.var.name) count)
    ∙ places_push vars places c.args.var c.self.invariant name
    ∙ ap (λ vs. place_of_var vs name) (sym c.in_ok-push.ensures.items)

pub invariant_of-self-then-is_err : goal.invariant_of-self-then-is_err
invariant_of-self-then-is_err c = grind (arith, common_steps)

pub returns-then-is_err-clause-err : goal.returns-then-is_err-clause-err
returns-then-is_err-clause-err c = grind (arith, common_steps)
