use Rattle.std.proofs.Common.{◌≡◌, List, ℕ, true, false, not, None, refl, sym, ap, ◌∙◌}
use Rattle.std.specs.Map.{lookup}
use Rattle.std.specs.Option.{is_some}
use Rattle.std.specs.Str.{bytes_eq}
use Rattle.std.specs.String.{string_bytes}
use Rattle.bb_tree.proofs.Changing.{lookup_entries, table_last}
use Rattle.bb_tree.specs.Texts.{texts_in}
use Rattle.bb_layout.proofs.Places.{noted-new, noted-old, not_there, there}
use Rattle.bb_layout.proofs.var_list.note.Goals as goal

pub returns-in_ok-insert-clause-ok : goal.returns-in_ok-insert-clause-ok
returns-in_ok-insert-clause-ok c =
    let entries = c.args.places.now.entries in
    let name = string_bytes c.args.name in
    let none : is_some c.get.result ≡ false = c.is_none.ensures ∙ ap not c.if-is_none.true in
    let absent : lookup (bytes_eq name) (texts_in entries) ≡ None =
    ap (λ (n : List ℕ). lookup (bytes_eq n) (texts_in entries)) (sym c.as_str.ensures.value) ∙ sym (c.get.ensures.value ∙ lookup_entries c.as_str.result.now entries) ∙ not_there c.get.result none in
    ap texts_in c.in_ok-insert.ensures.entries ∙ table_last entries c.args.name name c.args.place refl absent
    ∙ sym (noted-new (texts_in entries) name c.args.place absent)

pub returns-else-is_none-clause-ok : goal.returns-else-is_none-clause-ok
returns-else-is_none-clause-ok c =
    let entries = c.args.places.now.entries in
    let name = string_bytes c.args.name in
    let some : is_some c.get.result ≡ true = c.is_none.ensures ∙ ap not c.if-is_none.false in
    let present : is_some (lookup (bytes_eq name) (texts_in entries)) ≡ true =
    ap (λ (n : List ℕ). is_some (lookup (bytes_eq n) (texts_in entries))) (sym c.as_str.ensures.value)
    ∙ ap is_some (sym (c.get.ensures.value ∙ lookup_entries c.as_str.result.now entries)) ∙ there c.get.result some in
    sym (noted-old (texts_in entries) name c.args.place present)
