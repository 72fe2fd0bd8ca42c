use Rattle.std.proofs.Common.{List, ℕ, map, not, sym, ap, ◌∙◌, arith}
use Rattle.std.specs.List.{list_any}
use Rattle.std.specs.Str.{bytes_eq}
use Rattle.std.specs.String.{string_bytes}
use Rattle.std.proofs.lemmas.Grind.{common_steps}
use Rattle.bb_layout.specs.Ranges.{some_pair}
use Rattle.bb_chooser.proofs.Texts.{list_any-map, put_differ}
use Rattle.bb_chooser.proofs.names.Names.add.Goals as goal

pub invariant_of-self-2 : goal.invariant_of-self-2
invariant_of-self-2 c =
    ap (λ l. some_pair bytes_eq (map string_bytes l)) c.in_ok-added.ensures.keys
    ∙ put_differ c.self.inside.inner.keys c.in_ok-name.name c.self.invariant

pub returns-clause-added : goal.returns-clause-added
returns-clause-added c =
    let keys = c.self.inside.inner.keys in
    c.in_ok-added.ensures.added
    ∙ ap not (sym (list_any-map (bytes_eq (string_bytes c.in_ok-name.name)) string_bytes keys)
    ∙ ap (λ (n : List ℕ). list_any (bytes_eq n) (map string_bytes keys)) c.in_ok-name.ensures.ok
    ∙ ap (λ (l : List (List ℕ)). list_any (bytes_eq c.args.name.now) l) c.self.view_is)

pub returns-clause-differ : goal.returns-clause-differ
returns-clause-differ c =
    ap (λ l. some_pair bytes_eq (map string_bytes l)) c.in_ok-added.ensures.keys
    ∙ put_differ c.self.inside.inner.keys c.in_ok-name.name c.self.invariant

pub returns-clause-names : goal.returns-clause-names
returns-clause-names c = grind (arith, common_steps)
