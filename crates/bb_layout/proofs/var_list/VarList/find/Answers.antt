use Rattle.std.proofs.Common.{ap, ◌∙◌}
use Rattle.bb_layout.specs.VarNames.{place_of_var}
use Rattle.bb_tree.proofs.Changing.{lookup_entries}
use Rattle.bb_layout.proofs.var_list.VarList.find.Goals as goal

pub returns : goal.returns
returns c =
    let name = c.args.name.now in
    c.copied.ensures ∙ c.get.ensures.value ∙ lookup_entries name c.self.inside.places.entries ∙ c.self.invariant name
    ∙ ap (λ vars. place_of_var vars name) c.self.view_is
