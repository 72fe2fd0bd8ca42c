use Rattle.std.proofs.Common.{ap, ◌∙◌}
use Rattle.bb_tree.specs.Draft.{path_labelled}
use Rattle.bb_tree.proofs.Changing.{lookup_entries}
use Rattle.bb_tree.proofs.draft.Draft.by_label.Goals as goal

pub returns : goal.returns
returns c =
    let labels = c.self.inside.labels.entries in
    c.get.ensures.value ∙ lookup_entries c.args.label.now labels ∙ ap (λ d. path_labelled d.labels c.args.label.now) c.self.view_is
