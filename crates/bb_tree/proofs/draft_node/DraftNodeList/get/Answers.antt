use Rattle.std.proofs.Common.{◌≡◌, map, sym, ap, ◌∙◌, slice_get}
use Rattle.std.specs.Option.{option_map, option_copied}
use Rattle.std.proofs.lemmas.Option.{slice_get-map}
use Rattle.bb_tree.specs.DraftViews.{draft_of}
use Rattle.bb_tree.proofs.Nodes.{got}
use Rattle.bb_tree.proofs.Bodies.{drafts_of_out}
use Rattle.bb_tree.proofs.draft_node.DraftNodeList.get.Goals as goal

pub returns : goal.returns
returns c =
    let items = c.deref.result.now in
    let got : option_copied c.get.result ≡ slice_get items c.args.place = got items c.args.place c.get.result c.get.ensures.lookup.0 c.get.ensures.lookup.1 in
    ap (option_map draft_of) got ∙ sym (slice_get-map draft_of items c.args.place)
    ∙ ap (λ l. slice_get l c.args.place) (ap (map draft_of) c.deref.ensures.value ∙ sym (drafts_of_out c.args.self.now))
