use Rattle.std.proofs.Common.{[], List, map, ap, arith}
use Rattle.std.proofs.lemmas.Grind.{common_steps}
use Rattle.std.specs.String.{string_bytes}
use Rattle.bb_tree.specs.declared.part.Part.{Part}
use Rattle.bb_tree.specs.Draft.{DraftValue}
use Rattle.bb_tree.specs.DraftViews.{drafts_of}
use Rattle.bb_tree.specs.Node.{Branch, forest}
use Rattle.bb_dts.proofs.CountLemmas.{count-merged}
use Rattle.bb_dts.specs.declared.label.Level.TheVariants.{AtProps}
use Rattle.bb_dts.specs.Descent.{labels_walk_from, node_count}
use Rattle.bb_dts.specs.Walk.{body_at, path_text}
use Rattle.bb_dts.proofs.OuterLemmas.{outcome_refusal}
use Rattle.bb_dts.proofs.reader.Reader.read_top_body.Goals as goal

pub returns-in_err-content-clause-refused : goal.returns-in_err-content-clause-refused
returns-in_err-content-clause-refused c =
    let draft = c.args.self.now.draft in
    let total = c.args.self.now.input.total in
    let refuses =
    outcome_refusal total draft.tree draft.reserved c.in_err-content.field-0.0
    (labels_walk_from total AtProps [] c.args.text.now draft.labels
    (body_at (string_bytes c.args.self.now.path) c.args.level)) c.in_err-content.ensures.refused
    in
    grind (arith, common_steps)

pub returns-clause-counted : goal.returns-clause-counted
returns-clause-counted c =
    let draft = c.read_body.new.self.draft in
    let path = path_text (string_bytes c.read_body.new.self.path) in
    let body : Branch (List Part) = record {
      name = [];
      props = map (λ p. (p.name, p.parts)) c.in_ok-content.content.props;
      nodes =
          forest (drafts_of c.in_ok-content.content.nodes);
    } in
    let few = count-merged draft.tree path body in
    let same = ap (λ (d : DraftValue). node_count d.tree.nodes) c.in_ok-merge.ensures.draft in
    let kept =
    ap (λ (tree : Branch (List Part)). node_count tree.nodes) c.in_ok-content.ensures.kept.tree
    in
    omega (arith, few, same, kept, c.in_ok-content.ensures.counted)
