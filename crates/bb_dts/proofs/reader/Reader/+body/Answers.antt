use Rattle.std.proofs.Common.{◌≡◌, ◌<◌, ◌+◌, ◌++◌, ◌∷◌, [], List, length, map, ap, ◌∙◌, arith}
use Rattle.std.proofs.lemmas.Grind.{common_steps}
use Rattle.std.specs.String.{string_bytes}
use Rattle.bb_tree.specs.declared.part.Part.{Part}
use Rattle.bb_tree.specs.DraftViews.{drafts_of}
use Rattle.bb_tree.specs.Node.{Branch, forest}
use Rattle.bb_tree.proofs.Counting.{count}
use Rattle.bb_dts.proofs.CountLemmas.{count-push}
use Rattle.bb_dts.specs.Descent.{labels_walk_from, OnwardLabels, OnwardValue, body_of, nodes_read, value_walk_from}
use Rattle.bb_dts.specs.Places.{Value}
use Rattle.bb_dts.specs.Tokens.{FoundToken}
use Rattle.bb_dts.specs.Walk.{Around, Body, state_at, body_at, label_all, node_of}
use Rattle.bb_dts.specs.Places.{Props}
use Rattle.bb_dts.proofs.BodyLemmas.{labels_refusal, value_refusal, none_waiting, item_step, item_unexpected, body_with_prop, walk_after_prop_at, named_step, slash_at_seam, node_read, node_refused, body_with_node, close_unexpected}
use Rattle.bb_dts.proofs.reader.Reader.+body.Goals as goal
use Rattle.bb_dts.proofs.reader.Reader.+body.Goals.{read_item-in_default-via-in-CloseBrace+else-is_empty, read_item-in_default-via-in_default}

pub read_item-returns-in_err-waiting-clause-refused : goal.read_item-returns-in_err-waiting-clause-refused
read_item-returns-in_err-waiting-clause-refused t c =
    let labels = c.args.self.now.draft.labels in
    let body = body_of (string_bytes c.args.self.now.path) c.args.level c.args.content.now in
    let refuses =
    labels_refusal c.in_err-waiting.field-0.0
    (labels_walk_from c.args.self.now.input.total c.items_at.result [] c.args.text.now) labels
    body c.in_err-waiting.ensures.refused in
    grind (arith, common_steps)

pub read_item-returns-in-CloseBrace-clause-ok : goal.read_item-returns-in-CloseBrace-clause-ok
read_item-returns-in-CloseBrace-clause-ok t c =
    let labels = c.args.self.now.draft.labels in
    let body = body_of (string_bytes c.args.self.now.path) c.args.level c.args.content.now in
    let reads = ap (λ (w : OnwardLabels). w labels body) c.in_ok-waiting.ensures.ok in
    let none = none_waiting c.in_ok-waiting.waiting.items (grind (arith, common_steps)) in
    let found =
    item_step c.args.self.now.input.total c.args.has_nodes c.in_ok-waiting.waiting.items
    (record {
      kind = c.in_ok-waiting.token.kind;
      word = c.in_ok-waiting.token.word.now;
      at = c.in_ok-waiting.token.at;
      rest = c.in_ok-waiting.token.rest.now;
    }) labels body in
    grind (arith, common_steps)

pub read_item-returns-in-Name-clause-ok : goal.read_item-returns-in-Name-clause-ok
read_item-returns-in-Name-clause-ok t c =
    let labels = c.args.self.now.draft.labels in
    let body = body_of (string_bytes c.args.self.now.path) c.args.level c.args.content.now in
    let reads = ap (λ (w : OnwardLabels). w labels body) c.in_ok-waiting.ensures.ok in
    grind (arith, common_steps, item_step)

pub read_item-returns-in-Name-clause-refused : goal.read_item-returns-in-Name-clause-refused
read_item-returns-in-Name-clause-refused t c =
    let labels = c.args.self.now.draft.labels in
    let body = body_of (string_bytes c.args.self.now.path) c.args.level c.args.content.now in
    let reads = ap (λ (w : OnwardLabels). w labels body) c.in_ok-waiting.ensures.ok in
    grind (arith, common_steps, item_step)

pub read_item-returns-clause-refused : goal.read_item-returns-clause-refused
read_item-returns-clause-refused t c =
    let labels = c.args.self.now.draft.labels in
    let body = body_of (string_bytes c.args.self.now.path) c.args.level c.args.content.now in
    let reads = ap (λ (w : OnwardLabels). w labels body) c.in_ok-waiting.ensures.ok in
    let found : FoundToken = record {
      kind = c.in_ok-waiting.token.kind;
      word = c.in_ok-waiting.token.word.now;
      at = c.in_ok-waiting.token.at;
      rest =
          c.in_ok-waiting.token.rest.now;
    } in
    let unexpected =
    item_unexpected c.args.self.now.input.total c.args.has_nodes c.in_ok-waiting.waiting.items
    labels body found c.in_ok-waiting.token.kind in
    let other = c.in_ok-waiting.ensures.other in
    elim c.in_default.branch [
      | read_item-in_default-via-in-CloseBrace+else-is_empty w ↦ let e =
          unexpected (λ n. cc) (λ l. other l) (λ k. grind (arith, common_steps)) in
          grind (arith, common_steps, item_step)
      | read_item-in_default-via-in_default w ↦ let e =
          unexpected (λ n. w.in_default.not-Name n) (λ l. other l)
          (λ k. absurd (w.in_default.not-CloseBrace k)) in grind (arith, common_steps, item_step)
    ]

pub read_named-returns-in_err-prop-in-Equals-clause-refused : goal.read_named-returns-in_err-prop-in-Equals-clause-refused
read_named-returns-in_err-prop-in-Equals-clause-refused t c =
    let labels = c.args.self.now.draft.labels in
    let body = body_of (string_bytes c.args.self.now.path) c.args.level c.args.content.now in
    let refuses =
    value_refusal c.in_err-prop-in-Equals.field-0.0
    (value_walk_from c.args.self.now.input.total Value
    (record { name = c.args.name.now; parts = []; bytes = [] }) c.in_ok-token.token.rest.now)
    (state_at Props labels body) c.in_err-prop-in-Equals.ensures.refused in
    grind (arith, common_steps, named_step)

pub read_named-returns-in_ok-push-in-Equals-clause-ok : goal.read_named-returns-in_ok-push-in-Equals-clause-ok
read_named-returns-in_ok-push-in-Equals-clause-ok t c =
    let labels = c.args.self.now.draft.labels in
    let body = body_of (string_bytes c.args.self.now.path) c.args.level c.args.content.now in
    let reads =
    ap (λ (w : OnwardValue). w (state_at Props labels body)) c.in_ok-prop-in-Equals.ensures.ok
    in
    let prop = c.in_ok-prop-in-Equals.prop in
    let joins =
    body_with_prop (string_bytes c.args.self.now.path) c.args.level c.args.content.now
    c.push.new.self prop c.in_ok-push-in-Equals.ensures.ok in
    let behind =
    walk_after_prop_at c.args.self.now.input.total prop.name prop.parts
    c.in_ok-prop-in-Equals.rest.now labels body in
    grind (arith, common_steps, named_step)

pub read_named-returns-in_ok-push-in-Semicolon-clause-ok : goal.read_named-returns-in_ok-push-in-Semicolon-clause-ok
read_named-returns-in_ok-push-in-Semicolon-clause-ok t c =
    let prop = c.in_ok-empty_prop-in-Semicolon.field-0 in
    let joins =
    body_with_prop (string_bytes c.args.self.now.path) c.args.level c.args.content.now
    c.push-in-Semicolon.new.self prop c.in_ok-push-in-Semicolon.ensures.ok in
    grind (arith, common_steps, named_step)

pub read_node-returns-in_err-child-clause-refused : goal.read_node-returns-in_err-child-clause-refused
read_node-returns-in_err-child-clause-refused t c =
    let a : Around =
    record {
      body = body_of (string_bytes c.args.self.now.path) c.args.level c.args.content.now;
      name = c.args.name.now;
    } in
    let known = label_all (string_bytes c.args.self.now.path
    ++ 47 ∷ c.args.name.now) c.args.waiting.now.items c.args.self.now.draft.labels in
    let child = body_at (string_bytes c.enter.new.self.path) (c.args.level + 1) in
    let refuses =
    node_refused c.enter.new.self.input.total a child c.args.at c.args.text.now known
    c.enter.new.self.draft.labels c.in_err-child.field-0.0 c.in_ok-enter.ensures.ok
    (omega arith) c.in_err-child.ensures.refused in
    grind (arith, common_steps)

pub read_node-leave-requires : goal.read_node-leave-requires
read_node-leave-requires t c =
    let seam = slash_at_seam (string_bytes c.args.self.now.path) c.args.name.now in
    grind (arith, common_steps)

pub read_node-returns-in_err-end-clause-refused : goal.read_node-returns-in_err-end-clause-refused
read_node-returns-in_err-end-clause-refused t c =
    let a : Around =
    record {
      body = body_of (string_bytes c.args.self.now.path) c.args.level c.args.content.now;
      name = c.args.name.now;
    } in
    let known = label_all (string_bytes c.args.self.now.path
    ++ 47 ∷ c.args.name.now) c.args.waiting.now.items c.args.self.now.draft.labels in
    let child = body_at (string_bytes c.enter.new.self.path) (c.args.level + 1) in
    let read =
    body_of (string_bytes c.enter.new.self.path) (c.args.level + 1) c.in_ok-child.child in
    let reads =
    node_read c.enter.new.self.input.total a child c.args.at c.args.text.now known
    c.enter.new.self.draft.labels c.read_body.new.self.draft.labels read c.in_ok-child.rest.now
    c.in_ok-enter.ensures.ok (omega arith) c.in_ok-child.ensures.ok in
    grind (arith, common_steps)

pub read_node-returns-in_default-clause-refused : goal.read_node-returns-in_default-clause-refused
read_node-returns-in_default-clause-refused t c =
    let a : Around =
    record {
      body = body_of (string_bytes c.args.self.now.path) c.args.level c.args.content.now;
      name = c.args.name.now;
    } in
    let known = label_all (string_bytes c.args.self.now.path
    ++ 47 ∷ c.args.name.now) c.args.waiting.now.items c.args.self.now.draft.labels in
    let child = body_at (string_bytes c.enter.new.self.path) (c.args.level + 1) in
    let read =
    body_of (string_bytes c.enter.new.self.path) (c.args.level + 1) c.in_ok-child.child in
    let reads =
    node_read c.enter.new.self.input.total a child c.args.at c.args.text.now known
    c.enter.new.self.draft.labels c.read_body.new.self.draft.labels read c.in_ok-child.rest.now
    c.in_ok-enter.ensures.ok (omega arith) c.in_ok-child.ensures.ok in
    let joined : Body = record (a.body) { nodes = a.body.nodes ++ node_of a.name read ∷ [] } in
    let found : FoundToken = record {
      kind = c.in_ok-end.end.kind;
      word = c.in_ok-end.end.word.now;
      at = c.in_ok-end.end.at;
      rest = c.in_ok-end.end.rest.now;
    } in
    let unexpected =
    close_unexpected c.enter.new.self.input.total c.read_body.new.self.draft.labels joined found
    c.in_ok-end.end.kind (λ k. c.in_default.not-Semicolon k) in
    grind (arith, common_steps)

pub read_node-returns-in-Semicolon-clause-ok : goal.read_node-returns-in-Semicolon-clause-ok
read_node-returns-in-Semicolon-clause-ok t c =
    let a : Around =
    record {
      body = body_of (string_bytes c.args.self.now.path) c.args.level c.args.content.now;
      name = c.args.name.now;
    } in
    let known = label_all (string_bytes c.args.self.now.path
    ++ 47 ∷ c.args.name.now) c.args.waiting.now.items c.args.self.now.draft.labels in
    let child = body_at (string_bytes c.enter.new.self.path) (c.args.level + 1) in
    let read =
    body_of (string_bytes c.enter.new.self.path) (c.args.level + 1) c.in_ok-child.child in
    let reads =
    node_read c.enter.new.self.input.total a child c.args.at c.args.text.now known
    c.enter.new.self.draft.labels c.read_body.new.self.draft.labels read c.in_ok-child.rest.now
    c.in_ok-enter.ensures.ok (omega arith) c.in_ok-child.ensures.ok in
    let joins =
    body_with_node (string_bytes c.args.self.now.path) c.args.level c.args.content.now
    c.add_node.new.self (node_of c.in_ok-name.name read) c.in_ok-add_node.ensures.nodes
    c.in_ok-add_node.ensures.props in
    grind (arith, common_steps)

pub read_node-returns-in-Semicolon-clause-counted : goal.read_node-returns-in-Semicolon-clause-counted
read_node-returns-in-Semicolon-clause-counted t c =
    let child : Branch (List Part) = record {
      name = c.in_ok-name.name;
      props = map (λ p. (p.name, p.parts)) c.in_ok-child.child.props;
      nodes =
          forest (drafts_of c.in_ok-child.child.nodes);
    } in
    let joined =
    ap (λ (nodes : List (Branch (List Part))). count (forest nodes))
    c.in_ok-add_node.ensures.nodes ∙ count-push (drafts_of c.args.content.now.nodes) child in
    let below : length c.in_ok-end.end.rest.now < length c.in_ok-child.rest.now =
    c.in_ok-end.ensures.shorter (λ k. cc) in
    let same : nodes_read c.add_node.new.self
    ≡ nodes_read c.args.content.now + (1 + nodes_read c.in_ok-child.child) = joined in
    omega (arith, same, below, c.in_ok-child.ensures.counted)
