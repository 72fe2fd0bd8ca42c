-- What a reader keeps, and the walks and ends from where it stands.
use Rattle.std.specs.Prelude.{◌≡◌, ℕ, ◌+◌, ◌≤◌, Bool, List, [], ◌∷◌, ◌++◌, Result}
use Rattle.std.specs.String.{string_bytes}
use Rattle.bb_tree.specs.Blob.{Devicetree}
use Rattle.bb_tree.specs.Draft.{Labels, names_another}
use Rattle.bb_dts.specs.declared.content.Content.{Content}
use Rattle.bb_dts.specs.declared.content.Item.{Item}
use Rattle.bb_dts.specs.declared.error.DtsError.{DtsError}
use Rattle.bb_dts.specs.declared.label.Level.{Level}
use Rattle.bb_dts.specs.declared.label.Level.TheVariants.{AtProps}
use Rattle.bb_dts.specs.declared.label.Waiting.{Waiting}
use Rattle.bb_dts.specs.declared.outermost.Next.{Next}
use Rattle.bb_dts.specs.declared.reader.Reader.{Reader}
use Rattle.bb_dts.specs.Descent.{Onward, body_of, nodes_read, items_at, labels_walk_from, name_walk_from, node_count, walk_after_body, walk_after_item, walk_into_node}
use Rattle.bb_dts.specs.Outermost.{outcome_after_step, outcome_at_body, outcome_at_token, outcome_from, outcome_from_labels, outcome_in_body, tree_of_draft}
use Rattle.bb_dts.specs.Places.{Address, TopClose}
use Rattle.bb_dts.specs.Tokens.{FoundToken}
use Rattle.bb_dts.specs.Walk.{Body, body_at, label_all, path_text, root, state_at}

-- only labels are added
pub record LabelsOnly (old new : Reader) : Type 0 where
  pub input : new.input ≡ old.input
  pub tree : new.draft.tree ≡ old.draft.tree
  pub reserved : new.draft.reserved ≡ old.draft.reserved
  pub path : string_bytes new.path ≡ string_bytes old.path

-- labels are added, and the path goes on by a name
pub record GoesInto (old new : Reader) (name : List ℕ) : Type 0 where
  pub input : new.input ≡ old.input
  pub tree : new.draft.tree ≡ old.draft.tree
  pub reserved : new.draft.reserved ≡ old.draft.reserved
  pub path : string_bytes new.path ≡ string_bytes old.path ++ 47 ∷ name

-- the path of the node whose body is read, as labels have it, and that of a node in it
abbrev pub node_path : Reader → List ℕ
node_path reader = path_text (string_bytes reader.path)

abbrev pub child_path : Reader → List ℕ → List ℕ
child_path reader name = string_bytes reader.path ++ 47 ∷ name

-- the labels with those that wait given to that node or to one in it
abbrev pub labels_of_node : Reader → List Waiting → Result Labels DtsError
labels_of_node reader waiting = label_all (string_bytes reader.path) waiting reader.draft.labels

abbrev pub labels_of_child : Reader → List Waiting → List ℕ → Result Labels DtsError
labels_of_child reader waiting name =
    label_all (child_path reader name) waiting reader.draft.labels

-- whether a label stands for another node than that one
abbrev pub names_other_node : Reader → List ℕ → Bool
names_other_node reader label = names_another reader.draft.labels label (node_path reader)

-- the body that is read, at its beginning and with what was read of it
abbrev pub new_body : Reader → ℕ → Body
new_body reader level = body_at (string_bytes reader.path) level

abbrev pub body_read : Reader → ℕ → Content → Body
body_read reader level content = body_of (string_bytes reader.path) level content

-- no more nodes were added than bytes were read
abbrev pub AddsFewNodes : Content → Content → ℕ → ℕ → Type 0
AddsFewNodes old new text_len rest_len = nodes_read new + rest_len ≤ nodes_read old + text_len

abbrev pub TreeAddsFewNodes : Reader → Reader → ℕ → ℕ → Type 0
TreeAddsFewNodes old new text_len rest_len =
    node_count new.draft.tree.nodes + rest_len ≤ node_count old.draft.tree.nodes + text_len

-- the walk in a body from its beginning on
abbrev pub body_walk : Reader → ℕ → List ℕ → Onward
body_walk reader level text =
    labels_walk_from reader.input.total AtProps [] text reader.draft.labels (new_body reader level)

-- the walk after a body that was read, with the labels that the reader has then
abbrev pub walk_after_body_read : Reader → Reader → ℕ → Content → List ℕ → Onward
walk_after_body_read old new level content rest =
    walk_after_body old.input.total new.draft.labels (body_read old level content) rest

-- the walk in a body from where an item may begin
abbrev pub items_walk : Reader → ℕ → Bool → Content → List ℕ → Onward
items_walk reader level has_nodes content text =
    labels_walk_from reader.input.total (items_at has_nodes) [] text
    reader.draft.labels (body_read reader level content)

-- the walk after an item that was read, with the labels that the reader has then
abbrev pub walk_after_item_read : Reader → Reader → ℕ → Content → Item → List ℕ → Onward
walk_after_item_read old new level content item rest =
    walk_after_item old.input.total item new.draft.labels (body_read old level content) rest

-- the walk after the name of an item
abbrev pub name_walk : Reader → ℕ → Bool → Content → List Waiting → List ℕ → List ℕ → Onward
name_walk reader level has_nodes content waiting name text =
    name_walk_from reader.input.total has_nodes waiting name text
    reader.draft.labels (body_read reader level content)

-- the walk after the `{` of a node in the body
abbrev pub node_walk : Reader → ℕ → Content → List Waiting → List ℕ → ℕ → List ℕ → Onward
node_walk reader level content waiting name at text =
    walk_into_node reader.input.total waiting name
    reader.draft.labels (body_read reader level content) at text

-- what a source comes to in the end from where labels may begin at the outermost level
abbrev pub source_end : Reader → Level → List ℕ → Result Devicetree DtsError
source_end reader level text =
    outcome_from_labels reader.input.total level reader.draft text

-- the same from a token after labels, after `/memreserve/`, before the `{` of a body and after
-- it
abbrev pub source_end_at_token : Reader → Level → List Waiting → FoundToken → Result Devicetree DtsError
source_end_at_token reader level waiting found =
    outcome_at_token reader.input.total level waiting found reader.draft

abbrev pub source_end_at_address : Reader → List ℕ → Result Devicetree DtsError
source_end_at_address reader text =
    outcome_from reader.input.total reader.draft.tree reader.draft.reserved
    (state_at Address reader.draft.labels root) text

abbrev pub source_end_at_body :
    Reader → ℕ → List Waiting → List ℕ → Result Devicetree DtsError
source_end_at_body reader level waiting text =
    outcome_at_body reader.input.total waiting (new_body reader level) reader.draft text

abbrev pub source_end_in_body : Reader → ℕ → ℕ → List ℕ → Result Devicetree DtsError
source_end_in_body reader level at text =
    outcome_in_body reader.input.total (new_body reader level) reader.draft at text

-- the same with what the reader has after that: from where labels may begin, after the `}` of a
-- body, from a step on, and at the end of the text
abbrev pub source_end_read : Reader → Reader → Level → List ℕ → Result Devicetree DtsError
source_end_read old new level rest = outcome_from_labels old.input.total level new.draft rest

abbrev pub source_end_after_body : Reader → Reader → List ℕ → Result Devicetree DtsError
source_end_after_body old new rest =
    outcome_from old.input.total new.draft.tree new.draft.reserved
    (state_at TopClose new.draft.labels root) rest

abbrev pub source_end_after_step : Reader → Reader → Next → Result Devicetree DtsError
source_end_after_step old new next = outcome_after_step old.input.total new.draft next

abbrev pub tree_read : Reader → Reader → Result Devicetree DtsError
tree_read old new = tree_of_draft old.input.total new.draft
