-- The walk in the pieces in which a descent goes through it: from a place on, as a function of the
-- nodes around.
use Rattle.std.specs.Prelude.{◌≡◌, ℕ, ◌+◌, List, [], ◌∷◌, map, Option, Some, None, Result, Ok, Err}
use Rattle.bb_tree.specs.Node.{Branch}
use Rattle.bb_tree.specs.NodeViews.{branch_of, prop_pair, branches_of}
use Rattle.bb_tree.specs.declared.prop.Prop.{Prop}
use Rattle.bb_tree.specs.declared.node.Node.{Node}
use Rattle.bb_tree.specs.declared.node.NodeList.{NodeList}
use Rattle.bb_fdt.specs.declared.input.Input.{Input}
use Rattle.bb_fdt.specs.declared.error.FdtError.{FdtError}
use Rattle.bb_fdt.specs.declared.error.FdtError.TheVariants as refusal
use Rattle.bb_fdt.specs.declared.token_kind.TokenKind.{TokenKind}
use Rattle.bb_fdt.specs.declared.token_kind.TokenKind.TheVariants.{BeginNode, EndNode, Property, End}
use Rattle.bb_fdt.specs.Tokens.{FoundToken}
use Rattle.bb_fdt.specs.Walk.{Open, Place, Inside, WalkResult, walk, does, walk_after, close_node, open_node, node_of_open, with_prop, child_name, prop_name}

-- a walk that is left open to the nodes around
abbrev pub Onward : Type 0
Onward = List Open → WalkResult

-- the walk over a text from a place on
unfoldable pub walk_from : List ℕ → ℕ → Place → List ℕ → Onward
walk_from strings end place text around = walk strings end 0 text place around

-- the walk that gives this refusal
unfoldable pub refusal_walk : FdtError → Onward
refusal_walk e around = Err e

-- the walk where a token was found
unfoldable pub walk_at_token : List ℕ → ℕ → Place → FoundToken → Onward
walk_at_token strings end place f =
    walk_after (does strings f.at place f.bytes f.name_at f.kind) (λ p. walk_from strings end p f.rest)

-- the walk where this is the first token, or the refusal in its place
abbrev pub walk_by_token : List ℕ → ℕ → Place → Result FoundToken FdtError → Onward
walk_by_token strings end place (Ok f) = walk_at_token strings end place f
walk_by_token strings end place (Err e) = refusal_walk e

-- a walk inside a node
unfoldable pub walk_inside : Open → Onward → Onward
walk_inside o walk around = walk (o ∷ around)

-- the walk where a node was closed
unfoldable pub walk_after_node : List ℕ → ℕ → Branch (List ℕ) → List ℕ → Onward
walk_after_node strings end branch rest =
    close_node branch (λ p. walk_from strings end p rest)

-- the walk where a node is opened inside another one
abbrev pub walk_into_node : List ℕ → ℕ → Open → List ℕ → Result (List ℕ) FdtError → Onward
walk_into_node strings end o rest (Ok name) =
    walk_inside o (walk_from strings end (Inside (open_node (o.level + 1) name)) rest)
walk_into_node strings end o rest (Err e) = refusal_walk e

-- the walk after a property
abbrev pub walk_after_prop :
    List ℕ → ℕ → Open → List ℕ → List ℕ → Result (List ℕ) FdtError → Onward
walk_after_prop strings end o value rest (Ok name) =
    walk_from strings end (Inside (with_prop o name value)) rest
walk_after_prop strings end o value rest (Err e) = refusal_walk e

-- the walk in a node where a token was found
abbrev pub item_walk_at_token : List ℕ → ℕ → Open → FoundToken → TokenKind → Onward
item_walk_at_token strings end o f BeginNode =
    walk_into_node strings end o f.rest (child_name f.at o.level f.bytes)
item_walk_at_token strings end o f Property =
    walk_after_prop strings end o f.bytes f.rest (prop_name f.at strings f.name_at)
item_walk_at_token strings end o f EndNode =
    walk_after_node strings end (node_of_open o) f.rest
item_walk_at_token strings end o f kind = refusal_walk (refusal.BadToken f.at)

abbrev pub item_walk_by_token : List ℕ → ℕ → Open → Result FoundToken FdtError → Onward
item_walk_by_token strings end o (Ok f) = item_walk_at_token strings end o f f.kind
item_walk_by_token strings end o (Err e) = refusal_walk e

-- the walk before the root where a token was found
abbrev pub root_walk_at_token : List ℕ → ℕ → FoundToken → TokenKind → WalkResult
root_walk_at_token strings end f BeginNode =
    walk_from strings end (Inside (open_node 1 [])) f.rest []
root_walk_at_token strings end f kind = Err (refusal.BadToken f.at)

abbrev pub root_walk_by_token : List ℕ → ℕ → Result FoundToken FdtError → WalkResult
root_walk_by_token strings end (Ok f) = root_walk_at_token strings end f f.kind
root_walk_by_token strings end (Err e) = Err e

-- the walk after the root where a token was found
abbrev pub end_walk_at_token : Branch (List ℕ) → FoundToken → TokenKind → WalkResult
end_walk_at_token root f End = Ok root
end_walk_at_token root f kind = Err (refusal.BadToken f.at)

abbrev pub end_walk_by_token : Branch (List ℕ) → Result FoundToken FdtError → WalkResult
end_walk_by_token root (Ok f) = end_walk_at_token root f f.kind
end_walk_by_token root (Err e) = Err e

-- a node of which so much was read
abbrev pub open_of : ℕ → List ℕ → List Prop → NodeList → Open
open_of level name props nodes = record {
  level = level;
  name = name;
  props = map prop_pair props;
  nodes = branches_of nodes;
}

-- what a refusal says something of, which is nothing where memory was refused
abbrev pub unless_memory : {A : Type 0} → FdtError → A → Option A
unless_memory refusal.NoMemory walk = None
unless_memory _ walk = Some walk

-- the refusal is that of a walk, unless memory was refused
abbrev pub RefusesWalk : Onward → FdtError → Type 0
RefusesWalk walk e = unless_memory e walk ≡ unless_memory e (refusal_walk e)

-- the same of anything that gives a refusal
abbrev pub RefusesResult : {A : Type 0} → Result A FdtError → FdtError → Type 0
RefusesResult result e = unless_memory e result ≡ unless_memory e (Err e)

-- the walk in the structure block from a place on, with what a reader is given
abbrev pub block_walk : Input → Place → List ℕ → Onward
block_walk input place text = walk_from input.strings.now input.end place text

-- the walk where a node was read
abbrev pub walk_after_node_read : Input → Node → List ℕ → Onward
walk_after_node_read input node rest =
    walk_after_node input.strings.now input.end (branch_of node) rest
