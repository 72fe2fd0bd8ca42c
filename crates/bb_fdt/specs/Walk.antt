-- The structure block is walked token by token, to the tree or to the first refusal.
use Rattle.std.specs.Prelude.{ℕ, ◌+◌, ◌-◌, suc, zero, List, [], ◌∷◌, ◌++◌, length, nat_lt, not, ok_or, Option, Some, None, Result, Ok, Err, if◌then◌else◌}
use Rattle.bb_tree.specs.Depth.{depth_limit}
use Rattle.bb_tree.specs.Node.{Branch, forest}
use Rattle.bb_fdt.specs.declared.error.FdtError.{FdtError}
use Rattle.bb_fdt.specs.declared.error.FdtError.TheVariants.{BadToken, BadName, TooDeep}
use Rattle.bb_fdt.specs.declared.token_kind.TokenKind.{TokenKind}
use Rattle.bb_fdt.specs.declared.token_kind.TokenKind.TheVariants.{BeginNode, EndNode, Property, Nop, End}
use Rattle.bb_fdt.specs.Tokens.{Token, token_at, is_name, string_at}

-- a node that isn't closed yet. The root's level is 1
pub record Open : Type 0 where
  pub level : ℕ
  pub name : List ℕ
  pub props : List (List ℕ × List ℕ)
  pub nodes : List (Branch (List ℕ))

-- before the root, inside a node, or after the root
pub data Place : Type 0 where
  Before : Place
  Inside : Open → Place
  Behind : Branch (List ℕ) → Place

-- what a token does
pub data Step : Type 0 where
  Refuses : FdtError → Step
  Goes : Place → Step
  -- a node is opened inside this one
  Enters : Open → Open → Step
  -- the innermost node is closed
  Leaves : Branch (List ℕ) → Step
  -- the tree is whole
  Ends : Branch (List ℕ) → Step

-- a node of which nothing was read but its name, and one that was read whole
abbrev pub open_node : ℕ → List ℕ → Open
open_node level name = record { level = level; name = name; props = []; nodes = [] }

abbrev pub node_of_open : Open → Branch (List ℕ)
node_of_open o = record { name = o.name; props = o.props; nodes = forest o.nodes }

-- with one more property, and with one more node
abbrev pub with_prop : Open → List ℕ → List ℕ → Open
with_prop o name value = record o { props = o.props ++ (name, value) ∷ [] }

abbrev pub with_node : Open → Branch (List ℕ) → Open
with_node o branch = record o { nodes = o.nodes ++ branch ∷ [] }

-- the name of a node inside one of that level
abbrev pub child_name : ℕ → ℕ → List ℕ → Result (List ℕ) FdtError
child_name at level name =
    if not (is_name name) then Err (BadName at) else (
    if nat_lt level depth_limit then Ok name else Err (TooDeep at))

-- the step into a node of that name
abbrev pub child_step : Open → Result (List ℕ) FdtError → Step
child_step o (Ok name) = Enters o (open_node (o.level + 1) name)
child_step o (Err e) = Refuses e

-- the name of a property
abbrev pub prop_name : ℕ → List ℕ → ℕ → Result (List ℕ) FdtError
prop_name at strings name_at = ok_or (string_at strings name_at) (BadName at)

-- the step over a property of that name
abbrev pub prop_step : Open → List ℕ → Result (List ℕ) FdtError → Step
prop_step o value (Ok name) = Goes (Inside (with_prop o name value))
prop_step o value (Err e) = Refuses e

-- what a token does at a place. The root's name isn't looked at
abbrev pub does : List ℕ → ℕ → Place → List ℕ → ℕ → TokenKind → Step
does strings at place bytes name_at Nop = Goes place
does strings at Before bytes name_at BeginNode = Goes (Inside (open_node 1 []))
does strings at (Inside o) bytes name_at BeginNode = child_step o (child_name at o.level bytes)
does strings at (Inside o) bytes name_at Property = prop_step o bytes (prop_name at strings name_at)
does strings at (Inside o) bytes name_at EndNode = Leaves (node_of_open o)
does strings at (Behind root) bytes name_at End = Ends root
does strings at place bytes name_at kind = Refuses (BadToken at)

-- what a walk gives
abbrev pub WalkResult : Type 0
WalkResult = Result (Branch (List ℕ)) FdtError

-- where a node is closed: it joins the node around it, or it is the root
abbrev pub close_node : Branch (List ℕ) → (Place → List Open → WalkResult) → List Open → WalkResult
close_node branch on [] = on (Behind branch) []
close_node branch on (o ∷ around) = on (Inside (with_node o branch)) around

-- the walk after a step; `around` is the list of the nodes around the innermost one, from inside
abbrev pub walk_after : Step → (Place → List Open → WalkResult) → List Open → WalkResult
walk_after (Refuses e) on around = Err e
walk_after (Goes place) on around = on place around
walk_after (Enters o inner) on around = on (Inside inner) (o ∷ around)
walk_after (Leaves branch) on around = close_node branch on around
walk_after (Ends root) on around = Ok root

-- the walk over a token, or where none is
abbrev pub walk_over_token :
    List ℕ → ℕ → Place → Option Token → (ℕ → Place → List Open → WalkResult)
    → List Open → WalkResult
walk_over_token strings at place None on around = Err (BadToken at)
walk_over_token strings at place (Some t) on around =
    walk_after (does strings at place t.bytes t.name_at t.kind) (on t.behind) around

-- the walk over a text from a place on, where `strings` is the strings block. The text ends at the
-- offset `end`, and its first `skip` bytes belong to a token that was read
unfoldable pub walk : List ℕ → ℕ → ℕ → List ℕ → Place → List Open → WalkResult
walk strings end skip [] place around = Err (BadToken end)
walk strings end (suc skip) (b ∷ tail) place around = walk strings end skip tail place around
walk strings end zero (b ∷ tail) place around =
    walk_over_token strings (end - length (b ∷ tail)) place (token_at (b ∷ tail))
    (λ n. walk strings end n tail) around
