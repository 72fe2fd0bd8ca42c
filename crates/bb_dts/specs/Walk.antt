-- A source is walked token by token over the table of places. The walk gives the bodies of the
-- outermost level, each with the path of its node, the labels of the nodes, and the reserved pairs;
-- or the first refusal.
use Rattle.std.specs.Prelude.{ℕ, ◌+◌, ◌-◌, ◌^◌, suc, zero, ◌==◌, List, [], ◌∷◌, ◌++◌, length, take, codes, count_by, nat_lt, Option, Some, None, Result, Ok, Err, if◌then◌else◌}
use Rattle.std.specs.Int.{to_be_bytes, w32}
use Rattle.std.specs.Option.{option_map_or}
use Rattle.std.specs.Str.{bytes_eq}
use Rattle.bb_tree.specs.declared.part.Part.{Part}
use Rattle.bb_tree.specs.declared.part.Part.TheVariants as part
use Rattle.bb_tree.specs.Depth.{depth_limit}
use Rattle.bb_tree.specs.Draft.{Labels, with_label, names_another, path_labelled}
use Rattle.bb_tree.specs.Node.{Branch, forest}
use Rattle.bb_dts.specs.declared.error.DtsError.{DtsError}
use Rattle.bb_dts.specs.declared.error.DtsError.TheVariants as refusal
use Rattle.bb_dts.specs.declared.token_kind.TokenKind.{TokenKind}
use Rattle.bb_dts.specs.declared.token_kind.TokenKind.TheVariants.{Memreserve, Slash, OpenBrace, CloseBrace, Semicolon, Equals, Quoted, Reference, Label, Name, Number, Byte, End}
use Rattle.bb_dts.specs.declared.token_kind.Lexed.{Lexed}
use Rattle.bb_dts.specs.declared.token_kind.Lexed.TheVariants.{Blank, Token, BadToken, LeftOut}
use Rattle.bb_dts.specs.declared.label.Waiting.{Waiting}
use Rattle.bb_dts.specs.declared.property.Property.{Property}
use Rattle.bb_dts.specs.Numbers.{number_value, value_in_radix}
use Rattle.bb_dts.specs.Strings.{byte_of, quoted_bytes}
use Rattle.bb_dts.specs.Tokens.{token_at, word_of}
use Rattle.bb_dts.specs.Places.{Place, Start, Address, Length, Open, Props, PropName, Value, Cells, Bytes, After, Close, TopClose, follows, mode_of}

-- a body so far. The root's path is empty here, and the path of any other node is its parent's, a
-- `/` and its name. The root's level is 1
pub record Body : Type 0 where
  pub path : List ℕ
  pub level : ℕ
  pub props : List (List ℕ × List Part)
  pub nodes : List (Branch (List Part))

-- a body around another one, and the name of its node that has the other one
pub record Around : Type 0 where
  pub body : Body
  pub name : List ℕ

-- the place, the labels so far, those that wait for the `{` of their node, the address of the
-- reserve that is read, the name read last with its value (the parts up to the last reference, and
-- the bytes after that), and the innermost body
pub record WalkState : Type 0 where
  pub place : Place
  pub labels : Labels
  pub waiting : List Waiting
  pub address : ℕ
  pub named : Property
  pub body : Body

-- what a source has: its bodies, each with the path of its node, the labels and the reserved pairs
pub record Source : Type 0 where
  pub bodies : List (List ℕ × Branch (List Part))
  pub labels : Labels
  pub reserved : List (ℕ × ℕ)

-- what a token does to the walk
pub data Step : Type 0 where
  Refuses : DtsError → Step
  Goes : WalkState → Step
  -- a pair is reserved
  Reserves : ℕ → ℕ → WalkState → Step
  -- a body is opened inside this one
  Enters : Around → WalkState → Step
  -- the innermost body is closed
  Leaves : Labels → Body → Step
  -- the text ends well
  Ends : Labels → Step

-- a property without a value so far, and one that has no name yet
abbrev pub property_of_name : List ℕ → Property
property_of_name name = record { name = name; parts = []; bytes = [] }

abbrev pub no_name : Property
no_name = property_of_name []

-- the body of a node with nothing in it, and that of the root
abbrev pub body_at : List ℕ → ℕ → Body
body_at path level = record { path = path; level = level; props = []; nodes = [] }

abbrev pub root : Body
root = body_at [] 1

-- at a place in a body, where no label waits and no name was read
abbrev pub state_at : Place → Labels → Body → WalkState
state_at place labels body = record {
  place = place;
  labels = labels;
  waiting = [];
  address = 0;
  named = no_name;
  body = body;
}

-- the bytes are joined to the value
abbrev pub with_joined_bytes : Property → List ℕ → Property
with_joined_bytes named more = record named { bytes = named.bytes ++ more }

-- a reference is joined to the value
abbrev pub with_part : Property → Part → Property
with_part named reference =
    record named { parts = named.parts ++ part.Bytes named.bytes ∷ reference ∷ []; bytes = [] }

-- the whole value
abbrev pub joined_parts : Property → List Part
joined_parts named = named.parts ++ part.Bytes named.bytes ∷ []

-- a number below a limit, or the refusal
abbrev pub number_below : ℕ → List ℕ → ℕ → Result ℕ DtsError
number_below limit word at =
    option_map_or (λ n. if nat_lt n limit then Ok n else Err (refusal.NumberTooLarge at))
    (number_value word) (Err (refusal.BadToken at))

-- two hexadecimal digits
abbrev pub byte_value : List ℕ → ℕ → Result ℕ DtsError
byte_value word at =
    option_map_or (λ n. Ok n) (byte_of (value_in_radix 16 word)) (Err (refusal.BadToken at))

-- the bytes of a number are joined to the value
abbrev pub with_joined_number : Property → (ℕ → List ℕ) → Result ℕ DtsError → Result Property DtsError
with_joined_number named bytes (Ok n) = Ok (with_joined_bytes named (bytes n))
with_joined_number named bytes (Err e) = Err e

-- a reference in a value. A property named `phandle` has none
abbrev pub with_reference : Property → Part → ℕ → Result Property DtsError
with_reference named reference at =
    if bytes_eq named.name (codes "phandle")
    then Err (refusal.Unexpected at)
    else Ok (with_part named reference)

-- what a token does to a value
abbrev pub value_step : Place → TokenKind → List ℕ → ℕ → Property → Result Property DtsError
value_step Value Quoted word at named = Ok (with_joined_bytes named (quoted_bytes 0 word ++ 0 ∷ []))
value_step Value Reference word at named = with_reference named (part.Path word at) at
value_step Cells Reference word at named = with_reference named (part.Cell word at) at
value_step Cells Number word at named =
    with_joined_number named (λ n. to_be_bytes w32 n) (number_below (2 ^ 32) word at)
value_step Bytes Byte word at named = with_joined_number named (λ byte. byte ∷ []) (byte_value word at)
value_step _ _ word at named = Ok named

-- the walk goes on with the changed value, or is refused
abbrev pub with_next_value : WalkState → Result Property DtsError → Step
with_next_value s (Ok named) = Goes (record s { named = named })
with_next_value s (Err e) = Refuses e

-- the property that was named, with the value, joins the body
abbrev pub with_prop : WalkState → List Part → WalkState
with_prop s value =
    let body = record (s.body) { props = s.body.props ++ (s.named.name, value) ∷ [] } in
    record s { waiting = []; named = no_name; body = body }

-- the text of a node's path
abbrev pub path_text : List ℕ → List ℕ
path_text [] = codes "/"
path_text (c ∷ cs) = c ∷ cs

-- a path's text as a body has it
abbrev pub stem_of : List ℕ → List ℕ
stem_of path = if bytes_eq path (codes "/") then [] else path

-- the level of the node at a path
abbrev pub level_of : List ℕ → ℕ
level_of path = 1 + count_by (λ c. c == 47) path

-- the labels with those that waited for the node at this path, or the first of them that names
-- another node
abbrev pub label_all : List ℕ → List Waiting → Labels → Result Labels DtsError
label_all path [] labels = Ok labels
label_all path (w ∷ ws) labels =
    if names_another labels w.name (path_text path)
    then Err (refusal.DuplicateLabel w.at)
    else label_all path ws (with_label labels w.name (path_text path))

-- a `{` opens a body
abbrev pub open_body : Body → ℕ → (WalkState → Step) → Result Labels DtsError → Step
open_body body at go (Err e) = Refuses e
open_body body at go (Ok labels) =
    if nat_lt depth_limit body.level
    then Refuses (refusal.TooDeep at)
    else go (state_at Props labels body)

-- the body of the node that was named, inside another one
abbrev pub child_of : WalkState → Body
child_of s = body_at (s.body.path ++ 47 ∷ s.named.name) (s.body.level + 1)

-- a reference at the outermost level
abbrev pub reference_step : WalkState → ℕ → Option (List ℕ) → Step
reference_step s at None = Refuses (refusal.NoSuchLabel at)
reference_step s at (Some path) =
    Goes (record s { body = body_at (stem_of path) (level_of (stem_of path)) })

-- a number of a reserve
abbrev pub reserve_step : Result ℕ DtsError → (ℕ → Step) → Step
reserve_step (Ok n) go = go n
reserve_step (Err e) go = Refuses e

-- what a token does at a place that has it; the state has the place after it already
abbrev pub does : Place → TokenKind → List ℕ → ℕ → WalkState → Step
does Address Number word at s =
    reserve_step (number_below (2 ^ 64) word at) (λ n. Goes (record s { address = n }))
does Length Number word at s =
    reserve_step (number_below (2 ^ 64) word at)
    (λ n. Reserves s.address n (record s { address = 0 }))
does Value kind word at s = with_next_value s (value_step Value kind word at s.named)
does Cells kind word at s = with_next_value s (value_step Cells kind word at s.named)
does Bytes kind word at s = with_next_value s (value_step Bytes kind word at s.named)
does After Semicolon word at s = Goes (with_prop s (joined_parts s.named))
does PropName Semicolon word at s = Goes (with_prop s [])
does PropName Equals word at s = Goes (record s { waiting = [] })
does Open OpenBrace word at s =
    open_body s.body at Goes (label_all s.body.path s.waiting s.labels)
does _ OpenBrace word at s =
    open_body (child_of s) at (Enters (record { body = s.body; name = s.named.name }))
    (label_all (child_of s).path s.waiting s.labels)
does _ CloseBrace word at s = Leaves s.labels s.body
does _ Label word at s =
    Goes (record s { waiting = s.waiting ++ record { name = word; at = at } ∷ [] })
does _ Memreserve word at s = Goes (record s { waiting = [] })
does _ Slash word at s = Goes (record s { body = root })
does _ Reference word at s = reference_step s at (path_labelled s.labels word)
does _ Name word at s = Goes (record s { named = property_of_name word })
does _ End word at s = Ends s.labels
does _ _ word at s = Goes s

-- what a token does that leads to this place, or it may not come
abbrev pub step_to : Place → TokenKind → List ℕ → ℕ → WalkState → Option Place → Step
step_to place kind word at s None = Refuses (refusal.Unexpected at)
step_to place kind word at s (Some next) =
    does place kind word at (record s { place = next })

-- what a token does at the state's place
abbrev pub step : WalkState → TokenKind → List ℕ → ℕ → Step
step s kind word at = step_to s.place kind word at s (follows s.place kind)

-- what a walk gives
abbrev pub WalkResult : Type 0
WalkResult = Result Source DtsError

-- the same with one more body and with one more pair before the others
abbrev pub with_body : List ℕ → Branch (List Part) → WalkResult → WalkResult
with_body path body (Ok s) = Ok (record s { bodies = (path, body) ∷ s.bodies })
with_body path body (Err e) = Err e

abbrev pub with_pair : ℕ → ℕ → WalkResult → WalkResult
with_pair address length (Ok s) =
    Ok (record s { reserved = (address, length) ∷ s.reserved })
with_pair address length (Err e) = Err e

-- a body as a node. The name of a node at the outermost level isn't looked at
abbrev pub node_of : List ℕ → Body → Branch (List Part)
node_of name b = record { name = name; props = b.props; nodes = forest b.nodes }

-- a body with one more node, which has this body and the name that it was given
abbrev pub with_child : Around → Body → Body
with_child a body = record (a.body) { nodes = a.body.nodes ++ node_of a.name body ∷ [] }

-- where a body is closed: the node joins the body around it, or the body is one of the source's
abbrev pub close_body :
    Labels → Body → (WalkState → List Around → WalkResult) → List Around → WalkResult
close_body labels body on [] =
    with_body (path_text body.path) (node_of [] body) (on (state_at TopClose labels root) [])
close_body labels body on (a ∷ around) = on (state_at Close labels (with_child a body)) around

-- the walk after a step; `around` is the list of the bodies around the innermost one, from inside
abbrev pub walk_after : Step → (WalkState → List Around → WalkResult) → List Around → WalkResult
walk_after (Refuses e) on around = Err e
walk_after (Goes s) on around = on s around
walk_after (Reserves address length s) on around = with_pair address length (on s around)
walk_after (Enters a s) on around = on s (a ∷ around)
walk_after (Leaves labels body) on around = close_body labels body on around
walk_after (Ends labels) on around = Ok (record { bodies = []; labels = labels; reserved = [] })

-- what begins at an offset, with its first character
abbrev pub begins :
    WalkState → ℕ → ℕ → List ℕ → Lexed → (ℕ → WalkState → List Around → WalkResult)
    → List Around → WalkResult
begins s at c tail (Blank n) on around = on n s around
begins s at c tail (Token kind n) on around =
    walk_after (step s kind (word_of kind (c ∷ take n tail)) at) (on n) around
begins s at c tail BadToken on around = Err (refusal.BadToken at)
begins s at c tail LeftOut on around = Err (refusal.LeftOut at)

-- the walk over a text from a state on. The text is the end of one of `total` bytes, and its first
-- `skip` bytes belong to a token that is read
unfoldable pub walk : ℕ → ℕ → List ℕ → WalkState → List Around → WalkResult
walk total skip [] s around =
    walk_after (step s End [] total)
    (λ _ _. Ok (record { bodies = []; labels = []; reserved = [] })) around
walk total (suc skip) (c ∷ tail) s around = walk total skip tail s around
walk total zero (c ∷ tail) s around =
    begins s (total - length (c ∷ tail)) c tail (token_at (mode_of s.place) (c ∷ tail))
    (λ n. walk total n tail) around

-- before the text
abbrev pub start : WalkState
start = state_at Start [] root

-- what a text has as a source, or the first refusal
-- the walk over a whole text
abbrev pub walk_of : List ℕ → WalkResult
walk_of text = walk (length text) 0 text start []
