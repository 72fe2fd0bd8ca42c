-- What it means for the nodes of variables that an open node ends, one is begun, and a property is
-- written.
use Rattle.std.proofs.Common.{◌≡◌, ◌≢◌, ℕ, zero, suc, ◌+◌, ◌<◌, ◌≤◌, List, [], ◌∷◌, ◌++◌, drop, take, length, map, replicate, refl, sym, ap, ◌∙◌, append_assoc, append-nil, arith, length-append}
use Rattle.std.proofs.lemmas.Grind.{flat_map-append}
use Rattle.std.proofs.lemmas.List.{replicate_more}
use Rattle.bb_tree.specs.Node.{Branch, forest}
use Rattle.bb_layout.specs.Record.{node_for, nodes_with_prop, put_prop, with_last}
use Rattle.bb_dtbrec.specs.declared.piece.Piece.{Piece}
use Rattle.bb_dtbrec.specs.Spine.{Open, begin_piece, end_piece, ends_in, marks, nodes_in, nodes_written, own_pieces, pieces_in, prop_written, props_written, put_in_last, value_offset}
use Rattle.bb_dtbrec.specs.Trees.{nodes_pieces, prop_pieces}
use Rattle.bb_dtbrec.proofs.GrownValues.{branches_forest, with_last_of}
use Rattle.bb_dtbrec.proofs.TreeShapes.{put_on}

-- ---- nodes beside one another

written_beside : (nodes others : List (Branch Piece)) →
    nodes_written (nodes ++ others) ≡ nodes_written nodes ++ nodes_written others
written_beside [] others = refl
written_beside (b ∷ nodes) others =
    let own : List Piece = props_written b.props in
    let below : List Piece = nodes_pieces (λ name. value_offset) b.nodes in
    let more : List Piece = nodes_written nodes in
    let last : List Piece = nodes_written others in
    ap (λ l. begin_piece b.name ∷ (own ++ (below ++ (end_piece ∷ l)))) (written_beside nodes others)
    ∙ ap (λ l. begin_piece b.name ∷ (own ++ l)) (sym (append_assoc below (end_piece ∷ more) last))
    ∙ ap (λ l. begin_piece b.name ∷ l) (sym (append_assoc own (below ++ (end_piece ∷ more)) last))

-- ---- nodes that end

-- the nodes when all but the first so many are ended
abbrev pub inner_at : ℕ → List Open → List (Branch Piece) → List (Branch Piece)
inner_at zero os inner = nodes_in os inner
inner_at (suc n) [] inner = inner
inner_at (suc n) (o ∷ os) inner = inner_at n os inner

pub nodes_ended : (n : ℕ) (os : List Open) (inner : List (Branch Piece)) →
    nodes_in (take n os) (inner_at n os inner) ≡ nodes_in os inner
nodes_ended zero os inner = refl
nodes_ended (suc n) [] inner = refl
nodes_ended (suc n) (o ∷ os) inner =
    ap
    (λ (ns : List (Branch Piece)).
    o.front ++ record { name = o.name; props = o.props; nodes = forest ns } ∷ [])
    (nodes_ended n os inner)

all_ended : (os : List Open) (inner : List (Branch Piece)) →
    pieces_in os inner ++ replicate (length os) end_piece ≡ nodes_written (nodes_in os inner)
all_ended [] inner = append-nil (nodes_written inner)
all_ended (o ∷ os) inner =
    let own : List Piece = own_pieces o in
    let below : List Piece = pieces_in os inner in
    let ends : List Piece = replicate (length os) end_piece in
    let whole : List Piece = nodes_written (nodes_in os inner) in
    let next : length os + 1 ≡ suc (length os) = omega arith in
    ap (λ n. (own ++ below) ++ replicate n end_piece) (sym next)
    ∙ ap (λ l. (own ++ below) ++ l) (sym (replicate_more (length os) end_piece))
    ∙ append_assoc own below (ends ++ end_piece ∷ [])
    ∙ ap (λ l. own ++ l)
    (sym (append_assoc below ends (end_piece ∷ []))
    ∙ ap (λ l. l ++ end_piece ∷ []) (all_ended os inner))
    ∙ append_assoc (nodes_written o.front) (begin_piece o.name ∷ props_written o.props)
    (whole ++ end_piece ∷ [])
    ∙ sym
    (written_beside o.front
    (record { name = o.name; props = o.props; nodes = forest (nodes_in os inner) } ∷ []))

pub pieces_ended : (n count : ℕ) (os : List Open) (inner : List (Branch Piece)) →
    count + n ≡ length os →
    pieces_in os inner ++ replicate count end_piece
    ≡ pieces_in (take n os) (inner_at n os inner)
pieces_ended zero count os inner e =
    let all : count ≡ length os = omega arith in
    ap (λ k. pieces_in os inner ++ replicate k end_piece) all ∙ all_ended os inner
pieces_ended (suc n) count [] inner e = absurd (omega arith)
pieces_ended (suc n) count (o ∷ os) inner e =
    append_assoc (own_pieces o) (pieces_in os inner) (replicate count end_piece)
    ∙ ap (λ l. own_pieces o ++ l) (pieces_ended n count os inner (omega arith))

pub ends_ended : (before n : ℕ) (os : List Open) →
    take n (ends_in before os) ≡ ends_in before (take n os)
ends_ended before zero os = refl
ends_ended before (suc n) [] = refl
ends_ended before (suc n) (o ∷ os) =
    ap (λ l. (before + length (own_pieces o)) ∷ l)
    (ends_ended (before + length (own_pieces o)) n os)

pub length_ends : (before : ℕ) (os : List Open) → length (ends_in before os) ≡ length os
length_ends before [] = refl
length_ends before (o ∷ os) = ap suc (length_ends (before + length (own_pieces o)) os)

-- ---- nodes that are begun

-- nodes of these names, each in the one before, the first after others
abbrev pub opens_for : List (Branch Piece) → List (List ℕ) → List Open
opens_for inner [] = []
opens_for inner (name ∷ names) =
    record { front = inner; name = name; props = [] } ∷ opens_for [] names

abbrev pub inner_after : List (Branch Piece) → List (List ℕ) → List (Branch Piece)
inner_after inner [] = inner
inner_after inner (name ∷ names) = []

nothing_after : (names : List (List ℕ)) → inner_after [] names ≡ []
nothing_after [] = refl
nothing_after (name ∷ names) = refl

pub pieces_begun : (os : List Open) (inner : List (Branch Piece)) (names : List (List ℕ)) →
    pieces_in os inner ++ map begin_piece names
    ≡ pieces_in (os ++ opens_for inner names) (inner_after inner names)
pieces_begun [] inner [] = append-nil (nodes_written inner)
pieces_begun [] inner (name ∷ names) =
    sym (append_assoc (nodes_written inner) (begin_piece name ∷ []) (map begin_piece names))
    ∙ ap (λ l. (nodes_written inner ++ (begin_piece name ∷ [])) ++ l)
    (pieces_begun [] [] names ∙ ap (pieces_in (opens_for [] names)) (nothing_after names))
pieces_begun (o ∷ os) inner names =
    append_assoc (own_pieces o) (pieces_in os inner) (map begin_piece names)
    ∙ ap (λ l. own_pieces o ++ l) (pieces_begun os inner names)

pub ends_begun : (before : ℕ) (os : List Open) (inner : List (Branch Piece))
    (names : List (List ℕ)) →
    ends_in before os ++ marks (before + length (pieces_in os inner)) names
    ≡ ends_in before (os ++ opens_for inner names)
ends_begun before [] inner [] = refl
ends_begun before [] inner (name ∷ names) =
    let own : List Piece = nodes_written inner ++ (begin_piece name ∷ []) in
    let here : (before + length (nodes_written inner)) + 1 ≡ before + length own =
    omega (arith, length-append (nodes_written inner) (begin_piece name ∷ [])) in
    let none : before + length own ≡ (before + length own) + 0 = omega arith in
    ap (λ n. n ∷ marks n names) here
    ∙ ap (λ n. (before + length own) ∷ marks n names) none
    ∙ ap (λ l. (before + length own) ∷ l) (ends_begun (before + length own) [] [] names)
ends_begun before (o ∷ os) inner names =
    let own : List Piece = own_pieces o in
    let below : List Piece = pieces_in os inner in
    let sum : before + length (own ++ below) ≡ (before + length own) + length below =
    omega (arith, length-append own below) in
    ap (λ n. (before + length own) ∷ (ends_in (before + length own) os ++ marks n names)) sum
    ∙ ap (λ l. (before + length own) ∷ l) (ends_begun (before + length own) os inner names)

pub length_opens : (inner : List (Branch Piece)) (names : List (List ℕ)) →
    length (opens_for inner names) ≡ length names
length_opens inner [] = refl
length_opens inner (name ∷ names) = ap suc (length_opens [] names)

-- ---- a property that is written

pub length_put : (prop : List ℕ × Piece) (os : List Open) →
    length (put_in_last prop os) ≡ length os
length_put prop [] = refl
length_put prop (o ∷ []) = refl
length_put prop (o ∷ p ∷ os) = ap suc (length_put prop (p ∷ os))

-- what is written up to the end of the last open node's properties
abbrev pub before_inner : List Open → List Piece
before_inner [] = []
before_inner (o ∷ os) = own_pieces o ++ before_inner os

pub pieces_before : (os : List Open) (inner : List (Branch Piece)) →
    pieces_in os inner ≡ before_inner os ++ nodes_written inner
pieces_before [] inner = refl
pieces_before (o ∷ os) inner =
    ap (λ l. own_pieces o ++ l) (pieces_before os inner)
    ∙ sym (append_assoc (own_pieces o) (before_inner os) (nodes_written inner))

own_with : (prop : List ℕ × Piece) (o : Open) →
    own_pieces (record { front = o.front; name = o.name; props = o.props ++ prop ∷ [] })
    ≡ own_pieces o ++ prop_written prop
own_with prop o =
    ap (λ l. nodes_written o.front ++ (begin_piece o.name ∷ l))
    (flat_map-append (prop_pieces (λ name. value_offset)) o.props (prop ∷ []))
    ∙ sym
    (append_assoc (nodes_written o.front) (begin_piece o.name ∷ props_written o.props)
    (prop_written prop))

pub pieces_put : (prop : List ℕ × Piece) (os : List Open) (inner : List (Branch Piece)) →
    0 < length os →
    before_inner os ++ (prop_written prop ++ nodes_written inner)
    ≡ pieces_in (put_in_last prop os) inner
pieces_put prop [] inner some = absurd (omega arith)
pieces_put prop (o ∷ []) inner some =
    let own : List Piece = own_pieces o in
    let field : List Piece = prop_written prop in
    ap (λ l. l ++ (field ++ nodes_written inner)) (append-nil own)
    ∙ sym (append_assoc own field (nodes_written inner))
    ∙ ap (λ l. l ++ nodes_written inner) (sym (own_with prop o))
pieces_put prop (o ∷ p ∷ os) inner some =
    append_assoc (own_pieces o) (before_inner (p ∷ os))
    (prop_written prop ++ nodes_written inner)
    ∙ ap (λ l. own_pieces o ++ l) (pieces_put prop (p ∷ os) inner (omega arith))

-- the last end moves after it
pub ends_put : (prop : List ℕ × Piece) (before : ℕ) (os : List Open) →
    with_last (λ n. n + 3) (ends_in before os) ≡ ends_in before (put_in_last prop os)
ends_put prop before [] = refl
ends_put prop before (o ∷ []) =
    let own : List Piece = own_pieces o in
    let three : length (prop_written prop) ≡ 3 = refl in
    let moved : (before + length own) + 3 ≡ before + length (own ++ prop_written prop) =
    omega (arith, length-append own (prop_written prop), three) in
    ap (λ n. n ∷ []) moved ∙ ap (λ l. (before + length l) ∷ []) (sym (own_with prop o))
ends_put prop before (o ∷ p ∷ os) =
    ap (λ l. (before + length (own_pieces o)) ∷ l)
    (ends_put prop (before + length (own_pieces o)) (p ∷ os))

-- where the last end is
abbrev last_or : ℕ → List ℕ → ℕ
last_or n [] = n
last_or n (m ∷ ms) = last_or m ms

last_of : (n : ℕ) (firsts : List ℕ) (at : ℕ) → last_or n (firsts ++ at ∷ []) ≡ at
last_of n [] at = refl
last_of n (m ∷ firsts) at = last_of m firsts at

last_end : (before : ℕ) (os : List Open) →
    last_or before (ends_in before os) ≡ before + length (before_inner os)
last_end before [] = omega arith
last_end before (o ∷ os) =
    let own : List Piece = own_pieces o in
    last_end (before + length own) os ∙ omega (arith, length-append own (before_inner os))

pub end_at : (os : List Open) (firsts : List ℕ) (at : ℕ) → ends_in 0 os ≡ firsts ++ at ∷ [] →
    length (before_inner os) ≡ at
end_at os firsts at e =
    let last : last_or 0 (ends_in 0 os) ≡ 0 + length (before_inner os) = last_end 0 os in
    let is : last_or 0 (ends_in 0 os) ≡ at = ap (last_or 0) e ∙ last_of 0 firsts at in
    omega (arith, last, is)

-- ---- the nodes

new_nodes : (inner : List (Branch Piece)) (name : List ℕ) (path : List (List ℕ))
    (prop : List ℕ × Piece) →
    inner ++ node_for name path prop ∷ []
    ≡ nodes_in (put_in_last prop (opens_for inner (name ∷ path))) []
new_nodes inner name [] prop = refl
new_nodes inner name (next ∷ path) prop =
    ap
    (λ (ns : List (Branch Piece)).
    inner ++ record { name = name; props = []; nodes = forest ns } ∷ [])
    (new_nodes [] next path prop)

-- where a path goes on in an open node
through : (o : Open) (n : ℕ) (name next : List ℕ) (path : List (List ℕ)) (prop : List ℕ × Piece)
    (below after : List (Branch Piece)) →
    nodes_with_prop n (next ∷ path) prop below ≡ after →
    nodes_with_prop (suc n) (name ∷ next ∷ path) prop
    (o.front ++ record { name = o.name; props = o.props; nodes = forest below } ∷ [])
    ≡ o.front ++ record { name = o.name; props = o.props; nodes = forest after } ∷ []
through o n name next path prop below after e =
    with_last_of (put_on n (next ∷ path) prop) o.front
    (record { name = o.name; props = o.props; nodes = forest below })
    ∙ ap
    (λ (ns : List (Branch Piece)).
    o.front ++ record { name = o.name; props = o.props; nodes = forest ns } ∷ [])
    (ap (nodes_with_prop n (next ∷ path) prop) (branches_forest below) ∙ e)

-- a property is put where a path leads through the open nodes and then through new ones
pub nodes_put : (os : List Open) (inner : List (Branch Piece)) (path : List (List ℕ))
    (prop : List ℕ × Piece) → path ≢ [] → length os ≤ length path →
    nodes_with_prop (length os) path prop (nodes_in os inner)
    ≡ nodes_in (put_in_last prop (os ++ opens_for inner (drop (length os) path)))
    (inner_after inner (drop (length os) path))
nodes_put [] inner [] prop led le = absurd (led refl)
nodes_put [] inner (name ∷ path) prop led le = new_nodes inner name path prop
nodes_put (o ∷ os) inner [] prop led le = absurd (led refl)
nodes_put (o ∷ []) inner (name ∷ []) prop led le =
    with_last_of (put_prop prop) o.front
    (record { name = o.name; props = o.props; nodes = forest inner })
nodes_put (o ∷ p ∷ os) inner (name ∷ []) prop led le = absurd (omega arith)
nodes_put (o ∷ []) inner (name ∷ next ∷ path) prop led le =
    through o 0 name next path prop inner
    (nodes_in (put_in_last prop (opens_for inner (next ∷ path))) [])
    (new_nodes inner next path prop)
nodes_put (o ∷ p ∷ os) inner (name ∷ next ∷ path) prop led le =
    let rest : List (List ℕ) = drop (length (p ∷ os)) (next ∷ path) in
    through o (length (p ∷ os)) name next path prop (nodes_in (p ∷ os) inner)
    (nodes_in (put_in_last prop ((p ∷ os) ++ opens_for inner rest)) (inner_after inner rest))
    (nodes_put (p ∷ os) inner (next ∷ path) prop (λ e. goes_on next path e) (omega arith))
  where
    goes_on : (name : List ℕ) (path : List (List ℕ)) → (name ∷ path) ≢ []
    goes_on name path e = absurd cc
