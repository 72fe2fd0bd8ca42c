-- The nodes of a record, one variable after another.
use Rattle.std.proofs.Common.{◌≡◌, ℕ, zero, suc, ◌+◌, ◌-◌, ◌<◌, ◌≤◌, List, [], ◌∷◌, ◌++◌, All, Some, true, false, drop, take, length, length-drop, get_or, map, slice_get, min, refl, sym, ap, subst, ◌∙◌, arith}
use Rattle.std.specs.List.{common_prefix_len}
use Rattle.std.specs.Str.{bytes_eq}
use Rattle.std.proofs.lemmas.List.{drop_more, map-append}
use Rattle.std.proofs.lemmas.List.Sums.{common_prefix_len-drop_no, common_prefix_len-drop_yes, common_prefix_len-le, fold_more}
use Rattle.std.proofs.lemmas.Option.{get_or_from_slice_get, slice_get_within}
use Rattle.bb_tree.proofs.Nodes.{branch_of_out, branches_of_out, past_all}
use Rattle.bb_tree.specs.NodeViews.{branch_of, branches_of, prop_pair}
use Rattle.bb_tree.specs.declared.node.Node.{Node as TreeNode}
use Rattle.bb_tree.specs.declared.node.NodeList.{NodeList as TreeNodes}
use Rattle.bb_tree.specs.declared.node.Node.TheViews.{out-Node, out-NodeList}
use Rattle.bb_tree.specs.Node.{Branch, bare, branches, forest}
use Rattle.bb_layout.specs.Ranges.{end_of}
use Rattle.bb_layout.specs.Record.{Grown, grown_of, node_for, nodes_with_prop, put_prop, value_of, with_last, with_var}
use Rattle.bb_layout.specs.Variables.{IsWellFormed}
use Rattle.bb_layout.specs.declared.var.Var.{Var}

abbrev Node : Type 0
Node = Branch (List ℕ)

abbrev Prop : Type 0
Prop = List ℕ × List ℕ

-- ---- nodes

with_last_of : {A : Type 0} (f : A → A) (xs : List A) (x : A) → with_last f (xs ++ x ∷ []) ≡ xs ++ f x ∷ []
with_last_of f [] x = refl
with_last_of f (y ∷ []) x = refl
with_last_of f (y ∷ z ∷ ys) x = ap (λ rest. y ∷ rest) (with_last_of f (z ∷ ys) x)

pub branches_forest : (bs : List Node) → branches (forest bs) ≡ bs
branches_forest [] = refl
branches_forest (b ∷ bs) = ap (λ rest. b ∷ rest) (branches_forest bs)

-- ---- paths

pub drop_at : {A : Type 0} (xs : List A) (i : ℕ) (x : A) → slice_get xs i ≡ Some x → drop i xs ≡ x ∷ drop (i + 1) xs
drop_at xs i x h = drop_more xs i x (slice_get_within xs i x h) ∙ ap (λ y. y ∷ drop (i + 1) xs) (get_or_from_slice_get xs i x x h)

-- what is left of a path of which nothing follows
ended : (path : List (List ℕ)) (depth : ℕ) → length path ≤ depth → drop depth path ≡ []
ended path depth h = past_all path depth h

-- a path goes on
goes_on : (path : List (List ℕ)) (depth : ℕ) → depth < length path → (next : List ℕ) × (drop depth path ≡ next ∷ drop (depth + 1) path)
goes_on path depth h = (_, drop_more path depth [] h)

-- ---- what two paths have in common

-- all names up to a place are the same
abbrev pub AreSameTo : ℕ → List (List ℕ) → List (List ℕ) → Type 0
AreSameTo i a b = common_prefix_len bytes_eq a b ≡ i + common_prefix_len bytes_eq (drop i a) (drop i b)

pub prefix_ends : (a b : List (List ℕ)) (i : ℕ) (x y : List ℕ) → slice_get a i ≡ Some x → slice_get b i ≡ Some y → bytes_eq x y ≡ false →
    AreSameTo i a b → i ≡ common_prefix_len bytes_eq a b
prefix_ends a b i x y h k differ so_far =
    let none : common_prefix_len bytes_eq (drop i a) (drop i b) ≡ 0 =
    common_prefix_len-drop_no bytes_eq a b i x y (slice_get_within a i x h) (slice_get_within b i y k) (names a b i x y h k ∙ differ) in
    omega (arith, none, so_far)
  where
    names : (a b : List (List ℕ)) (i : ℕ) (x y : List ℕ) → slice_get a i ≡ Some x → slice_get b i ≡ Some y → bytes_eq (get_or a i x) (get_or b i y) ≡ bytes_eq x y
    names a b i x y h k = ap (λ n. bytes_eq n (get_or b i y)) (get_or_from_slice_get a i x x h) ∙ ap (bytes_eq x) (get_or_from_slice_get b i y y k)

pub prefix_goes_on : (a b : List (List ℕ)) (i : ℕ) (x y : List ℕ) → slice_get a i ≡ Some x → slice_get b i ≡ Some y → bytes_eq x y ≡ true →
    AreSameTo i a b → AreSameTo (i + 1) a b
prefix_goes_on a b i x y h k same so_far =
    let more : common_prefix_len bytes_eq (drop i a) (drop i b) ≡ 1 + common_prefix_len bytes_eq (drop (i + 1) a) (drop (i + 1) b) =
    common_prefix_len-drop_yes bytes_eq a b i x y (slice_get_within a i x h) (slice_get_within b i y k) (names a b i x y h k ∙ same) in
    omega (arith, more, so_far)
  where
    names : (a b : List (List ℕ)) (i : ℕ) (x y : List ℕ) → slice_get a i ≡ Some x → slice_get b i ≡ Some y → bytes_eq (get_or a i x) (get_or b i y) ≡ bytes_eq x y
    names a b i x y h k = ap (λ n. bytes_eq n (get_or b i y)) (get_or_from_slice_get a i x x h) ∙ ap (bytes_eq x) (get_or_from_slice_get b i y y k)

pub prefix_whole : (a b : List (List ℕ)) (i : ℕ) → i ≡ min (length a) (length b) → AreSameTo i a b → i ≡ common_prefix_len bytes_eq a b
prefix_whole a b i is so_far =
    let most = common_prefix_len-le bytes_eq (drop i a) (drop i b) in
    let in_a : common_prefix_len bytes_eq (drop i a) (drop i b) ≤ length a - i = subst (λ n. common_prefix_len bytes_eq (drop i a) (drop i b) ≤ n) (length-drop i a) most.0 in
    let in_b : common_prefix_len bytes_eq (drop i a) (drop i b) ≤ length b - i = subst (λ n. common_prefix_len bytes_eq (drop i a) (drop i b) ≤ n) (length-drop i b) most.1 in
    grind (arith, in_a, in_b, is, so_far)

-- ---- a value more

pub node_last : (name : List ℕ) (path : List (List ℕ)) (depth : ℕ) (prop : Prop) → length path ≤ depth →
    node_for name (drop depth path) prop ≡ put_prop prop (bare name)
node_last name path depth prop h = ap (λ p. node_for name p prop) (ended path depth h)

pub node_more : (name : List ℕ) (path : List (List ℕ)) (depth : ℕ) (next : List ℕ) (prop : Prop) → slice_get path depth ≡ Some next →
    node_for name (drop depth path) prop ≡ record { name = name; props = []; nodes = forest (node_for next (drop (depth + 1) path) prop ∷ []) }
node_more name path depth next prop h = ap (λ p. node_for name p prop) (drop_at path depth next h)

pub put_none : (shared : ℕ) (path : List (List ℕ)) (depth : ℕ) (prop : Prop) (nodes : List Node) → length path ≤ depth →
    nodes_with_prop shared (drop depth path) prop nodes ≡ nodes
put_none zero path depth prop nodes h = ap (λ p. nodes_with_prop 0 p prop nodes) (ended path depth h)
put_none (suc shared) path depth prop nodes h = ap (λ p. nodes_with_prop (suc shared) p prop nodes) (ended path depth h)

pub put_new : (path : List (List ℕ)) (depth : ℕ) (name : List ℕ) (prop : Prop) (nodes : List Node) → slice_get path depth ≡ Some name →
    nodes_with_prop 0 (drop depth path) prop nodes ≡ nodes ++ node_for name (drop (depth + 1) path) prop ∷ []
put_new path depth name prop nodes h = ap (λ p. nodes_with_prop 0 p prop nodes) (drop_at path depth name h)

-- into no node
pub put_nothing : (shared : ℕ) (path : List (List ℕ)) (depth : ℕ) (name : List ℕ) (prop : Prop) → 0 < shared → slice_get path depth ≡ Some name →
    nodes_with_prop shared (drop depth path) prop [] ≡ []
put_nothing shared path depth name prop some h = ap (λ p. nodes_with_prop shared p prop []) (drop_at path depth name h) ∙ alone shared (drop (depth + 1) path) some
  where
    alone : (shared : ℕ) (path : List (List ℕ)) → 0 < shared → nodes_with_prop shared (name ∷ path) prop [] ≡ []
    alone zero path some = absurd (omega (arith, some))
    alone (suc shared) [] some = refl
    alone (suc shared) (next ∷ path) some = refl

-- at its last name
pub put_here : (shared : ℕ) (path : List (List ℕ)) (depth : ℕ) (name : List ℕ) (prop : Prop) (nodes : List Node) (last : Node) → 0 < shared →
    slice_get path depth ≡ Some name → length path ≡ depth + 1 →
    nodes_with_prop shared (drop depth path) prop (nodes ++ last ∷ []) ≡ nodes ++ put_prop prop last ∷ []
put_here zero path depth name prop nodes last some h k = absurd (omega (arith, some))
put_here (suc shared) path depth name prop nodes last some h k =
    ap (λ p. nodes_with_prop (suc shared) p prop (nodes ++ last ∷ [])) (drop_at path depth name h ∙ ap (λ p. name ∷ p) (ended path (depth + 1) (omega (arith, k))))
    ∙ with_last_of (put_prop prop) nodes last

-- the last node, with the value put into it where the path goes on
abbrev pub put_on : ℕ → List (List ℕ) → Prop → Node → Node
put_on shared path prop b = record { name = b.name; props = b.props; nodes = forest (nodes_with_prop shared path prop (branches b.nodes)) }

pub put_below : (shared : ℕ) (path : List (List ℕ)) (depth : ℕ) (name : List ℕ) (prop : Prop) (nodes : List Node) (last : Node) → 0 < shared →
    slice_get path depth ≡ Some name → depth + 1 < length path →
    nodes_with_prop shared (drop depth path) prop (nodes ++ last ∷ []) ≡ nodes ++ put_on (shared - 1) (drop (depth + 1) path) prop last ∷ []
put_below zero path depth name prop nodes last some h k = absurd (omega (arith, some))
put_below (suc shared) path depth name prop nodes last some h k =
    let on = goes_on path (depth + 1) k in
    let less : suc shared - 1 ≡ shared = omega arith in
    ap (λ p. nodes_with_prop (suc shared) p prop (nodes ++ last ∷ [])) (drop_at path depth name h ∙ ap (λ p. name ∷ p) on.1)
    ∙ with_last_of (put_on shared (on.0 ∷ drop (depth + 1 + 1) path) prop) nodes last
    ∙ ap (λ p. nodes ++ put_on shared p prop last ∷ []) (sym on.1)
    ∙ ap (λ s. nodes ++ put_on s (drop (depth + 1) path) prop last ∷ []) (sym less)

-- ---- nodes as the code has them

pub no_items : {A : Type 0} (xs : List A) → length xs ≡ 0 → xs ≡ []
no_items [] h = refl
no_items (x ∷ xs) h = absurd (omega (arith, h))

pub none_left : (nodes : TreeNodes) → length (out-NodeList nodes).inner.items ≡ 0 → branches_of nodes ≡ []
none_left nodes h = branches_of_out nodes ∙ ap (map branch_of) (no_items _ h)

pub without_last : (nodes : TreeNodes) (rest : List TreeNode) (last : TreeNode) → (out-NodeList nodes).inner.items ≡ rest ++ last ∷ [] →
    branches_of nodes ≡ map branch_of rest ++ branch_of last ∷ []
without_last nodes rest last h = branches_of_out nodes ∙ ap (map branch_of) h ∙ map-append branch_of rest (last ∷ [])

-- a node with other nodes in it
pub put_on_last : (shared : ℕ) (path : List (List ℕ)) (prop : Prop) (last : TreeNode) (nodes : List Node) → nodes ≡ nodes_with_prop shared path prop (branches_of (out-Node last).nodes) →
    record { name = (out-Node last).name; props = map prop_pair (out-Node last).props; nodes = forest nodes } ≡ put_on shared path prop (branch_of last)
put_on_last shared path prop last nodes h =
    ap (λ (bs : List Node). record { name = (out-Node last).name; props = map prop_pair (out-Node last).props; nodes = forest bs })
    (h ∙ ap (nodes_with_prop shared path prop) (sym (branches_forest (branches_of (out-Node last).nodes))))
    ∙ ap (put_on shared path prop) (sym (branch_of_out last))

-- ---- variables one after another

pub grown_more : (area : List ℕ) (vars : List Var) (i : ℕ) (v : Var) → slice_get vars i ≡ Some v →
    grown_of area (take (i + 1) vars) ≡ with_var (value_of area) (grown_of area (take i vars)) v
grown_more area vars i v h =
    fold_more (with_var (value_of area)) (record { path = []; nodes = [] }) vars i v (slice_get_within vars i v h)
    ∙ ap (with_var (value_of area) (grown_of area (take i vars))) (get_or_from_slice_get vars i v v h)

-- the path of the last one
pub path_before : (area : List ℕ) (vars : List Var) (i : ℕ) (v : Var) → slice_get vars i ≡ Some v → (grown_of area (take (i + 1) vars)).path ≡ v.path
path_before area vars i v h = ap (λ (g : Grown (List ℕ)). g.path) (grown_more area vars i v h)

pub formed_at : (vars : List Var) (i : ℕ) (v : Var) → All IsWellFormed vars → slice_get vars i ≡ Some v → IsWellFormed v
formed_at vars i v all h = subst IsWellFormed (get_or_from_slice_get vars i v v h) (all i v (slice_get_within vars i v h))

pub inside_at : (len : ℕ) (vars : List Var) (i : ℕ) (v : Var) → All (λ w. end_of w ≤ len) vars → slice_get vars i ≡ Some v → end_of v ≤ len
inside_at len vars i v all h = subst (λ (w : Var). end_of w ≤ len) (get_or_from_slice_get vars i v v h) (all i v (slice_get_within vars i v h))
