-- What the values of finished nodes are.
use Rattle.std.proofs.Common.{◌≡◌, ℕ, zero, suc, ◌+◌, ◌<◌, ◌≤◌, [], ◌∷◌, ◌++◌, Bool, inl, inr, refl, arith, List, map, drop, cond, Option, Some, None, Bor, ltb, length, get_or, slice_get, sym, ap, ◌∙◌, IfSome, Result, Ok, Err, IsErrAnd}
use Rattle.std.specs.Option.{is_some, option_copied, option_and_then}
use Rattle.std.specs.Map.{lookup}
use Rattle.std.specs.Str.{bytes_eq}
use Rattle.std.proofs.lemmas.List.{drop_more}
use Rattle.bb_tree.specs.Paths.{child_of, prop_of, node_at}
use Rattle.bb_tree.proofs.Merging.{node_at-append}
use Rattle.std.proofs.lemmas.Bool.{ltb-true, ltb-false, cases_Bool}
use Rattle.std.specs.List.{find}
use Rattle.std.proofs.lemmas.Option.{slice_get_past, slice_get-get_or}
use Rattle.bb_tree.specs.declared.prop.Prop.{Prop}
use Rattle.bb_tree.specs.declared.node.Node.{Node}
use Rattle.bb_tree.specs.declared.node.NodeList.{NodeList}
use Rattle.bb_tree.specs.declared.node.Node.TheViews.{out-Node, out-NodeList}
use Rattle.bb_tree.specs.declared.node.Node.TheFolds.{fold_out-Node, fold_out-NodeList}
use Rattle.bb_tree.specs.NodeViews.{branch_of, branches_of, seen_node, seen_nodes}
use Rattle.bb_tree.specs.Node.{Branch, forest, preorder, preorder_of}

pub branches_of_out : (l : NodeList) → branches_of l ≡ map branch_of (out-NodeList l).inner.items
branches_of_out l = fold_out-NodeList (Branch (List ℕ)) (List (Branch (List ℕ))) seen_node seen_nodes l

abbrev pub pair : Prop → List ℕ × List ℕ
pair p = (p.name, p.value)

pub branch_of_out : (n : Node) → branch_of n ≡ record { name = (out-Node n).name; props = map pair (out-Node n).props; nodes = forest (branches_of (out-Node n).nodes) }
branch_of_out n = fold_out-Node (Branch (List ℕ)) (List (Branch (List ℕ))) seen_node seen_nodes n

-- what `get` of a slice gives
pub got : {X : Type 0} (xs : List X) (i : ℕ) (r : Option (Bor X)) → is_some r ≡ ltb i (length xs) → IfSome r (λ x. x.now ≡ get_or xs i x.now) → option_copied r ≡ slice_get xs i
got xs i None h s = sym (slice_get_past xs i (ltb-false i (length xs) (sym h)))
got xs i (Some x) h s = sym (slice_get-get_or xs i x.now (ltb-true i (length xs) (sym h)) ∙ ap Some (sym s))

-- the one error that a result can have
pub err_gives : {T E : Type 0} (r : Result T E) (x : E) → IsErrAnd r (λ y. y ≡ x) → r ≡ Err x
err_gives (Ok v) x h = absurd h
err_gives (Err y) x h = ap Err h

-- one turn of a loop over nodes that looks for a name
pub child_turn : (name : List ℕ) (items : List Node) (i : ℕ) (x : Node) → i < length items → x ≡ get_or items i x →
    child_of name (forest (map branch_of (drop i items))) ≡ cond (bytes_eq name (out-Node x).name) (Some (branch_of x)) (child_of name (forest (map branch_of (drop (i + 1) items))))
child_turn name items i x h e =
    ap (λ (l : List Node). child_of name (forest (map branch_of l))) (drop_more items i x h ∙ ap (λ (y : Node). y ∷ drop (i + 1) items) (sym e))
    ∙ ap (λ (n : List ℕ). cond (bytes_eq name n) (Some (branch_of x)) (child_of name (forest (map branch_of (drop (i + 1) items))))) (ap (λ (b : Branch (List ℕ)). b.name) (branch_of_out x))

-- one turn of a loop over properties that looks for a name
pub prop_turn : (name : List ℕ) (items : List Prop) (i : ℕ) (x : Prop) → i < length items → x ≡ get_or items i x →
    lookup (bytes_eq name) (map pair (drop i items)) ≡ cond (bytes_eq name x.name) (Some x.value) (lookup (bytes_eq name) (map pair (drop (i + 1) items)))
prop_turn name items i x h e =
    ap (λ (l : List Prop). lookup (bytes_eq name) (map pair l)) (drop_more items i x h ∙ ap (λ (y : Prop). y ∷ drop (i + 1) items) (sym e))

pub prop_of_out : (name : List ℕ) (n : Node) → prop_of name (branch_of n) ≡ lookup (bytes_eq name) (map pair (out-Node n).props)
prop_of_out name n = ap (λ (b : Branch (List ℕ)). prop_of name b) (branch_of_out n)

-- nothing is left after the end
pub past_all : {X : Type 0} (xs : List X) (i : ℕ) → length xs ≤ i → drop i xs ≡ []
past_all [] zero h = refl
past_all [] (suc i) h = refl
past_all (x ∷ xs) zero h = absurd (omega arith)
past_all (x ∷ xs) (suc i) h = past_all xs i (omega arith)

-- one name more leads to a child of the node
pub child_at_step : (ns : List (List ℕ)) (n : List ℕ) (root : Branch (List ℕ)) (x : Node) → node_at ns root ≡ Some (branch_of x) → node_at (ns ++ n ∷ []) root ≡ child_of n (forest (branches_of (out-Node x).nodes))
child_at_step ns n root x e =
    node_at-append ns (n ∷ []) root ∙ ap (option_and_then (node_at (n ∷ []))) e ∙ some (child_of n (branch_of x).nodes)
    ∙ ap (λ (b : Branch (List ℕ)). child_of n b.nodes) (branch_of_out x)
  where
    some : (o : Option (Branch (List ℕ))) → option_and_then (node_at []) o ≡ o
    some None = refl
    some (Some b) = refl

abbrev pub first_some : {X : Type 0} → Option X → Option X → Option X
first_some None o = o
first_some (Some x) o = Some x

pub find-append : {X : Type 0} (p : X → Bool) (xs ys : List X) → find p (xs ++ ys) ≡ first_some (find p xs) (find p ys)
find-append p [] ys = refl
find-append p (x ∷ xs) ys =
    elim (cases_Bool (p x)) [
      | inl e ↦ rw e
      | inr e ↦ rw e (find-append p xs ys)
    ]

-- one turn of a loop over nodes that looks in each
pub find_turn : (p : Branch (List ℕ) → Bool) (items : List Node) (i : ℕ) (x : Node) → i < length items → x ≡ get_or items i x →
    find p (preorder_of (forest (map branch_of (drop i items)))) ≡ first_some (find p (preorder (branch_of x))) (find p (preorder_of (forest (map branch_of (drop (i + 1) items)))))
find_turn p items i x h e =
    ap (λ (l : List Node). find p (preorder_of (forest (map branch_of l)))) (drop_more items i x h ∙ ap (λ (y : Node). y ∷ drop (i + 1) items) (sym e))
    ∙ find-append p (preorder (branch_of x)) (preorder_of (forest (map branch_of (drop (i + 1) items))))
