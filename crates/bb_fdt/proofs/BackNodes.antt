-- Nodes that were written are read back.
use Rattle.std.proofs.Common.{◌≡◌, ℕ, ◌+◌, ◌-◌, ◌<◌, ◌≤◌, ◌||◌, suc, Bool, true, false, cond, List, [], ◌∷◌, ◌++◌, subst, map, fold, drop, length, nat_lt, Option, Some, Ok, ok_or, inl, inr, refl, sym, ap, ◌∙◌, arith, length-append, append_assoc, append-nil}
use Rattle.std.specs.List.{flat_map}
use Rattle.std.specs.Str.{bytes_eq}
use Rattle.std.proofs.lemmas.Bool.{cases_Bool}
use Rattle.std.proofs.lemmas.Bool.Decides.{nat_tests}
use Rattle.std.proofs.lemmas.Slice.Eq.{bytes_eq-Decides}
use Rattle.bb_tree.specs.Node.{Branch, Forest, empty, node, forest, branches, grow}
use Rattle.bb_tree.specs.Blob.{word, has_name, with_name, prop_names, strings_block, offset_of, begin_text, prop_text, nodes_text, structure_block}
use Rattle.bb_tree.proofs.Lengths.{length-prop, has_name-append}
use Rattle.bb_tree.proofs.Changing.{bytes_eq-refl}
use Rattle.bb_fdt.specs.declared.error.FdtError.TheVariants as refusal
use Rattle.bb_tree.specs.Depth.{depth_limit}
use Rattle.bb_fdt.specs.Tokens.{is_name, up_to_zero, string_at}
use Rattle.bb_fdt.specs.Walk.{Open, Before, Inside, open_node, node_of_open, with_prop, with_node, child_name, prop_name}
use Rattle.bb_fdt.specs.Descent.{Onward, walk_from, walk_inside, walk_after_node, item_walk_by_token, walk_into_node, walk_after_prop, root_walk_by_token, end_walk_by_token}
use Rattle.bb_fdt.specs.Laws.{HaveNames, CanStand}
use Rattle.bb_fdt.proofs.WalkLemmas.{item_step, inside_after_node, root_step, end_step}
use Rattle.bb_fdt.proofs.BackTokens.{begin_found, prop_found, end_node_found, end_found_last, ended_name, ended_none}

-- a name that is there is found at its offset
ended_at : (names : List (List ℕ)) (name : List ℕ) → has_name names name ≡ true
    → is_name name ≡ true
    → up_to_zero (drop (offset_of names name) (strings_block names)) ≡ Some name
ended_at [] name has is = absurd cc
ended_at (n ∷ ns) name has is =
    elim (cases_Bool (bytes_eq name n)) [
      | inl same ↦
          let e : n ≡ name = sym ((bytes_eq-Decides name n).0 same) in
          rw same (ap up_to_zero (append_assoc n (0 ∷ []) (strings_block ns))
          ∙ ap (λ (m : List ℕ). up_to_zero (m ++ 0 ∷ strings_block ns)) e
          ∙ ended_name name (strings_block ns) is)
      | inr other ↦
          let len : length n + 1 + offset_of ns name ≡ length (n ++ 0 ∷ []) + offset_of ns name =
          omega (arith, length-append n (0 ∷ [])) in
          rw other (ap up_to_zero (ap (λ k. drop k ((n ++ 0 ∷ []) ++ strings_block ns)) len
          ∙ past (n ++ 0 ∷ []) (offset_of ns name) (strings_block ns))
          ∙ ended_at ns name (rw other at has) is)
    ]
  where
    past : (xs : List ℕ) (k : ℕ) (ys : List ℕ) → drop (length xs + k) (xs ++ ys) ≡ drop k ys
    past [] k ys = let e : 0 + k ≡ k = omega arith in ap (λ n. drop n ys) e
    past (x ∷ xs) k ys = let e : suc (length xs) + k ≡ suc (length xs + k) = omega arith in
        ap (λ n. drop n (x ∷ (xs ++ ys))) e ∙ past xs k ys

pub name_found : (names : List (List ℕ)) (name : List ℕ) → has_name names name ≡ true
    → is_name name ≡ true → string_at (strings_block names) (offset_of names name) ≡ Some name
unfolding string_at
name_found names name has is = rw (ended_at names name has is, is) refl

offset_within : (names : List (List ℕ)) (name : List ℕ)
    → offset_of names name ≤ length (strings_block names)
offset_within [] name = omega arith
offset_within (n ∷ ns) name =
    let more = offset_within ns name in
    let len = length-append (n ++ 0 ∷ []) (strings_block ns) in
    let own = length-append n (0 ∷ []) in
    elim (cases_Bool (bytes_eq name n)) [
      | inl same ↦ rw same (omega arith)
      | inr other ↦ rw other
          (omega arith)
    ]

-- a list of names has all of others
abbrev pub HasAll : List (List ℕ) → List (List ℕ) → Type 0
HasAll names [] = Unit {0}
HasAll names (n ∷ ns) = (has_name names n ≡ true) × HasAll names ns

pub HasAll-front : (names xs ys : List (List ℕ)) → HasAll names (xs ++ ys) → HasAll names xs
HasAll-front names [] ys all = tt
HasAll-front names (x ∷ xs) ys all = (all.0, HasAll-front names xs ys all.1)

pub HasAll-behind : (names xs ys : List (List ℕ)) → HasAll names (xs ++ ys) → HasAll names ys
HasAll-behind names [] ys all = all
HasAll-behind names (x ∷ xs) ys all = HasAll-behind names xs ys all.1

kept_one : (names : List (List ℕ)) (name m : List ℕ) (b : Bool) → has_name names m ≡ true
    → has_name (cond b names (names ++ name ∷ [])) m ≡ true
kept_one names name m true has = has
kept_one names name m false has = has_name-append names (name ∷ []) m ∙ rw has refl

kept : (xs names : List (List ℕ)) (m : List ℕ) → has_name names m ≡ true
    → has_name (fold with_name names xs) m ≡ true
kept [] names m has = has
kept (x ∷ xs) names m has =
    kept xs (with_name names x) m (kept_one names x m (has_name names x) has)

or_true : (a : Bool) → (a || true) ≡ true
or_true true = refl
or_true false = refl

with_itself : (names : List (List ℕ)) (name : List ℕ) (b : Bool) → has_name names name ≡ b
    → has_name (cond b names (names ++ name ∷ [])) name ≡ true
with_itself names name true has = has
with_itself names name false has =
    let own : has_name (name ∷ []) name ≡ true = rw (bytes_eq-refl name) refl in
    has_name-append names (name ∷ []) name ∙ ap (λ b. has_name names name || b) own
    ∙ or_true (has_name names name)

pub has_all_added : (xs names : List (List ℕ)) → HasAll (fold with_name names xs) xs
has_all_added [] names = tt
has_all_added (x ∷ xs) names = (
  kept xs (with_name names x) x (with_itself names x (has_name names x) refl),
  has_all_added xs
      (with_name names x),
)

-- one token after another
begin_read : (strings : List ℕ) (end : ℕ) (o : Open) (name rest : List ℕ) → is_name name ≡ true
    → o.level < depth_limit → walk_from strings end (Inside o) (begin_text name
    ++ rest) ≡ walk_inside o (walk_from strings end (Inside (open_node (o.level + 1) name)) rest)
begin_read strings end o name rest is shallow =
    let test : nat_lt o.level depth_limit ≡ true = grind (arith, nat_tests) in
    let at = end - length (begin_text name ++ rest) in
    let named : child_name at o.level name ≡ Ok name = rw (is, test) refl in
    item_step strings end o (begin_text name ++ rest)
    ∙ ap (item_walk_by_token strings end o)
    (begin_found end name rest (λ more. ended_name name more is))
    ∙ ap (walk_into_node strings end o rest) named

one_prop_read : (names : List (List ℕ)) (end : ℕ) (o : Open) (p : List ℕ × List ℕ) (rest : List ℕ)
    → is_name p.0 ≡ true → has_name names p.0 ≡ true → length p.1 < 4294967296
    → length (strings_block names) < 4294967296
    → walk_from (strings_block names) end (Inside o) (prop_text (offset_of names) p ++ rest)
    ≡ walk_from (strings_block names) end (Inside (with_prop o p.0 p.1)) rest
one_prop_read names end o p rest is has short small =
    let strings = strings_block names in
    let text = prop_text (offset_of names) p ++ rest in
    let at = end - length text in
    let within = offset_within names p.0 in
    let named : prop_name at strings (offset_of names p.0) ≡ Ok p.0 =
    ap (λ (n : Option (List ℕ)). ok_or n (refusal.BadName at)) (name_found names p.0 has is) in
    item_step strings end o text
    ∙ ap (item_walk_by_token strings end o)
    (prop_found end (offset_of names) p rest short (omega arith))
    ∙ ap (walk_after_prop strings end o p.1 rest) named

props_read : (names : List (List ℕ)) (end : ℕ) (props : List (List ℕ × List ℕ)) (o : Open)
    (rest : List ℕ) → HaveNames props → HasAll names (map (λ p. p.0) props)
    → length (flat_map (prop_text (offset_of names)) props) < 4294967296
    → length (strings_block names) < 4294967296
    → walk_from (strings_block names) end (Inside o)
    (flat_map (prop_text (offset_of names)) props ++ rest)
    ≡ walk_from (strings_block names) end (Inside (record o { props = o.props ++ props })) rest
props_read names end [] o rest have all short small =
    ap (λ (ps : List (List ℕ × List ℕ)). walk_from (strings_block names) end
    (Inside (record o { props = ps })) rest) (sym (append-nil o.props))
props_read names end (p ∷ ps) o rest have all short small =
    let strings = strings_block names in
    let f = prop_text (offset_of names) in
    let len = length-append (f p) (flat_map f ps) in
    let own = length-prop (offset_of names) p in
    ap (walk_from strings end (Inside o)) (append_assoc (f p) (flat_map f ps) rest)
    ∙ one_prop_read names end o p (flat_map f ps ++ rest) have.0 all.0 (omega arith) small
    ∙ props_read names end ps (with_prop o p.0 p.1) rest have.1 all.1 (omega arith) small
    ∙ ap (λ (l : List (List ℕ × List ℕ)). walk_from strings end (Inside (record o { props = l }))
    rest) (append_assoc o.props (p ∷ []) ps)

end_read : (strings : List ℕ) (end : ℕ) (o : Open) (rest : List ℕ)
    → walk_from strings end (Inside o) (word 2 ++ rest)
    ≡ walk_after_node strings end (node_of_open o) rest
end_read strings end o rest = item_step strings end o (word 2 ++ rest)
    ∙ ap (item_walk_by_token strings end o) (end_node_found end rest)

forest_back : (f : Forest (List ℕ)) → forest (branches f) ≡ f
forest_back empty = refl
forest_back (node n ps ks rest) = ap (node n ps ks) (forest_back rest)

abbrev pub with_nodes : Open → List (Branch (List ℕ)) → Open
with_nodes o bs = record o { nodes = o.nodes ++ bs }

pub nodes_read : (names : List (List ℕ)) (end : ℕ) (f : Forest (List ℕ)) (o : Open) (rest : List ℕ)
    → CanStand (o.level + 1) f → HasAll names (prop_names f)
    → length (nodes_text (offset_of names) f) < 4294967296
    → length (strings_block names) < 4294967296
    → walk_from (strings_block names) end (Inside o) (nodes_text (offset_of names) f ++ rest)
    ≡ walk_from (strings_block names) end (Inside (with_nodes o (branches f))) rest
nodes_read names end empty o rest stand all short small =
    ap (λ (l : List (Branch (List ℕ))). walk_from (strings_block names) end
    (Inside (record o { nodes = l })) rest) (sym (append-nil o.nodes))
nodes_read names end (node n ps ks more) o rest stand all short small =
    let S = strings_block names in
    let O = offset_of names in
    let props = flat_map (prop_text O) ps in
    let behind = nodes_text O more in
    let tail = word 2 ++ behind in
    let inner = nodes_text O ks ++ tail in
    let own = map (λ (p : List ℕ × List ℕ). p.0) ps in
    let a = length-append (begin_text n) (props ++ inner) in
    let b = length-append props inner in
    let c = length-append (nodes_text O ks) tail in
    let d = length-append (word 2) behind in
    let child = open_node (o.level + 1) n in
    let child_props : Open = record child { props = [] ++ ps } in
    let whole = with_nodes child_props (branches ks) in
    let branch : Branch (List ℕ) = record { name = n; props = ps; nodes = ks } in
    let is_branch : node_of_open whole ≡ branch =
    ap (λ (g : Forest (List ℕ)). record { name = n; props = ps; nodes = g }) (forest_back ks) in
    let all_inner = HasAll-behind names own (prop_names ks ++ prop_names more) all in
    ap (walk_from S end (Inside o)) (append_assoc (begin_text n) (props ++ inner) rest)
    ∙ begin_read S end o n ((props ++ inner) ++ rest) stand.0 (omega arith)
    ∙ ap (walk_inside o)
    (ap (walk_from S end (Inside child)) (append_assoc props inner rest)
    ∙ props_read names end ps child (inner ++ rest) stand.2
    (HasAll-front names own (prop_names ks ++ prop_names more) all) (omega arith) small
    ∙ ap (walk_from S end (Inside child_props)) (append_assoc (nodes_text O ks) tail rest)
    ∙ nodes_read names end ks child_props (tail ++ rest) stand.3
    (HasAll-front names (prop_names ks) (prop_names more) all_inner) (omega arith) small
    ∙ ap (walk_from S end (Inside whole)) (append_assoc (word 2) behind rest)
    ∙ end_read S end whole (behind ++ rest)
    ∙ ap (λ (x : Branch (List ℕ)). walk_after_node S end x (behind ++ rest)) is_branch)
    ∙ inside_after_node S end o branch (behind ++ rest)
    ∙ nodes_read names end more (with_node o branch) rest stand.4
    (HasAll-behind names (prop_names ks) (prop_names more) all_inner) (omega arith) small
    ∙ ap (λ (l : List (Branch (List ℕ))). walk_from S end (Inside (record o { nodes = l })) rest)
    (append_assoc o.nodes (branch ∷ []) (branches more))

pub root_read : (names : List (List ℕ)) (end : ℕ) (b : Branch (List ℕ)) → b.name ≡ []
    → HaveNames b.props → CanStand 2 b.nodes → HasAll names (prop_names (grow b empty))
    → length (nodes_text (offset_of names) (grow b empty)) < 4294967296
    → length (strings_block names) < 4294967296
    → walk_from (strings_block names) end Before (structure_block (offset_of names) b) [] ≡ Ok b
root_read names end b unnamed have stand all short small =
    let S = strings_block names in
    let O = offset_of names in
    let props = flat_map (prop_text O) b.props in
    let nodes = nodes_text O b.nodes in
    let tail = word 2 ++ [] in
    let inner = nodes ++ tail in
    let own = map (λ (p : List ℕ × List ℕ). p.0) b.props in
    let x = length-append (begin_text b.name) (props ++ inner) in
    let y = length-append props inner in
    let z = length-append nodes tail in
    let root = open_node 1 [] in
    let with_props : Open = record root { props = [] ++ b.props } in
    let whole = with_nodes with_props (branches b.nodes) in
    let rest = (props ++ inner) ++ word 9 in
    let ends : (more : List ℕ) → up_to_zero (b.name ++ 0 ∷ more) ≡ Some b.name =
    λ more. subst (λ (n : List ℕ). up_to_zero (n ++ 0 ∷ more) ≡ Some n) (sym unnamed)
    (ended_none more) in
    let is_root : node_of_open whole ≡ b =
    ap (λ (n : List ℕ). record { name = n; props = b.props; nodes = forest (branches b.nodes) })
    (sym unnamed)
    ∙ ap (λ (g : Forest (List ℕ)). record { name = b.name; props = b.props; nodes = g })
    (forest_back b.nodes) in
    let reads : walk_from S end (Inside root) rest ≡ walk_after_node S end b (word 9) =
    ap (walk_from S end (Inside root)) (append_assoc props inner (word 9))
    ∙ props_read names end b.props root (inner ++ word 9) have
    (HasAll-front names own (prop_names b.nodes ++ []) all) (omega arith) small
    ∙ ap (walk_from S end (Inside with_props)) (append_assoc nodes tail (word 9))
    ∙ nodes_read names end b.nodes with_props (tail ++ word 9) stand
    (HasAll-front names (prop_names b.nodes) []
    (HasAll-behind names own (prop_names b.nodes ++ []) all)) (omega arith) small
    ∙ ap (λ l. walk_from S end (Inside whole) (l ++ word 9)) (append-nil (word 2))
    ∙ end_read S end whole (word 9)
    ∙ ap (λ (r : Branch (List ℕ)). walk_after_node S end r (word 9)) is_root in
    ap (λ (l : List ℕ). walk_from S end Before l [])
    (append_assoc (begin_text b.name) (props ++ inner) (word 9))
    ∙ root_step S end (begin_text b.name ++ rest)
    ∙ ap (root_walk_by_token S end) (begin_found end b.name rest ends)
    ∙ ap (λ (w : Onward). w []) reads
    ∙ ap (λ l. walk_after_node S end b l []) (sym (append-nil (word 9)))
    ∙ end_step S end b (word 9 ++ [])
    ∙ ap (end_walk_by_token b) (end_found_last end [])
