-- Lengths of blobs, and names in the order of first use.
use Rattle.std.proofs.Common.{◌≡◌, ℕ, zero, suc, ◌+◌, ◌-◌, ◌*◌, ◌<◌, ◌≤◌, Bool, true, false, ◌||◌, cond, List, [], ◌∷◌, ◌++◌, map, fold, take, drop, length, get_or, inl, inr, refl, sym, ap, ◌∙◌, arith, length-append, append_assoc, append-nil}
use Rattle.std.specs.List.{flat_map}
use Rattle.std.specs.Str.{bytes_eq}
use Rattle.std.proofs.lemmas.Bool.{cases_Bool}
use Rattle.std.proofs.lemmas.List.{drop_more, drop-drop, length-map, length-take-le}
use Rattle.std.proofs.Common.{take-add}
use Rattle.std.proofs.lemmas.Slice.Eq.{bytes_eq-Decides}
use Rattle.bb_tree.specs.declared.prop.Prop.{Prop}
use Rattle.bb_tree.specs.declared.node.Node.{Node}
use Rattle.bb_tree.specs.Node.{Branch, Forest, empty, node, forest, grow}
use Rattle.bb_tree.specs.declared.node.Node.TheViews.{out-Node, out-NodeList}
use Rattle.bb_tree.specs.NodeViews.{branch_of, branches_of, prop_pair}
use Rattle.bb_tree.proofs.Nodes.{branch_of_out, branches_of_out}
use Rattle.std.proofs.Common.{subst}
use Rattle.bb_tree.specs.Blob.{Devicetree, word, double_word, whole_words, filling, prop_names, has_name, with_name, names_used, strings_block, offset_of, begin_text, prop_text, nodes_text, reservation_list, header_text, blob_text}
use Rattle.bb_tree.specs.BlobLength.{props_length, nodes_length, names_under, strings_growth, StandAt}

pub length-word : (n : ℕ) → length (word n) ≡ 4
unfolding word
length-word n = refl

pub length-double_word : (n : ℕ) → length (double_word n) ≡ 8
unfolding double_word
length-double_word n = refl

pub length-filling : (n : ℕ) → length (filling n) ≡ whole_words n - n
length-filling n = length-take-le (whole_words n - n) (0 ∷ 0 ∷ 0 ∷ []) (omega arith)

pub length-begin : (name : List ℕ) → length (begin_text name) ≡ 4 + whole_words (length name + 1)
length-begin name =
    omega (
      arith,
      length-append (word 1) (name ++ 0 ∷ filling (length name + 1)),
      length-append name
          (0 ∷ filling (length name + 1)),
      length-word 1,
      length-filling (length name + 1),
    )

pub length-prop : (offset : List ℕ → ℕ) (p : List ℕ × List ℕ)
    → length (prop_text offset p) ≡ 12 + whole_words (length p.1)
length-prop offset p =
    let value = p.1 ++ filling (length p.1) in
    let at = word (offset p.0) ++ value in
    let len = word (length p.1) ++ at in
    omega (
      arith,
      length-append (word 3) len,
      length-append (word (length p.1)) at,
      length-append
          (word (offset p.0)) value,
      length-append p.1 (filling (length p.1)),
      length-word 3,
      length-word (length p.1),
      length-word (offset p.0),
      length-filling (length p.1),
    )

pub length-props : (offset : List ℕ → ℕ) (props : List (List ℕ × List ℕ))
    → length (flat_map (prop_text offset) props) ≡ props_length props
length-props offset [] = refl
length-props offset (p ∷ ps) =
    omega (
      arith,
      length-append (prop_text offset p) (flat_map (prop_text offset) ps),
      length-prop
          offset p,
      length-props offset ps,
    )

pub length-nodes : (offset : List ℕ → ℕ) (f : Forest (List ℕ))
    → length (nodes_text offset f) ≡ nodes_length f
length-nodes offset empty = refl
length-nodes offset (node n ps ks rest) =
    let behind = word 2 ++ nodes_text offset rest in
    let inner = nodes_text offset ks ++ behind in
    let props = flat_map (prop_text offset) ps ++ inner in
    omega (
      arith,
      length-append (begin_text n) props,
      length-append (flat_map (prop_text offset) ps)
          inner,
      length-append (nodes_text offset ks) behind,
      length-append (word 2)
          (nodes_text offset rest),
      length-begin n,
      length-props offset ps,
      length-nodes offset ks,
      length-word 2,
      length-nodes offset rest,
    )

length-pairs : (pairs : List (ℕ × ℕ))
    → length (flat_map (λ p. double_word p.0 ++ double_word p.1) pairs) ≡ 16 * length pairs
length-pairs [] = refl
length-pairs (p ∷ ps) =
    omega (
      arith,
      length-append (double_word p.0 ++ double_word p.1)
          (flat_map (λ (q : ℕ × ℕ). double_word q.0 ++ double_word q.1) ps),
      length-append
          (double_word p.0) (double_word p.1),
      length-double_word p.0,
      length-double_word p.1,
      length-pairs ps,
    )

pub length-reservations : (pairs : List (ℕ × ℕ))
    → length (reservation_list pairs) ≡ 16 * length pairs + 16
length-reservations pairs =
    omega (
      arith,
      length-append (flat_map (λ (p : ℕ × ℕ). double_word p.0 ++ double_word p.1) pairs)
          (double_word 0 ++ double_word 0),
      length-append (double_word 0) (double_word 0),
      length-double_word 0,
      length-pairs pairs,
    )

-- what has a name
pub has_name-append : (xs ys : List (List ℕ)) (name : List ℕ)
    → has_name (xs ++ ys) name ≡ (has_name xs name || has_name ys name)
has_name-append [] ys name = refl
has_name-append (x ∷ xs) ys name =
    elim (cases_Bool (bytes_eq name x)) [
      | inl is ↦ rw is refl
      | inr is ↦ rw is (has_name-append xs
          ys name)
    ]

or_false : (a : Bool) → (a || false) ≡ a
or_false true = refl
or_false false = refl

or_true : (a : Bool) → (a || true) ≡ true
or_true true = refl
or_true false = refl

-- a list of names that has the same names as those seen has them too with one name more
same_with : (names seen : List (List ℕ)) (name : List ℕ)
    → ((m : List ℕ) → has_name names m ≡ has_name seen m) → (b : Bool) → has_name names name ≡ b
    → (m : List ℕ) → has_name (cond b names (names ++ name ∷ [])) m ≡ has_name (seen ++ name ∷ []) m
same_with names seen name same true has m =
    elim (cases_Bool (bytes_eq m name)) [
      | inl is ↦
          let e : m ≡ name = (bytes_eq-Decides m name).0 is in
          let one : has_name (name ∷ []) m ≡ true = rw is refl in
          ap (has_name names) e ∙ has ∙ sym (or_true (has_name seen m))
          ∙ ap (λ b. has_name seen m || b) (sym one) ∙ sym (has_name-append seen (name ∷ []) m)
      | inr isnt ↦
          let one : has_name (name ∷ []) m ≡ false = rw isnt refl in
          same m ∙ sym (or_false (has_name seen m)) ∙ ap (λ b. has_name seen m || b) (sym one)
          ∙ sym (has_name-append seen (name ∷ []) m)
    ]
same_with names seen name same false has m = has_name-append names (name ∷ []) m
    ∙ ap (λ b. b || has_name (name ∷ []) m) (same m) ∙ sym (has_name-append seen (name ∷ []) m)

strings_with : (names : List (List ℕ)) (name : List ℕ) (b : Bool)
    → length (strings_block (cond b names (names ++ name ∷ [])))
    ≡ length (strings_block names) + cond b 0 (length name + 1)
strings_with names name true = omega arith
strings_with [] name false = omega (
  arith,
  length-append (name
      ++ 0 ∷ []) [],
  length-append name (0 ∷ []),
)
strings_with (n ∷ ns) name false =
    let more = strings_with ns name false in
    omega (
      arith,
      more,
      length-append (n ++ 0 ∷ []) (strings_block ns),
      length-append (n ++ 0 ∷ [])
          (strings_block (ns ++ name ∷ [])),
    )

strings_added : (xs names seen : List (List ℕ))
    → ((m : List ℕ) → has_name names m ≡ has_name seen m)
    → length (strings_block (fold with_name names xs))
    ≡ length (strings_block names) + strings_growth seen xs
strings_added [] names seen same = omega arith
strings_added (x ∷ xs) names seen same =
    let more = strings_added xs (with_name names x) (seen
    ++ x ∷ []) (same_with names seen x same (has_name names x) refl) in
    let one = strings_with names x (has_name names x) in
    let own : cond (has_name names x) 0 (length x + 1) ≡ cond (has_name seen x) 0 (length x + 1) =
    ap (λ b. cond b 0 (length x + 1)) (same x) in
    more ∙ ap (λ n. n + strings_growth (seen ++ x ∷ []) xs)
    (one ∙ ap (λ n. length (strings_block names) + n) own) ∙ omega arith

-- the strings block has what each name adds
pub length-strings : (root : Branch (List ℕ))
    → length (strings_block (names_used root)) ≡ strings_growth [] (names_under root)
unfolding names_under
length-strings root = strings_added (prop_names (grow root empty)) [] [] (λ m. refl) ∙ omega arith

words_length : (ws : List ℕ) → length (flat_map word ws) ≡ 4 * length ws
words_length [] = refl
words_length (w ∷ ws) =
    omega (arith, length-append (word w) (flat_map word ws), length-word w, words_length ws)

pub length-header : (reservations structure strings : ℕ)
    → length (header_text reservations structure strings) ≡ 40
length-header r s t = words_length (0xD00DFEED ∷ (40 + r + s + t) ∷ (40 + r) ∷ (40 + r + s) ∷ 40
    ∷ 17 ∷ 16 ∷ 0 ∷ t ∷ s ∷ [])

pub length-blob : (t : Devicetree)
    → length (blob_text t)
    ≡ 16 * length t.reserved + 60 + nodes_length (grow t.root empty) + strings_growth []
    (names_under t.root)
unfolding blob_text
length-blob t =
    let names = names_used t.root in
    let r = reservation_list t.reserved in
    let nodes = nodes_text (offset_of names) (grow t.root empty) in
    let s = nodes ++ word 9 in
    let u = strings_block names in
    let h = header_text (length r) (length s) (length u) in
    omega (
      arith,
      length-append h (r ++ (s ++ u)),
      length-append r (s ++ u),
      length-append s u,
      length-append nodes (word 9),
      length-word 9,
      length-header (length r) (length s) (length u),
      length-reservations t.reserved,
      length-nodes (offset_of names) (grow t.root empty),
      length-strings t.root,
    )

-- each property takes 12 bytes at least
few_props : (props : List (List ℕ × List ℕ)) → length (map (λ p. p.0) props) ≤ props_length props
few_props [] = omega arith
few_props (p ∷ ps) = let more = few_props ps in omega (arith, more)

few_names : (f : Forest (List ℕ)) → length (prop_names f) ≤ nodes_length f
few_names empty = omega arith
few_names (node n ps ks rest) =
    omega (
      arith,
      length-append (map (λ (p : List ℕ × List ℕ). p.0) ps)
          (prop_names ks ++ prop_names rest),
      length-append (prop_names ks) (prop_names rest),
      few_props ps,
      few_names ks,
      few_names rest,
    )

pub few_under : (b : Branch (List ℕ)) → length (names_under b) ≤ nodes_length (grow b empty)
unfolding names_under
few_under b = few_names (grow b empty)

-- names in pieces
pub own_names : (b : Branch (List ℕ)) → names_under b ≡ map (λ p. p.0) b.props ++ prop_names b.nodes
unfolding names_under
own_names b = ap (λ l. map (λ (p : List ℕ × List ℕ). p.0) b.props
    ++ l) (append-nil (prop_names b.nodes))

names_grown : (b : Branch (List ℕ)) (rest : Forest (List ℕ))
    → prop_names (grow b rest) ≡ names_under b ++ prop_names rest
names_grown b rest = sym (append_assoc (map (λ (p : List ℕ
    × List ℕ). p.0) b.props) (prop_names b.nodes) (prop_names rest))
    ∙ ap (λ l. l ++ prop_names rest) (sym (own_names b))

-- the names that are left begin with those of this node
pub names_turn : (items : List Node) (i : ℕ) (x : Node) → i < length items → x ≡ get_or items i x
    → prop_names (forest (map branch_of (drop i items)))
    ≡ names_under (branch_of x) ++ prop_names (forest (map branch_of (drop (i + 1) items)))
names_turn items i x h e =
    ap (λ (l : List Node). prop_names (forest (map branch_of l)))
    (drop_more items i x h ∙ ap (λ (y : Node). y ∷ drop (i + 1) items) (sym e))
    ∙ names_grown (branch_of x) (forest (map branch_of (drop (i + 1) items)))

pub props_turn : (items : List Prop) (i : ℕ) (x : Prop) → i < length items → x ≡ get_or items i x
    → map (λ p. p.0) (map prop_pair (drop i items))
    ≡ x.name ∷ map (λ p. p.0) (map prop_pair (drop (i + 1) items))
props_turn items i x h e = ap (λ (l : List Prop). map (λ (p : List ℕ
    × List ℕ). p.0) (map prop_pair l)) (drop_more items i x h
    ∙ ap (λ (y : Prop). y ∷ drop (i + 1) items) (sym e))

-- names among the first ones
pub among_here : (k : ℕ) (name x : List ℕ) (rest : List (List ℕ)) → 0 < k → bytes_eq name x ≡ true
    → has_name (take k (x ∷ rest)) name ≡ true
among_here zero name x rest some is = absurd (omega arith)
among_here (suc k) name x rest some is = rw is refl

pub among_behind : (k : ℕ) (name x : List ℕ) (rest : List (List ℕ)) → 0 < k
    → bytes_eq name x ≡ false → has_name (take k (x
    ∷ rest)) name ≡ has_name (take (k - 1) rest) name
among_behind zero name x rest some isnt = absurd (omega arith)
among_behind (suc k) name x rest some isnt = let e : suc k - 1 ≡ k = omega arith in
    rw (isnt, e) refl

pub take-append : {X : Type 0} (k : ℕ) (xs ys : List X)
    → take k (xs ++ ys) ≡ take k xs ++ take (k - length xs) ys
take-append k [] ys = let e : k - 0 ≡ k = omega arith in ap (λ n. take n ys) (sym e) ∙ none k
  where
    none : (n : ℕ) → take (n - 0) ys ≡ take n [] ++ take (n - 0) ys
    none zero = refl
    none (suc n) = refl
take-append zero (x ∷ xs) ys = let e : 0 ≡ 0 - length (x ∷ xs) = omega arith in
    ap (λ n. take n ys) e
take-append (suc k) (x ∷ xs) ys = let e : suc k - suc (length xs) ≡ k - length xs = omega arith in
    ap (λ l. x ∷ l) (take-append k xs ys ∙ ap (λ n. take k xs ++ take n ys) (sym e))

pub among-append : (k : ℕ) (xs ys : List (List ℕ)) (name : List ℕ)
    → has_name (take k (xs ++ ys)) name
    ≡ (has_name (take k xs) name || has_name (take (k - length xs) ys) name)
among-append k xs ys name = ap (λ l. has_name l name) (take-append k xs ys)
    ∙ has_name-append (take k xs) (take (k - length xs) ys) name

-- names that stand somewhere, in pieces
fronts : {X : Type 0} (xs ys d : List X) → take (length (xs ++ ys)) d ≡ xs ++ ys
    → (take (length xs) d ≡ xs) × (take (length ys) (drop (length xs) d) ≡ ys)
fronts [] ys d is = (nothing d, is)
  where
    nothing : {X : Type 0} (l : List X) → take 0 l ≡ []
    nothing l = refl
fronts (x ∷ xs) ys [] is = absurd cc
fronts (x ∷ xs) ys (y ∷ d) is =
    let behind = fronts xs ys d cc in
    let e : y ≡ x = cc in
    (ap (λ z. z ∷ take (length xs) d) e ∙ ap (λ l. x ∷ l) behind.0, behind.1)

pub stand_front : (place : ℕ) (xs ys all : List (List ℕ)) → StandAt place (xs ++ ys) all
    → StandAt place xs all
stand_front place xs ys all stand = (fronts xs ys (drop place all) stand).0

pub stand_behind : (place : ℕ) (xs ys all : List (List ℕ)) → StandAt place (xs ++ ys) all
    → StandAt (place + length xs) ys all
stand_behind place xs ys all stand = ap (take (length ys)) (sym (drop-drop (length xs) place all))
    ∙ (fronts xs ys (drop place all) stand).1

pub seen_then : (place : ℕ) (xs all : List (List ℕ)) → StandAt place xs all
    → take (place + length xs) all ≡ take place all ++ xs
seen_then place xs all stand = take-add place (length xs) all ∙ ap (λ l. take place all ++ l) stand

added-append : (seen xs ys : List (List ℕ))
    → strings_growth seen (xs ++ ys) ≡ strings_growth seen xs + strings_growth (seen ++ xs) ys
added-append seen [] ys = ap (λ l. strings_growth l ys) (sym (append-nil seen)) ∙ omega arith
added-append seen (x ∷ xs) ys =
    let more = added-append (seen ++ x ∷ []) xs ys in
    let same : strings_growth ((seen ++ x ∷ []) ++ xs) ys ≡ strings_growth (seen ++ x ∷ xs) ys =
    ap (λ l. strings_growth l ys) (append_assoc seen (x ∷ []) xs) in
    omega (arith, more, same)

-- what names add that stand one after another
pub added_at : (place : ℕ) (xs ys all : List (List ℕ)) → StandAt place (xs ++ ys) all
    → strings_growth (take place all) (xs ++ ys)
    ≡ strings_growth (take place all) xs + strings_growth (take (place + length xs) all) ys
added_at place xs ys all stand =
    added-append (take place all) xs ys
    ∙ ap (λ l. strings_growth (take place all) xs + strings_growth l ys)
    (sym (seen_then place xs all (stand_front place xs ys all stand)))

pub front_has : (k : ℕ) (whole xs ys : List (List ℕ)) (name : List ℕ) → whole ≡ xs ++ ys
    → has_name (take k xs) name ≡ true → has_name (take k whole) name ≡ true
front_has k whole xs ys name is has = ap (λ l. has_name (take k l) name) is
    ∙ among-append k xs ys name ∙ ap (λ b. b || has_name (take (k - length xs) ys) name) has

pub behind_has : (k left : ℕ) (whole xs ys : List (List ℕ)) (name : List ℕ) → whole ≡ xs ++ ys
    → has_name (take k xs) name ≡ false → left ≡ k - length xs
    → (has_name (take left ys) name ≡ has_name (take k whole) name)
    × (left - length ys ≡ k - length whole)
behind_has k left whole xs ys name is hasnt is_left = (
  ap (λ n. has_name (take n ys) name) is_left
      ∙ sym (ap (λ l. has_name (take k l) name) is ∙ among-append k xs ys name
      ∙ ap (λ b. b || has_name (take (k - length xs) ys) name) hasnt),
  omega (arith, ap length is, length-append xs ys),
)

pub piece_front : (place : ℕ) (whole xs ys all : List (List ℕ)) → whole ≡ xs ++ ys
    → StandAt place whole all → StandAt place xs all
piece_front place whole xs ys all is stand =
    stand_front place xs ys all (subst (λ (l : List (List ℕ)). StandAt place l all) is stand)

pub piece_behind : (place behind : ℕ) (whole xs ys all : List (List ℕ)) → whole ≡ xs ++ ys
    → StandAt place whole all → behind ≡ place + length xs → StandAt behind ys all
piece_behind place behind whole xs ys all is stand is_behind =
    subst (λ (n : ℕ). StandAt n ys all) (sym is_behind)
    (stand_behind place xs ys all (subst (λ (l : List (List ℕ)). StandAt place l all) is stand))

pub piece_sum : (place behind : ℕ) (whole xs ys all : List (List ℕ)) → whole ≡ xs ++ ys
    → StandAt place whole all → behind ≡ place + length xs
    → strings_growth (take place all) whole
    ≡ strings_growth (take place all) xs + strings_growth (take behind all) ys
piece_sum place behind whole xs ys all is stand is_behind =
    ap (strings_growth (take place all)) is
    ∙ added_at place xs ys all (subst (λ (l : List (List ℕ)). StandAt place l all) is stand)
    ∙ ap (λ n. strings_growth (take place all) xs + strings_growth (take n all) ys) (sym is_behind)

pub own_out : (n : Node)
    → names_under (branch_of n)
    ≡ map (λ p. p.0) (map prop_pair (out-Node n).props)
    ++ prop_names (forest (branches_of (out-Node n).nodes))
own_out n = own_names (branch_of n) ∙ ap (λ (b : Branch (List ℕ)). map (λ (p : List ℕ
    × List ℕ). p.0) b.props ++ prop_names b.nodes) (branch_of_out n)

pub items_out : (n : Node) (items : List Node)
    → items ≡ (out-NodeList (out-Node n).nodes).inner.items
    → names_under (branch_of n)
    ≡ map (λ p. p.0) (map prop_pair (out-Node n).props) ++ prop_names (forest (map branch_of items))
items_out n items is =
    own_out n ∙ ap (λ l. map (λ (p : List ℕ × List ℕ). p.0) (map prop_pair (out-Node n).props)
    ++ prop_names (forest l)) (branches_of_out (out-Node n).nodes ∙ ap (map branch_of) (sym is))

pub own_count : (n : Node) → length (map (λ (p : List ℕ
    × List ℕ). p.0) (map prop_pair (out-Node n).props)) ≡ length (out-Node n).props
own_count n = length-map (map prop_pair (out-Node n).props) (λ (p : List ℕ × List ℕ). p.0)
    ∙ length-map (out-Node n).props prop_pair

child_length : (items : List Node) (i : ℕ) (x : Node) → i < length items → x ≡ get_or items i x
    → nodes_length (grow (branch_of x) empty) ≤ nodes_length (forest (map branch_of items))
child_length [] i x h e = absurd (omega arith)
child_length (y ∷ items) zero x h e = let same =
    ap (λ (z : Node). nodes_length (grow (branch_of z) empty)) e in omega (arith, same)
child_length (y ∷ items) (suc i) x h e = let more = child_length items i x (omega arith) e in
    omega (arith, more)

-- a node in another one takes fewer bytes
pub child_shorter : (n : Node) (items : List Node) (i : ℕ) (x : Node)
    → items ≡ (out-NodeList (out-Node n).nodes).inner.items → i < length items
    → x ≡ get_or items i x
    → nodes_length (grow (branch_of x) empty) < nodes_length (grow (branch_of n) empty)
child_shorter n items i x is h e =
    let all : nodes_length (branch_of n).nodes ≡ nodes_length (forest (map branch_of items)) =
    ap (λ (b : Branch (List ℕ)). nodes_length b.nodes) (branch_of_out n)
    ∙ ap (λ l. nodes_length (forest l)) (branches_of_out (out-Node n).nodes
    ∙ ap (map branch_of) (sym is)) in
    let child = child_length items i x h e in
    omega (arith, all, child)
