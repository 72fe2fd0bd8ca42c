-- What is met on the way down are the variables of the list in preorder.
use Rattle.std.proofs.Common.{◌≡◌, ◌≢◌, ℕ, ◌+◌, ◌<◌, Bool, true, false, not, ◌&&◌, ◌||◌, cond, List, [], ◌∷◌, ◌++◌, Result, Ok, Err, length, get_or, map, drop, filter, reverse, refl, sym, ap, ◌∙◌, inl, inr, append_assoc, subst, IfErr, IsErrAnd}
use Rattle.std.proofs.lemmas.Bool.{cases_Bool}
use Rattle.std.proofs.lemmas.List.{map-append, reverse-append, drop_more}
use Rattle.std.specs.List.{list_any}
use Rattle.bb_tree.specs.Node.{Forest, empty, node, Branch, grow, forest}
use Rattle.bb_tree.specs.NodeViews.{branch_of}
use Rattle.bb_tree.specs.declared.node.Node.{Node}
use Rattle.bb_layout.specs.Results.{result_and_then, all_ok}
use Rattle.bb_layout.specs.Variables.{has_type, is_variable, variable_at, variable_of, variables_of, ways_of}
use Rattle.bb_layout.specs.Walk.{onto, typed_in, variables_below, variables_in}
use Rattle.bb_layout.specs.declared.layout_error.LayoutError.{LayoutError}
use Rattle.bb_layout.specs.declared.layout_error.LayoutError.TheVariants.{NoMemory}
use Rattle.bb_layout.specs.declared.var.Var.{Var}

abbrev Way : Type 0
Way = List (Branch (List ℕ))

abbrev names_on : Way → List (List ℕ)
names_on way = reverse (map (λ b. b.name) way)

abbrev of_path : List (List ℕ) × Branch (List ℕ) → Result Var LayoutError
of_path v = variable_of v.0 v.1

filter-append : {X : Type 0} (p : X → Bool) (xs ys : List X) → filter p (xs ++ ys) ≡ filter p xs ++ filter p ys
filter-append p [] ys = refl
filter-append p (x ∷ xs) ys =
    elim (cases_Bool (p x)) [
      | inl t ↦ rw t (ap (λ l. x ∷ l) (filter-append p xs ys))
      | inr f ↦ rw f (filter-append p xs ys)
    ]

-- ---- the list in preorder

and_false : (a : Bool) → (a && false) ≡ false
and_false true = refl
and_false false = refl

or_true : (a : Bool) → (a || true) ≡ true
or_true true = refl
or_true false = refl

below_typed : (f : Forest (List ℕ)) (above : Way) → list_any has_type above ≡ true → filter is_variable (ways_of above f) ≡ []
below_typed empty above h = refl
below_typed (node n ps ks rest) above h =
    let b : Branch (List ℕ) = record { name = n; props = ps; nodes = ks } in
    let hidden : is_variable (b ∷ above) ≡ false = ap (λ t. has_type b && not t) h ∙ and_false (has_type b) in
    let more : list_any has_type (b ∷ above) ≡ true = ap (λ t. has_type b || t) h ∙ or_true (has_type b) in
    ap (λ t. cond t ((b ∷ above) ∷ filter is_variable (ways_of (b ∷ above) ks ++ ways_of above rest)) (filter is_variable (ways_of (b ∷ above) ks ++ ways_of above rest))) hidden
    ∙ filter-append is_variable (ways_of (b ∷ above) ks) (ways_of above rest)
    ∙ ap (λ l. l ++ filter is_variable (ways_of above rest)) (below_typed ks (b ∷ above) more)
    ∙ below_typed rest above h

names_longer : (b : Branch (List ℕ)) (above : Way) → names_on (b ∷ above) ≡ names_on above ++ b.name ∷ []
names_longer b above = reverse-append (b.name ∷ []) (map (λ (x : Branch (List ℕ)). x.name) above)

-- the variables that a forest holds
abbrev in_order : Way → Forest (List ℕ) → List (Result Var LayoutError)
in_order above f = map variable_at (filter is_variable (ways_of above f))

abbrev on_the_way : Way → Forest (List ℕ) → List (Result Var LayoutError)
on_the_way above f = map of_path (typed_in (names_on above) f)

module _ (b : Branch (List ℕ)) (above : Way) (untyped : list_any has_type above ≡ false) (rest : Forest (List ℕ)) (later : in_order above rest ≡ on_the_way above rest) where
  abbrev tail : List Way
  tail = ways_of (b ∷ above) b.nodes ++ ways_of above rest

  met_typed : has_type b ≡ true → in_order above (grow b rest) ≡ on_the_way above (grow b rest)
  met_typed e =
      let shown : is_variable (b ∷ above) ≡ true = ap (λ t. t && not (list_any has_type above)) e ∙ ap not untyped in
      let more : list_any has_type (b ∷ above) ≡ true = ap (λ t. t || list_any has_type above) e in
      let rest_is : filter is_variable tail ≡ filter is_variable (ways_of above rest) =
      filter-append is_variable (ways_of (b ∷ above) b.nodes) (ways_of above rest)
      ∙ ap (λ l. l ++ filter is_variable (ways_of above rest)) (below_typed b.nodes (b ∷ above) more) in
      ap (λ t. map variable_at (cond t ((b ∷ above) ∷ filter is_variable tail) (filter is_variable tail))) shown
      ∙ ap (λ l. variable_at (b ∷ above) ∷ map variable_at l) rest_is
      ∙ ap (λ l. variable_at (b ∷ above) ∷ l) later
      ∙ ap (λ p. variable_of p b ∷ on_the_way above rest) (names_longer b above)
      ∙ sym (ap (λ t. map of_path (cond t ((names_on above ++ b.name ∷ [], b) ∷ []) (typed_in (names_on above ++ b.name ∷ []) b.nodes) ++ typed_in (names_on above) rest)) e)

  met_untyped : has_type b ≡ false → (list_any has_type (b ∷ above) ≡ false → in_order (b ∷ above) b.nodes ≡ on_the_way (b ∷ above) b.nodes) → in_order above (grow b rest) ≡ on_the_way above (grow b rest)
  met_untyped e inner =
      let hidden : is_variable (b ∷ above) ≡ false = ap (λ t. t && not (list_any has_type above)) e in
      let more : list_any has_type (b ∷ above) ≡ false = ap (λ t. t || list_any has_type above) e ∙ untyped in
      ap (λ t. map variable_at (cond t ((b ∷ above) ∷ filter is_variable tail) (filter is_variable tail))) hidden
      ∙ ap (map variable_at) (filter-append is_variable (ways_of (b ∷ above) b.nodes) (ways_of above rest))
      ∙ map-append variable_at (filter is_variable (ways_of (b ∷ above) b.nodes)) (filter is_variable (ways_of above rest))
      ∙ ap (λ l. l ++ in_order above rest) (inner more ∙ ap (λ p. map of_path (typed_in p b.nodes)) (names_longer b above))
      ∙ ap (λ l. map of_path (typed_in (names_on above ++ b.name ∷ []) b.nodes) ++ l) later
      ∙ sym (map-append of_path (typed_in (names_on above ++ b.name ∷ []) b.nodes) (typed_in (names_on above) rest))
      ∙ sym (ap (λ t. map of_path (cond t ((names_on above ++ b.name ∷ [], b) ∷ []) (typed_in (names_on above ++ b.name ∷ []) b.nodes) ++ typed_in (names_on above) rest)) e)

  met_node : (list_any has_type (b ∷ above) ≡ false → in_order (b ∷ above) b.nodes ≡ on_the_way (b ∷ above) b.nodes) → in_order above (grow b rest) ≡ on_the_way above (grow b rest)
  met_node inner =
      elim (cases_Bool (has_type b)) [
        | inl e ↦ met_typed e
        | inr e ↦ met_untyped e inner
      ]

met : (f : Forest (List ℕ)) (above : Way) → list_any has_type above ≡ false → in_order above f ≡ on_the_way above f
met empty above h = refl
met (node n ps ks rest) above h =
    let b : Branch (List ℕ) = record { name = n; props = ps; nodes = ks } in
    met_node b above h rest (met rest above h) (λ more. met ks (b ∷ above) more)

-- the walk meets the variables in preorder
pub variables-walked : (state : Branch (List ℕ)) → variables_of state ≡ variables_below [] state
variables-walked state = ap all_ok (met state.nodes [] refl)

-- ---- results one after another

same_ok : {A E : Type 0} (r : Result A E) → r ≡ result_and_then (λ x. Ok x) r
same_ok (Ok x) = refl
same_ok (Err e) = refl

abbrev Vars : Type 0
Vars = Result (List Var) LayoutError

onto-cons : (v : Var) (r s : Vars) → result_and_then (λ xs. Ok (v ∷ xs)) (result_and_then (λ vs. onto vs s) r) ≡ result_and_then (λ vs. onto vs s) (result_and_then (λ xs. Ok (v ∷ xs)) r)
onto-cons v (Ok vs) (Ok ws) = refl
onto-cons v (Ok vs) (Err e) = refl
onto-cons v (Err e) s = refl

all_ok-append : (xs ys : List (Result Var LayoutError)) → all_ok (xs ++ ys) ≡ result_and_then (λ vs. onto vs (all_ok ys)) (all_ok xs)
all_ok-append [] ys = same_ok (all_ok ys)
all_ok-append (Ok v ∷ xs) ys = ap (result_and_then (λ vs. Ok (v ∷ vs))) (all_ok-append xs ys) ∙ onto-cons v (all_ok xs) (all_ok ys)
all_ok-append (Err e ∷ xs) ys = refl

pub onto_refused : (vars : List Var) (r : Vars) (e : LayoutError) → onto vars r ≡ Err e → r ≡ Err e
onto_refused vars (Ok vs) e h = absurd (cc)
onto_refused vars (Err x) e h = cc

-- ---- one node more

module _ (above : List (List ℕ)) (b : Branch (List ℕ)) (rest : Forest (List ℕ)) where
  head_typed : has_type b ≡ true → variables_in above (grow b rest) ≡ result_and_then (λ v. result_and_then (λ vs. Ok (v ∷ vs)) (variables_in above rest)) (variable_of (above ++ b.name ∷ []) b)
  head_typed e = ap (λ t. all_ok (map of_path (cond t ((above ++ b.name ∷ [], b) ∷ []) (typed_in (above ++ b.name ∷ []) b.nodes) ++ typed_in above rest))) e

  head_untyped : has_type b ≡ false → variables_in above (grow b rest) ≡ result_and_then (λ vs. onto vs (variables_in above rest)) (variables_in (above ++ b.name ∷ []) b.nodes)
  head_untyped e =
      ap (λ t. all_ok (map of_path (cond t ((above ++ b.name ∷ [], b) ∷ []) (typed_in (above ++ b.name ∷ []) b.nodes) ++ typed_in above rest))) e
      ∙ ap all_ok (map-append of_path (typed_in (above ++ b.name ∷ []) b.nodes) (typed_in above rest))
      ∙ all_ok-append (map of_path (typed_in (above ++ b.name ∷ []) b.nodes)) (map of_path (typed_in above rest))

push_onto : (vars : List Var) (v : Var) (r : Vars) → onto vars (result_and_then (λ vs. Ok (v ∷ vs)) r) ≡ onto (vars ++ v ∷ []) r
push_onto vars v (Ok vs) = ap (λ l. Ok l) (sym (append_assoc vars (v ∷ []) vs))
push_onto vars v (Err e) = refl

join_onto : (vars : List Var) (r s : Vars) (new : List Var) → onto vars r ≡ Ok new → onto vars (result_and_then (λ vs. onto vs s) r) ≡ onto new s
join_onto vars (Ok vs) (Ok ws) new h =
    let same : vars ++ vs ≡ new = cc in
    ap (λ l. Ok l) (sym (append_assoc vars vs ws) ∙ ap (λ l. l ++ ws) same)
join_onto vars (Ok vs) (Err e) new h = refl
join_onto vars (Err e) s new h = absurd (cc)

module _ (above : List (List ℕ)) (items : List Node) (i : ℕ) (x : Node) (inside : i < length items) (read : x ≡ get_or items i x) where
  pub now_met : variables_in above (forest (map branch_of (drop i items))) ≡ variables_in above (grow (branch_of x) (forest (map branch_of (drop (i + 1) items))))
  now_met =
      ap (λ (l : List Node). variables_in above (forest (map branch_of l))) (drop_more items i x inside ∙ ap (λ (y : Node). y ∷ drop (i + 1) items) (sym read))

  pub typed_taken : (vars : List Var) (path : List (List ℕ)) (v : Var) → path ≡ above ++ (branch_of x).name ∷ [] → has_type (branch_of x) ≡ true → variable_of path (branch_of x) ≡ Ok v
      → onto vars (variables_in above (forest (map branch_of (drop i items)))) ≡ onto (vars ++ v ∷ []) (variables_in above (forest (map branch_of (drop (i + 1) items))))
  typed_taken vars path v named typed ok =
      let is : variable_of (above ++ (branch_of x).name ∷ []) (branch_of x) ≡ Ok v = ap (λ p. variable_of p (branch_of x)) (sym named) ∙ ok in
      ap (onto vars) (now_met ∙ head_typed above (branch_of x) (forest (map branch_of (drop (i + 1) items))) typed
      ∙ ap (result_and_then (λ w. result_and_then (λ vs. Ok (w ∷ vs)) (variables_in above (forest (map branch_of (drop (i + 1) items)))))) is)
      ∙ push_onto vars v (variables_in above (forest (map branch_of (drop (i + 1) items))))

  pub typed_refused : (path : List (List ℕ)) (e : LayoutError) → path ≡ above ++ (branch_of x).name ∷ [] → has_type (branch_of x) ≡ true → variable_of path (branch_of x) ≡ Err e
      → variables_in above (forest (map branch_of (drop i items))) ≡ Err e
  typed_refused path e named typed err =
      now_met ∙ head_typed above (branch_of x) (forest (map branch_of (drop (i + 1) items))) typed
      ∙ ap (result_and_then (λ w. result_and_then (λ vs. Ok (w ∷ vs)) (variables_in above (forest (map branch_of (drop (i + 1) items)))))) (ap (λ p. variable_of p (branch_of x)) (sym named) ∙ err)

  pub untyped_taken : (vars : List Var) (path : List (List ℕ)) (new : List Var) → path ≡ above ++ (branch_of x).name ∷ [] → has_type (branch_of x) ≡ false → onto vars (variables_below path (branch_of x)) ≡ Ok new
      → onto vars (variables_in above (forest (map branch_of (drop i items)))) ≡ onto new (variables_in above (forest (map branch_of (drop (i + 1) items))))
  untyped_taken vars path new named untyped ok =
      ap (onto vars) (now_met ∙ head_untyped above (branch_of x) (forest (map branch_of (drop (i + 1) items))) untyped)
      ∙ join_onto vars (variables_below (above ++ (branch_of x).name ∷ []) (branch_of x)) (variables_in above (forest (map branch_of (drop (i + 1) items)))) new
      (ap (λ p. onto vars (variables_below p (branch_of x))) (sym named) ∙ ok)

  pub untyped_refused : (path : List (List ℕ)) (e : LayoutError) → path ≡ above ++ (branch_of x).name ∷ [] → has_type (branch_of x) ≡ false → variables_below path (branch_of x) ≡ Err e
      → variables_in above (forest (map branch_of (drop i items))) ≡ Err e
  untyped_refused path e named untyped err =
      now_met ∙ head_untyped above (branch_of x) (forest (map branch_of (drop (i + 1) items))) untyped
      ∙ ap (result_and_then (λ vs. onto vs (variables_in above (forest (map branch_of (drop (i + 1) items)))))) (ap (λ p. variables_below p (branch_of x)) (sym named) ∙ err)

-- the one error that a call hands on
pub handed_on : {T : Type 0} (P : LayoutError → Type 0) (r : Result T LayoutError) (x : LayoutError) → IsErrAnd r (λ y. y ≡ x) → (x ≢ NoMemory → P x) → IfErr r (λ e. e ≢ NoMemory → P e)
handed_on P (Ok v) x h k = absurd h
handed_on P (Err y) x h k = subst (λ z. z ≢ NoMemory → P z) (sym h) k

pub onto_none : (r : Vars) → onto [] r ≡ r
onto_none (Ok vs) = refl
onto_none (Err e) = refl
