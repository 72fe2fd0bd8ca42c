-- What a change of one slot does to the tree that the slots stand for.
use Rattle.std.proofs.Common.{◌≡◌, ◌≢◌, ℕ, ◌+◌, ◌<◌, ◌≤◌, eqb, true, false, cond, List, [], ◌∷◌, ◌++◌, length, Option, Some, None, refl, sym, ◌∙◌, ap, subst, arith, inl, inr, ◌⊎◌}
use Rattle.std.specs.Option.{option_map, option_and_then}
use Rattle.std.specs.Str.{bytes_eq}
use Rattle.std.specs.Map.{lookup}
use Rattle.std.proofs.lemmas.Bool.{cases_Bool, cases_eq, eq-eqb, ne_eqb}
use Rattle.bb_tree.specs.Node.{Forest, empty, node, Branch, grow, bare}
use Rattle.bb_tree.specs.Paths.{child_of, node_at}
use Rattle.bb_tree.specs.Merge.{in_child, reached}
use Rattle.bb_tree.specs.Spine.{nodes_under, child_table, slot_led_to, IsRising}

abbrev pub Slots : Type 0
Slots = List (ℕ × List ℕ)

pub walk_nil : (i : ℕ) (rest : Slots) (k : ℕ) → slot_led_to i rest k [] ≡ Some k
walk_nil i [] k = refl
walk_nil i (s ∷ rest) k = refl

-- the slot below i in which slot c stands
abbrev pub top : ℕ → Slots → ℕ → ℕ
top i [] c = c
top i (s ∷ rest) c = cond (eqb (top (i + 1) rest c) i) s.0 (top (i + 1) rest c)

pub top_below : (i : ℕ) (rest : Slots) (c : ℕ) → c < i → top i rest c ≡ c
top_below i [] c h = refl
top_below i (s ∷ rest) c h =
    let e = top_below (i + 1) rest c (omega arith) in
    let f = ne_eqb c i (λ q. omega arith) in
    rw (e, f)

-- `top` one slot earlier
top_here : (i : ℕ) (s : ℕ × List ℕ) (rest : Slots) (c : ℕ) → top (i + 1) rest c ≡ i
    → top i (s ∷ rest) c ≡ s.0
top_here i s rest c h = rw (eq-eqb _ _ h)

top_there : (i : ℕ) (s : ℕ × List ℕ) (rest : Slots) (c : ℕ) → top (i + 1) rest c ≢ i
    → top i (s ∷ rest) c ≡ top (i + 1) rest c
top_there i s rest c h = rw (ne_eqb _ _ h)

-- one step of a walk: into the slot at hand, or past it
pub walk_in : (i : ℕ) (s : ℕ × List ℕ) (rest : Slots) (k : ℕ) (n : List ℕ) (ns : List (List ℕ))
    → s.0 ≡ k → bytes_eq n s.1 ≡ true → slot_led_to i (s ∷ rest) k (n ∷ ns) ≡ slot_led_to (i + 1) rest i ns
walk_in i s rest k n ns e b = rw (eq-eqb _ _ e, b)

pub walk_past : (i : ℕ) (s : ℕ × List ℕ) (rest : Slots) (k : ℕ) (n : List ℕ) (ns : List (List ℕ))
    → (s.0 ≢ k) ⊎ (bytes_eq n s.1 ≡ false)
    → slot_led_to i (s ∷ rest) k (n ∷ ns) ≡ slot_led_to (i + 1) rest k (n ∷ ns)
walk_past i s rest k n ns (inl e) = rw (ne_eqb _ _ e)
walk_past i s rest k n ns (inr b) =
    elim (cases_Bool (eqb s.0 k)) [ inl e ↦ rw (e, b) | inr e ↦ rw e ]

-- the three cases of a step
pub walk_cases : (s : ℕ × List ℕ) (k : ℕ) (n : List ℕ)
    → ((s.0 ≡ k) × (bytes_eq n s.1 ≡ true)) ⊎ ((s.0 ≡ k) × (bytes_eq n s.1 ≡ false)) ⊎ (s.0 ≢ k)
walk_cases s k n =
    elim (cases_eq s.0 k) [
      | inl e ↦ elim (cases_Bool (bytes_eq n s.1)) [ inl b ↦ inl (e, b) | inr b ↦ inr (inl (e, b)) ]
      | inr e ↦ inr (inr e)
    ]

pub top_walk : (i : ℕ) (rest : Slots) (k : ℕ) (ns : List (List ℕ)) (c : ℕ) → k < i
    → slot_led_to i rest k ns ≡ Some c → top i rest c ≡ k
top_walk i [] k [] c h w = cc
top_walk i [] k (n ∷ ns) c h w = cc
top_walk i (s ∷ rest) k [] c h w = let e : k ≡ c = cc in let f : c < i = omega arith in
    top_below i (s ∷ rest) c f ∙ sym e
top_walk i (s ∷ rest) k (n ∷ ns) c h w =
    elim (walk_cases s k n) [
      | inl p ↦ top_here i s rest c (top_walk (i + 1) rest i ns c (omega arith) (sym (walk_in i s
          rest k n ns p.0 p.1) ∙ w)) ∙ p.0
      | inr q ↦ let past : slot_led_to (i + 1) rest k (n ∷ ns) ≡ Some c = elim q [
        | inl p ↦ sym (walk_past i s rest k n ns (inr p.1)) ∙ w
        | inr p ↦ sym (walk_past i s rest k n ns (inl p)) ∙ w
      ] in
          let e = top_walk (i + 1) rest k (n ∷ ns) c (omega arith) past in
          top_there i s rest c (λ f. omega arith) ∙ e
    ]

-- a walk leads to no slot before those at hand, or stays
walk_behind : (i : ℕ) (rest : Slots) (k : ℕ) (n : List ℕ) (ns : List (List ℕ)) (c : ℕ)
    → slot_led_to i rest k (n ∷ ns) ≡ Some c → i ≤ c
walk_behind i [] k n ns c w = cc
walk_behind i (s ∷ rest) k n ns c w =
    elim (walk_cases s k n) [
      | inl p ↦ inside ns (sym (walk_in i s rest k n ns p.0 p.1) ∙ w)
          (λ m ms v. walk_behind (i + 1) rest i m ms c v)
      | inr q ↦ omega (
        arith,
        walk_behind (i + 1) rest k n ns c (elim q [
          | inl p ↦ sym (walk_past i s rest k n ns (inr p.1)) ∙ w
          | inr p ↦ sym (walk_past i s rest k n ns (inl p)) ∙ w
        ]),
      )
    ]
  where
    inside : (ns : List (List ℕ)) → slot_led_to (i + 1) rest i ns ≡ Some c
        → ((m : List ℕ) (ms : List (List ℕ)) → slot_led_to (i + 1) rest i (m ∷ ms) ≡ Some c → i + 1 ≤ c)
        → i ≤ c
    inside [] w ih = let e : i ≡ c = cc (walk_nil (i + 1) rest i) in omega arith
    inside (m ∷ ms) w ih = omega (arith, ih m ms w)

module _ {V : Type 0} where
  -- the first of `nodes_under`, by whether the slot stands in k
  pub under_in : (P : ℕ → List (List ℕ × V)) (i : ℕ) (s : ℕ × List ℕ) (rest : Slots) (k : ℕ)
      → s.0 ≡ k
      → nodes_under P i (s ∷ rest) k
      ≡ node s.1 (P i) (nodes_under P (i + 1) rest i) (nodes_under P (i + 1) rest k)
  under_in P i s rest k e = rw (eq-eqb _ _ e)

  pub under_past : (P : ℕ → List (List ℕ × V)) (i : ℕ) (s : ℕ × List ℕ) (rest : Slots) (k : ℕ)
      → s.0 ≢ k → nodes_under P i (s ∷ rest) k ≡ nodes_under P (i + 1) rest k
  under_past P i s rest k e = rw (ne_eqb _ _ e)

  child_here : (n m : List ℕ) (ps : List (List ℕ × V)) (ks more : Forest V) → bytes_eq n m ≡ true
      → child_of n (node m ps ks more) ≡ Some (record { name = m; props = ps; nodes = ks })
  child_here n m ps ks more b = rw b

  child_there : (n m : List ℕ) (ps : List (List ℕ × V)) (ks more : Forest V) → bytes_eq n m ≡ false
      → child_of n (node m ps ks more) ≡ child_of n more
  child_there n m ps ks more b = rw b

  abbrev pub props_found : List (List ℕ) → Option (Branch V) → Option (List (List ℕ × V))
  props_found ns o = option_map (λ b. b.props) (option_and_then (node_at ns) o)

  -- the node that the names lead to has the properties of the slot that they lead to
  pub props-child_of : (P : ℕ → List (List ℕ × V)) (i : ℕ) (rest : Slots) (k : ℕ) (n : List ℕ)
      (ns : List (List ℕ)) →
      props_found ns (child_of n (nodes_under P i rest k)) ≡ option_map P (slot_led_to i rest k (n ∷ ns))
  props-child_of P i [] k n ns = refl
  props-child_of P i (s ∷ rest) k n ns =
      elim (walk_cases s k n) [
        | inl p ↦
            ap (λ f. props_found ns (child_of n f)) (under_in P i s rest k p.0)
            ∙ ap (props_found ns) (child_here n s.1 _ _ _ p.1)
            ∙ inside ns (λ m ms. props-child_of P (i + 1) rest i m ms)
            ∙ ap (option_map P) (sym (walk_in i s rest k n ns p.0 p.1))
        | inr q ↦ elim q [
          | inl p ↦
              ap (λ f. props_found ns (child_of n f)) (under_in P i s rest k p.0)
              ∙ ap (props_found ns) (child_there n s.1 _ _ _ p.1)
              ∙ props-child_of P (i + 1) rest k n ns
              ∙ ap (option_map P) (sym (walk_past i s rest k n ns (inr p.1)))
          | inr p ↦
              ap (λ f. props_found ns (child_of n f)) (under_past P i s rest k p)
              ∙ props-child_of P (i + 1) rest k n ns
              ∙ ap (option_map P) (sym (walk_past i s rest k n ns (inl p)))
        ]
      ]
    where
      inside : (ns : List (List ℕ)) → ((m : List ℕ) (ms : List (List ℕ))
          → props_found ms (child_of m (nodes_under P (i + 1) rest i))
          ≡ option_map P (slot_led_to (i + 1) rest i (m ∷ ms)))
          → props_found ns (Some (record {
            name = s.1;
            props = P i;
            nodes = nodes_under P (i + 1) rest i;
          })) ≡ option_map P (slot_led_to (i + 1) rest i ns)
      inside [] ih = ap (option_map P) (sym (walk_nil (i + 1) rest i))
      inside (m ∷ ms) ih = ih m ms

  -- a forest after another
  abbrev pub extend : Forest V → Forest V → Forest V
  extend empty g = g
  extend (node n ps ks rest) g = node n ps ks (extend rest g)

  pub extend-empty : (f : Forest V) → extend f empty ≡ f
  extend-empty empty = refl
  extend-empty (node n ps ks rest) = ap (node n ps ks) (extend-empty rest)

  -- the nodes under slot k, with the nodes `T k` after them
  abbrev pub grown : (ℕ → List (List ℕ × V)) → (ℕ → Forest V) → ℕ → Slots → ℕ → Forest V
  grown P T i [] k = T k
  grown P T i (s ∷ rest) k =
      cond (eqb s.0 k) (node s.1 (P i) (grown P T (i + 1) rest i) (grown P T (i + 1) rest k))
      (grown P T (i + 1) rest k)

  grown_in : (P : ℕ → List (List ℕ × V)) (T : ℕ → Forest V) (i : ℕ) (s : ℕ × List ℕ) (rest : Slots)
      (k : ℕ) → s.0 ≡ k → grown P T i (s
      ∷ rest) k ≡ node s.1 (P i) (grown P T (i + 1) rest i) (grown P T (i + 1) rest k)
  grown_in P T i s rest k e = rw (eq-eqb _ _ e)

  grown_past : (P : ℕ → List (List ℕ × V)) (T : ℕ → Forest V) (i : ℕ) (s : ℕ × List ℕ)
      (rest : Slots) (k : ℕ) → s.0 ≢ k → grown P T i (s ∷ rest) k ≡ grown P T (i + 1) rest k
  grown_past P T i s rest k e = rw (ne_eqb _ _ e)

  pub grown_none : (P : ℕ → List (List ℕ × V)) (i : ℕ) (rest : Slots) (k : ℕ)
      → nodes_under P i rest k ≡ grown P (λ _. empty) i rest k
  grown_none P i [] k = refl
  grown_none P i (s ∷ rest) k =
      elim (cases_eq s.0 k) [
        | inl e ↦
            under_in P i s rest k e
            ∙ ap (λ f. node s.1 (P i) f (nodes_under P (i + 1) rest k))
            (grown_none P (i + 1) rest i)
            ∙ ap (node s.1 (P i) (grown P (λ _. empty) (i + 1) rest i))
            (grown_none P (i + 1) rest k) ∙ sym (grown_in P _ i s rest k e)
        | inr e ↦ under_past P i s rest k e ∙ grown_none P (i + 1) rest k
            ∙ sym (grown_past P _ i s rest k e)
      ]

  -- the two differ at slot c alone
  pub record DiffersAt (c : ℕ) (P Q : ℕ → List (List ℕ × V)) (T U : ℕ → Forest V) : Type 0 where
    pub props : (j : ℕ) → j ≢ c → Q j ≡ P j
    pub nodes : (j : ℕ) → j ≢ c → U j ≡ T j

  grown_apart : (c : ℕ) (P Q : ℕ → List (List ℕ × V)) (T U : ℕ → Forest V) → DiffersAt c P Q T U
      → (i : ℕ) (rest : Slots) (k : ℕ) → k < i → top i rest c ≢ k
      → grown Q U i rest k ≡ grown P T i rest k
  grown_apart c P Q T U d i [] k h t = d.nodes k (λ e. t (sym e))
  grown_apart c P Q T U d i (s ∷ rest) k h t =
      elim (cases_eq s.0 k) [
        | inl e ↦
            let apart : top (i + 1) rest c ≢ i = λ q. t (top_here i s rest c q ∙ e) in
            let past : top (i + 1) rest c ≢ k =
            λ q. t (top_there i s rest c (λ r. omega arith) ∙ q) in
            let other : i ≢ c = λ q. apart (top_below (i + 1) rest c (omega arith) ∙ sym q) in
            grown_in Q U i s rest k e
            ∙ ap (λ p. node s.1 p (grown Q U (i + 1) rest i) (grown Q U (i + 1) rest k))
            (d.props i other)
            ∙ ap (λ f. node s.1 (P i) f (grown Q U (i + 1) rest k))
            (grown_apart c P Q T U d (i + 1) rest i (omega arith) apart)
            ∙ ap (node s.1 (P i) (grown P T (i + 1) rest i))
            (grown_apart c P Q T U d (i + 1) rest k (omega arith) past)
            ∙ sym (grown_in P T i s rest k e)
        | inr e ↦
            let past : top (i + 1) rest c ≢ k =
            λ q. t (top_there i s rest c (λ r. omega arith) ∙ q) in
            grown_past Q U i s rest k e ∙ grown_apart c P Q T U d (i + 1) rest k (omega arith) past
            ∙ sym (grown_past P T i s rest k e)
      ]

  -- under the changed slot itself the new nodes go last
  grown_here : (c : ℕ) (P Q : ℕ → List (List ℕ × V)) (T U : ℕ → Forest V) (g : Forest V)
      → DiffersAt c P Q T U → U c ≡ extend (T c) g → (i : ℕ) (rest : Slots) → c < i
      → grown Q U i rest c ≡ extend (grown P T i rest c) g
  grown_here c P Q T U g d u i [] h = u
  grown_here c P Q T U g d u i (s ∷ rest) h =
      elim (cases_eq s.0 c) [
        | inl e ↦
            grown_in Q U i s rest c e
            ∙ ap (λ p. node s.1 p (grown Q U (i + 1) rest i) (grown Q U (i + 1) rest c))
            (d.props i (λ q. omega arith))
            ∙ ap (λ f. node s.1 (P i) f (grown Q U (i + 1) rest c))
            (grown_apart c P Q T U d (i + 1) rest i (omega arith)
            (λ q. omega (arith, top_below (i + 1) rest c (omega arith))))
            ∙ ap (node s.1 (P i) (grown P T (i + 1) rest i))
            (grown_here c P Q T U g d u (i + 1) rest (omega arith))
            ∙ ap (λ f. extend f g) (sym (grown_in P T i s rest c e))
        | inr e ↦
            grown_past Q U i s rest c e ∙ grown_here c P Q T U g d u (i + 1) rest (omega arith)
            ∙ ap (λ f. extend f g) (sym (grown_past P T i s rest c e))
      ]

  in_here : (n m : List ℕ) (F : Branch V → Branch V) (ps : List (List ℕ × V)) (ks more : Forest V)
      → bytes_eq n m ≡ true → in_child n F (node m ps ks more) ≡ grow (F (record {
        name = m;
        props = ps;
        nodes = ks;
      })) more
  in_here n m F ps ks more b = rw b

  in_there : (n m : List ℕ) (F : Branch V → Branch V) (ps : List (List ℕ × V)) (ks more : Forest V)
      → bytes_eq n m ≡ false → in_child n F (node m ps ks more) ≡ node m ps ks (in_child n F more)
  in_there n m F ps ks more b = rw b

  -- a change of the slot that the names lead to is a change of the node that they lead to
  pub grown_along : (c : ℕ) (P Q : ℕ → List (List ℕ × V)) (T U : ℕ → Forest V) (g : Forest V)
      (F : Branch V → Branch V) → DiffersAt c P Q T U → U c ≡ extend (T c) g
      → ((m : List ℕ) (ks : Forest V) → F (record {
        name = m;
        props = P c;
        nodes = ks;
      }) ≡ record { name = m; props = Q c; nodes = extend ks g })
      → (i : ℕ) (rest : Slots) (k : ℕ) (n : List ℕ) (ns : List (List ℕ)) → k < i
      → slot_led_to i rest k (n ∷ ns) ≡ Some c
      → grown Q U i rest k ≡ in_child n (reached ns F) (grown P T i rest k)
  grown_along c P Q T U g F d u f i [] k n ns h w = cc
  grown_along c P Q T U g F d u f i (s ∷ rest) k n ns h w =
      elim (walk_cases s k n) [
        | inl p ↦
            let v = sym (walk_in i s rest k n ns p.0 p.1) ∙ w in
            let t = top_walk (i + 1) rest i ns c (omega arith) v in
            grown_in Q U i s rest k p.0
            ∙ ap (node s.1 (Q i) (grown Q U (i + 1) rest i))
            (grown_apart c P Q T U d (i + 1) rest k (omega arith) (λ q. omega arith))
            ∙ inside ns v (λ m ms v. grown_along c P Q T U g F d u f (i + 1) rest i m ms (omega
            arith) v)
            ∙ sym (in_here n s.1 (reached ns F) _ _ _ p.1)
            ∙ ap (in_child n (reached ns F)) (sym (grown_in P T i s rest k p.0))
        | inr q ↦ elim q [
          | inl p ↦
              let v = sym (walk_past i s rest k n ns (inr p.1)) ∙ w in
              let t = top_walk (i + 1) rest k (n ∷ ns) c (omega arith) v in
              let b = walk_behind (i + 1) rest k n ns c v in
              grown_in Q U i s rest k p.0
              ∙ ap (λ p. node s.1 p (grown Q U (i + 1) rest i) (grown Q U (i + 1) rest k))
              (d.props i (λ q. omega arith))
              ∙ ap (λ f. node s.1 (P i) f (grown Q U (i + 1) rest k))
              (grown_apart c P Q T U d (i + 1) rest i (omega arith) (λ q. omega arith))
              ∙ ap (node s.1 (P i) (grown P T (i + 1) rest i))
              (grown_along c P Q T U g F d u f (i + 1) rest k n ns (omega arith) v)
              ∙ sym (in_there n s.1 (reached ns F) _ _ _ p.1)
              ∙ ap (in_child n (reached ns F)) (sym (grown_in P T i s rest k p.0))
          | inr p ↦
              let v = sym (walk_past i s rest k n ns (inl p)) ∙ w in
              grown_past Q U i s rest k p
              ∙ grown_along c P Q T U g F d u f (i + 1) rest k n ns (omega arith) v
              ∙ ap (in_child n (reached ns F)) (sym (grown_past P T i s rest k p))
        ]
      ]
    where
      inside : (ns : List (List ℕ)) → slot_led_to (i + 1) rest i ns ≡ Some c
          → ((m : List ℕ) (ms : List (List ℕ)) → slot_led_to (i + 1) rest i (m ∷ ms) ≡ Some c
          → grown Q U (i + 1) rest i ≡ in_child m (reached ms F) (grown P T (i + 1) rest i))
          → node s.1 (Q i) (grown Q U (i + 1) rest i) (grown P T (i + 1) rest k)
          ≡ grow (reached ns F (record {
            name = s.1;
            props = P i;
            nodes = grown P T (i + 1) rest i;
          })) (grown P T (i + 1) rest k)
      inside [] w ih =
          let e : c ≡ i = cc (walk_nil (i + 1) rest i) in
          let R = grown P T (i + 1) rest k in
          subst (λ (j : ℕ). node s.1 (Q j) (grown Q U (i + 1) rest j) R
          ≡ grow (F (record { name = s.1; props = P j; nodes = grown P T (i + 1) rest j })) R) e
          (ap (λ x. node s.1 (Q c) x R) (grown_here c P Q T U g d u (i + 1) rest (omega arith))
          ∙ ap (λ b. grow b R) (sym (f s.1 (grown P T (i + 1) rest c))))
      inside (m ∷ ms) w ih =
          let b = walk_behind (i + 1) rest i m ms c w in
          ap (λ p. node s.1 p (grown Q U (i + 1) rest i) (grown P T (i + 1) rest k))
          (d.props i (λ q. omega arith))
          ∙ ap (λ f. node s.1 (P i) f (grown P T (i + 1) rest k)) (ih m ms w)

  -- one more slot at the end is a bare node after those of its parent
  pub nodes_under_push : (P : ℕ → List (List ℕ × V)) (m p : ℕ) (name : List ℕ) → P m ≡ []
      → (i : ℕ) (rest : Slots) (k : ℕ) → m ≡ i + length rest
      → nodes_under P i (rest ++ (p, name) ∷ []) k
      ≡ grown P (λ j. cond (eqb p j) (grow (bare name) empty) empty) i rest k
  nodes_under_push P m p name b i [] k h =
      let e : P i ≡ [] = ap P (omega arith) ∙ b in
      ap (λ ps. cond (eqb p k) (node name ps empty empty) empty) e
  nodes_under_push P m p name b i (s ∷ rest) k h =
      let T = λ (j : ℕ). cond (eqb p j) (grow (bare name) empty) empty in
      elim (cases_eq s.0 k) [
        | inl e ↦
            under_in P i s (rest ++ (p, name) ∷ []) k e
            ∙ ap (λ f. node s.1 (P i) f (nodes_under P (i + 1) (rest ++ (p, name) ∷ []) k))
            (nodes_under_push P m p name b (i + 1) rest i (omega arith))
            ∙ ap (node s.1 (P i) (grown P T (i + 1) rest i))
            (nodes_under_push P m p name b (i + 1) rest k (omega arith))
            ∙ sym (grown_in P T i s rest k e)
        | inr e ↦
            under_past P i s (rest ++ (p, name) ∷ []) k e
            ∙ nodes_under_push P m p name b (i + 1) rest k (omega arith)
            ∙ sym (grown_past P T i s rest k e)
      ]

  -- the tree over all slots
  abbrev pub whole : (ℕ → List (List ℕ × V)) → (ℕ → Forest V) → Slots → Branch V
  whole P T slots = record { name = []; props = P 0; nodes = grown P T 1 slots 0 }

  pub whole_along : (c : ℕ) (P Q : ℕ → List (List ℕ × V)) (T U : ℕ → Forest V) (g : Forest V)
      (F : Branch V → Branch V) → DiffersAt c P Q T U → U c ≡ extend (T c) g
      → ((m : List ℕ) (ks : Forest V) → F (record {
        name = m;
        props = P c;
        nodes = ks;
      }) ≡ record { name = m; props = Q c; nodes = extend ks g })
      → (slots : Slots) (names : List (List ℕ)) → slot_led_to 1 slots 0 names ≡ Some c
      → whole Q U slots ≡ reached names F (whole P T slots)
  whole_along c P Q T U g F d u f slots [] w =
      let e : c ≡ 0 = cc (walk_nil 1 slots 0) in
      subst (λ (j : ℕ). record { name = []; props = Q j; nodes = grown Q U 1 slots j }
      ≡ F (record { name = []; props = P j; nodes = grown P T 1 slots j })) e
      (ap (λ x. record { name = []; props = Q c; nodes = x })
      (grown_here c P Q T U g d u 1 slots (omega arith)) ∙ sym (f [] (grown P T 1 slots c)))
  whole_along c P Q T U g F d u f slots (n ∷ ns) w =
      let b = walk_behind 1 slots 0 n ns c w in
      ap (λ p. record { name = []; props = p; nodes = grown Q U 1 slots 0 })
      (d.props 0 (λ q. omega arith))
      ∙ ap (λ x. record { name = []; props = P 0; nodes = x })
      (grown_along c P Q T U g F d u f 1 slots 0 n ns (omega arith) w)

-- names that lead on in more slots lead to the same slot
pub walk_push : (i : ℕ) (rest more : Slots) (k : ℕ) (ns : List (List ℕ)) (c : ℕ)
    → slot_led_to i rest k ns ≡ Some c → slot_led_to i (rest ++ more) k ns ≡ Some c
walk_push i rest more k [] c w = walk_nil i (rest ++ more) k ∙ sym (walk_nil i rest k) ∙ w
walk_push i [] more k (n ∷ ns) c w = cc
walk_push i (s ∷ rest) more k (n ∷ ns) c w =
    elim (walk_cases s k n) [
      | inl p ↦ walk_in i s (rest ++ more) k n ns p.0 p.1
          ∙ walk_push (i + 1) rest more i ns c (sym (walk_in i s rest k n ns p.0 p.1) ∙ w)
      | inr q ↦ elim q [
        | inl p ↦ walk_past i s (rest ++ more) k n ns (inr p.1)
            ∙ walk_push (i + 1) rest more k (n ∷ ns) c
            (sym (walk_past i s rest k n ns (inr p.1)) ∙ w)
        | inr p ↦ walk_past i s (rest ++ more) k n ns (inl p)
            ∙ walk_push (i + 1) rest more k (n ∷ ns) c (sym (walk_past i s rest k n ns (inl p)) ∙ w)
      ]
    ]

pub children_in : (i : ℕ) (s : ℕ × List ℕ) (rest : Slots) (k : ℕ) → s.0 ≡ k
    → child_table i (s ∷ rest) k ≡ (s.1, i) ∷ child_table (i + 1) rest k
children_in i s rest k e = rw (eq-eqb _ _ e)

pub children_past : (i : ℕ) (s : ℕ × List ℕ) (rest : Slots) (k : ℕ) → s.0 ≢ k
    → child_table i (s ∷ rest) k ≡ child_table (i + 1) rest k
children_past i s rest k e = rw (ne_eqb _ _ e)

-- one name leads to the child of that name
pub walk_one : (i : ℕ) (rest : Slots) (k : ℕ) (n : List ℕ)
    → slot_led_to i rest k (n ∷ []) ≡ lookup (bytes_eq n) (child_table i rest k)
walk_one i [] k n = refl
walk_one i (s ∷ rest) k n =
    elim (walk_cases s k n) [
      | inl p ↦
          walk_in i s rest k n [] p.0 p.1 ∙ walk_nil (i + 1) rest i
          ∙ sym (ap (λ l. lookup (bytes_eq n) l) (children_in i s rest k p.0) ∙ (rw p.1))
      | inr q ↦ elim q [
        | inl p ↦
            walk_past i s rest k n [] (inr p.1) ∙ walk_one (i + 1) rest k n
            ∙ sym (ap (λ l. lookup (bytes_eq n) l) (children_in i s rest k p.0) ∙ (rw p.1))
        | inr p ↦
            walk_past i s rest k n [] (inl p) ∙ walk_one (i + 1) rest k n
            ∙ sym (ap (λ l. lookup (bytes_eq n) l) (children_past i s rest k p))
      ]
    ]

-- names and then one more lead to the child of the slot that the names lead to
pub walk_child : (i : ℕ) (rest : Slots) (a : ℕ) (ns : List (List ℕ)) (n : List ℕ) (k : ℕ)
    → IsRising i rest → slot_led_to i rest a ns ≡ Some k
    → slot_led_to i rest a (ns ++ n ∷ []) ≡ lookup (bytes_eq n) (child_table i rest k)
walk_child i rest a [] n k r w =
    let e : a ≡ k = cc (walk_nil i rest a) in
    walk_one i rest a n ∙ ap (λ j. lookup (bytes_eq n) (child_table i rest j)) e
walk_child i [] a (m ∷ ms) n k r w = cc
walk_child i (s ∷ rest) a (m ∷ ms) n k r w =
    elim (walk_cases s a m) [
      | inl p ↦
          let v = sym (walk_in i s rest a m ms p.0 p.1) ∙ w in
          let b : i ≤ k = behind ms v in
          walk_in i s rest a m (ms ++ n ∷ []) p.0 p.1 ∙ walk_child (i + 1) rest i ms n k r.1 v
          ∙ sym (ap (λ l. lookup (bytes_eq n) l)
          (children_past i s rest k (λ q. omega (arith, r.0))))
      | inr q ↦
          let past : (s.0 ≢ a) ⊎ (bytes_eq m s.1 ≡ false) =
          elim q [ inl p ↦ inr p.1 | inr p ↦ inl p ] in
          let v = sym (walk_past i s rest a m ms past) ∙ w in
          let b = walk_behind (i + 1) rest a m ms k v in
          walk_past i s rest a m (ms ++ n ∷ []) past ∙ walk_child (i + 1) rest a (m ∷ ms) n k r.1 v
          ∙ sym (ap (λ l. lookup (bytes_eq n) l)
          (children_past i s rest k (λ q. omega (arith, r.0))))
    ]
  where
    behind : (ms : List (List ℕ)) → slot_led_to (i + 1) rest i ms ≡ Some k → i ≤ k
    behind [] v = let e : i ≡ k = cc (walk_nil (i + 1) rest i) in omega arith
    behind (m ∷ ms) v = omega (arith, walk_behind (i + 1) rest i m ms k v)

pub IsRising_push : (i : ℕ) (rest : Slots) (s : ℕ × List ℕ) → IsRising i rest
    → s.0 < i + length rest → IsRising i (rest ++ s ∷ [])
IsRising_push i [] s r h = (omega arith, tt)
IsRising_push i (t ∷ rest) s r h = (r.0, IsRising_push (i + 1) rest s r.1 (omega arith))

-- the children after one more slot at the end
pub children_push : (i : ℕ) (rest : Slots) (s : ℕ × List ℕ) (k : ℕ)
    → child_table i (rest ++ s ∷ []) k ≡ cond (eqb s.0 k) (child_table i rest k
    ++ (s.1, i + length rest) ∷ []) (child_table i rest k)
children_push i [] s k = ap (λ j. cond (eqb s.0 k) ((s.1, j) ∷ []) []) (omega arith)
children_push i (t ∷ rest) s k =
    let e : (i + 1) + length rest ≡ i + length (t ∷ rest) = omega arith in
    let ih = children_push (i + 1) rest s k
    ∙ ap (λ j. cond (eqb s.0 k) (child_table (i + 1) rest k ++ (s.1, j) ∷ [])
    (child_table (i + 1) rest k)) e in
    elim (cases_eq t.0 k) [
      | inl p ↦ elim (cases_eq s.0 k) [
        | inl q ↦ let f = eq-eqb _ _ p in let g = eq-eqb _ _ q in
            rw (f, g) (ap (λ l. (t.1, i) ∷ l) (rw g at ih))
        | inr q ↦ let f = eq-eqb _ _ p in let g = ne_eqb _ _ q in
            rw (f, g) (ap (λ l. (t.1, i) ∷ l) (rw g at ih))
      ]
      | inr p ↦ let f = ne_eqb _ _ p in rw f ih
    ]

-- the children of a slot stand after it, within the list
pub children_behind : (i : ℕ) (rest : Slots) (k : ℕ) (n : List ℕ) (c : ℕ)
    → lookup (bytes_eq n) (child_table i rest k) ≡ Some c → (i ≤ c) × (c < i + length rest)
children_behind i [] k n c h = cc
children_behind i (s ∷ rest) k n c h =
    elim (walk_cases s k n) [
      | inl p ↦
          let e : i ≡ c =
          cc (ap (λ l. lookup (bytes_eq n) l) (children_in i s rest k p.0), cond_first p.1) in
          (omega arith, omega arith)
      | inr q ↦ elim q [
        | inl p ↦
            let v = children_behind (i + 1) rest k n c
            (sym (ap (λ l. lookup (bytes_eq n) l) (children_in i s rest k p.0) ∙ cond_next p.1)
            ∙ h) in
            (omega arith, omega arith)
        | inr p ↦
            let v = children_behind (i + 1) rest k n c
            (sym (ap (λ l. lookup (bytes_eq n) l) (children_past i s rest k p)) ∙ h) in
            (omega arith, omega arith)
      ]
    ]
  where
    cond_first : bytes_eq n s.1 ≡ true → lookup (bytes_eq n) ((s.1, i)
        ∷ child_table (i + 1) rest k) ≡ Some i
    cond_first b = rw b

    cond_next : bytes_eq n s.1 ≡ false → lookup (bytes_eq n) ((s.1, i)
        ∷ child_table (i + 1) rest k) ≡ lookup (bytes_eq n) (child_table (i + 1) rest k)
    cond_next b = rw b

module _ {V : Type 0} where
  -- the names of a walk lead to a node with the properties of its slot, and with the nodes under it
  abbrev pub LeadsTo : (ℕ → List (List ℕ × V)) → (ℕ → Forest V) → ℕ → Option (Branch V) → Type 0
  LeadsTo P N c o = (m : List ℕ) × (o ≡ Some (record { name = m; props = P c; nodes = N c }))

  child_walk : (P : ℕ → List (List ℕ × V)) (N : ℕ → Forest V) (i : ℕ) (rest : Slots)
      → IsRising i rest → ((j : ℕ) → i ≤ j → nodes_under P i rest j ≡ N j)
      → (k : ℕ) (n : List ℕ) (ns : List (List ℕ)) (c : ℕ) → slot_led_to i rest k (n ∷ ns) ≡ Some c
      → LeadsTo P N c (option_and_then (node_at ns) (child_of n (nodes_under P i rest k)))
  child_walk P N i [] r h k n ns c w = cc
  child_walk P N i (s ∷ rest) r h k n ns c w =
      let later : (j : ℕ) → i ≤ j → nodes_under P (i + 1) rest j ≡ N j =
      λ j l. sym (under_past P i s rest j (λ q. omega (arith, r.0))) ∙ h j l in
      let ih = child_walk P N (i + 1) rest r.1 (λ j l. later j (omega arith)) in
      elim (walk_cases s k n) [
        | inl p ↦
            let v = sym (walk_in i s rest k n ns p.0 p.1) ∙ w in
            let at = inside (later i (omega arith)) ns v (λ m ms v. ih i m ms c v) in (
              at.0,
              ap (λ f. option_and_then (node_at ns) (child_of n f)) (under_in P i s rest k p.0)
                  ∙ ap (option_and_then (node_at ns))
                  (child_here n s.1 (P i) (nodes_under P (i + 1) rest i)
                  (nodes_under P (i + 1) rest k) p.1) ∙ at.1,
            )
        | inr q ↦ elim q [
          | inl p ↦
              let v = sym (walk_past i s rest k n ns (inr p.1)) ∙ w in
              let at = ih k n ns c v in (
                at.0,
                ap (λ f. option_and_then (node_at ns) (child_of n f)) (under_in P i s rest k p.0)
                    ∙ ap (option_and_then (node_at ns))
                    (child_there n s.1 (P i) (nodes_under P (i + 1) rest i)
                    (nodes_under P (i + 1) rest k) p.1) ∙ at.1,
              )
          | inr p ↦
              let v = sym (walk_past i s rest k n ns (inl p)) ∙ w in
              let at = ih k n ns c v in (
                at.0,
                ap (λ f. option_and_then (node_at ns) (child_of n f))
                    (under_past P i s rest k p) ∙ at.1,
              )
        ]
      ]
    where
      inside : nodes_under P (i + 1) rest i ≡ N i → (ns : List (List ℕ))
          → slot_led_to (i + 1) rest i ns ≡ Some c
          → ((m : List ℕ) (ms : List (List ℕ)) → slot_led_to (i + 1) rest i (m ∷ ms) ≡ Some c
          → LeadsTo P N c (option_and_then (node_at ms) (child_of m (nodes_under P (i + 1) rest
          i)))) → LeadsTo P N c (node_at ns (record {
            name = s.1;
            props = P i;
            nodes = nodes_under P (i + 1) rest i;
          }))
      inside l [] v ih =
          let e : i ≡ c = cc (walk_nil (i + 1) rest i) in (
            s.1,
            ap (λ x. Some (record { name = s.1; props = P i; nodes = x })) l
                ∙ ap (λ j. Some (record { name = s.1; props = P j; nodes = N j })) e,
          )
      inside l (m ∷ ms) v ih = ih m ms v

  pub node_walk : (P : ℕ → List (List ℕ × V)) (slots : Slots) → IsRising 1 slots
      → (ns : List (List ℕ)) (c : ℕ) → slot_led_to 1 slots 0 ns ≡ Some c
      → LeadsTo P (nodes_under P 1 slots) c
      (node_at ns (record { name = []; props = P 0; nodes = nodes_under P 1 slots 0 }))
  node_walk P slots r [] c w =
      let e : 0 ≡ c = cc (walk_nil 1 slots 0) in
      ([], ap (λ j. Some (record { name = []; props = P j; nodes = nodes_under P 1 slots j })) e)
  node_walk P slots r (n ∷ ns) c w =
      child_walk P (nodes_under P 1 slots) 1 slots r (λ j l. refl) 0 n ns c w

-- where the first names lead nowhere, all lead nowhere
pub walk_lost : (i : ℕ) (rest : Slots) (k : ℕ) (ns ms : List (List ℕ)) → slot_led_to i rest k ns ≡ None
    → slot_led_to i rest k (ns ++ ms) ≡ None
walk_lost i rest k [] ms w = let e = walk_nil i rest k in cc
walk_lost i [] k (n ∷ ns) ms w = refl
walk_lost i (s ∷ rest) k (n ∷ ns) ms w =
    elim (walk_cases s k n) [
      | inl p ↦ walk_in i s rest k n (ns ++ ms) p.0 p.1
          ∙ walk_lost (i + 1) rest i ns ms (sym (walk_in i s rest k n ns p.0 p.1) ∙ w)
      | inr q ↦
          let past : (s.0 ≢ k) ⊎ (bytes_eq n s.1 ≡ false) =
          elim q [ inl p ↦ inr p.1 | inr p ↦ inl p ] in
          walk_past i s rest k n (ns ++ ms) past
          ∙ walk_lost (i + 1) rest k (n ∷ ns) ms (sym (walk_past i s rest k n ns past) ∙ w)
    ]
