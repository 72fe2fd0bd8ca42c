-- Laws of changing the node that names lead to, and of merging.
use Rattle.std.proofs.Common.{◌≡◌, ℕ, true, false, List, [], ◌∷◌, ◌++◌, Option, Some, None, refl, sym, ◌∙◌, ap, inl, inr}
use Rattle.std.specs.Option.{option_and_then}
use Rattle.std.specs.Str.{bytes_eq}
use Rattle.std.proofs.lemmas.Bool.{cases_Bool}
use Rattle.bb_tree.specs.Node.{Forest, empty, node, Branch, grow, bare}
use Rattle.bb_tree.specs.Paths.{child_of, node_at}
use Rattle.bb_tree.specs.Merge.{in_child, reached, with_child}
use Rattle.bb_tree.proofs.Spine.{extend}

module _ {V : Type 0} where
  -- the change leaves the node's name
  abbrev pub KeepsName : (Branch V → Branch V) → Type 0
  KeepsName F = (b : Branch V) → (F b).name ≡ b.name

  pub reached_keeps : (F : Branch V → Branch V) → KeepsName F → (ns : List (List ℕ)) → KeepsName (reached ns F)
  reached_keeps F h [] b = h b
  reached_keeps F h (n ∷ ns) b = refl

  pub in_here : (n m : List ℕ) (F : Branch V → Branch V) (ps : List (List ℕ × V)) (ks more : Forest V) → bytes_eq n m ≡ true → in_child n F (node m ps ks more) ≡ grow (F (record { name = m; props = ps; nodes = ks })) more
  in_here n m F ps ks more b = rw b

  pub in_there : (n m : List ℕ) (F : Branch V → Branch V) (ps : List (List ℕ × V)) (ks more : Forest V) → bytes_eq n m ≡ false → in_child n F (node m ps ks more) ≡ node m ps ks (in_child n F more)
  in_there n m F ps ks more b = rw b

  -- one change of a child after another
  in_child_then : (F G : Branch V → Branch V) → KeepsName F → (n : List ℕ) (f : Forest V) → in_child n G (in_child n F f) ≡ in_child n (λ b. G (F b)) f
  in_child_then F G h n empty = refl
  in_child_then F G h n (node m ps ks rest) =
      elim (cases_Bool (bytes_eq n m)) [
        | inl e ↦
            let b : Branch V = record { name = m; props = ps; nodes = ks } in
            ap (in_child n G) (in_here n m F ps ks rest e)
            ∙ in_here n (F b).name G (F b).props (F b).nodes rest (ap (bytes_eq n) (h b) ∙ e)
            ∙ sym (in_here n m (λ b. G (F b)) ps ks rest e)
        | inr e ↦
            ap (in_child n G) (in_there n m F ps ks rest e)
            ∙ in_there n m G ps ks (in_child n F rest) e
            ∙ ap (node m ps ks) (in_child_then F G h n rest)
            ∙ sym (in_there n m (λ b. G (F b)) ps ks rest e)
      ]

  -- the same change of a child
  in_child_ext : (F G : Branch V → Branch V) → ((b : Branch V) → F b ≡ G b) → (n : List ℕ) (f : Forest V) → in_child n F f ≡ in_child n G f
  in_child_ext F G h n empty = refl
  in_child_ext F G h n (node m ps ks rest) =
      elim (cases_Bool (bytes_eq n m)) [
        | inl e ↦ in_here n m F ps ks rest e ∙ ap (λ b. grow b rest) (h (record { name = m; props = ps; nodes = ks })) ∙ sym (in_here n m G ps ks rest e)
        | inr e ↦ in_there n m F ps ks rest e ∙ ap (node m ps ks) (in_child_ext F G h n rest) ∙ sym (in_there n m G ps ks rest e)
      ]

  pub reached_ext : (F G : Branch V → Branch V) → ((b : Branch V) → F b ≡ G b) → (ns : List (List ℕ)) (b : Branch V) → reached ns F b ≡ reached ns G b
  reached_ext F G h [] b = h b
  reached_ext F G h (n ∷ ns) b = ap (λ x. record { name = b.name; props = b.props; nodes = x }) (in_child_ext (reached ns F) (reached ns G) (reached_ext F G h ns) n b.nodes)

  -- one change after another at the same node
  pub reached_then : (F G : Branch V → Branch V) → KeepsName F → (ns : List (List ℕ)) (b : Branch V) → reached ns G (reached ns F b) ≡ reached ns (λ x. G (F x)) b
  reached_then F G h [] b = refl
  reached_then F G h (n ∷ ns) b =
      ap (λ x. record { name = b.name; props = b.props; nodes = x })
      (in_child_then (reached ns F) (reached ns G) (reached_keeps F h ns) n b.nodes
      ∙ in_child_ext (λ x. reached ns G (reached ns F x)) (reached ns (λ x. G (F x))) (reached_then F G h ns) n b.nodes)

  -- names and then more names
  pub reached-append : (F : Branch V → Branch V) (ns ms : List (List ℕ)) (b : Branch V) → reached (ns ++ ms) F b ≡ reached ns (reached ms F) b
  reached-append F [] ms b = refl
  reached-append F (n ∷ ns) ms b = ap (λ x. record { name = b.name; props = b.props; nodes = x }) (in_child_ext (reached (ns ++ ms) F) (reached ns (reached ms F)) (reached-append F ns ms) n b.nodes)

  child_here : (n m : List ℕ) (ps : List (List ℕ × V)) (ks more : Forest V) → bytes_eq n m ≡ true → child_of n (node m ps ks more) ≡ Some (record { name = m; props = ps; nodes = ks })
  child_here n m ps ks more b = rw b

  child_there : (n m : List ℕ) (ps : List (List ℕ × V)) (ks more : Forest V) → bytes_eq n m ≡ false → child_of n (node m ps ks more) ≡ child_of n more
  child_there n m ps ks more b = rw b

  -- two changes that do the same to the child of that name
  in_child_at : (F G : Branch V → Branch V) (n : List ℕ) (f : Forest V) → ((b : Branch V) → child_of n f ≡ Some b → F b ≡ G b) → in_child n F f ≡ in_child n G f
  in_child_at F G n empty h = refl
  in_child_at F G n (node m ps ks rest) h =
      elim (cases_Bool (bytes_eq n m)) [
        | inl e ↦
            let b : Branch V = record { name = m; props = ps; nodes = ks } in
            in_here n m F ps ks rest e ∙ ap (λ x. grow x rest) (h b (child_here n m ps ks rest e)) ∙ sym (in_here n m G ps ks rest e)
        | inr e ↦
            in_there n m F ps ks rest e ∙ ap (node m ps ks) (in_child_at F G n rest (λ b c. h b (child_there n m ps ks rest e ∙ c)))
            ∙ sym (in_there n m G ps ks rest e)
      ]

  -- two changes that do the same to the node that the names lead to
  pub reached_at : (F G : Branch V → Branch V) (ns : List (List ℕ)) (b : Branch V) → ((x : Branch V) → node_at ns b ≡ Some x → F x ≡ G x) → reached ns F b ≡ reached ns G b
  reached_at F G [] b h = h b refl
  reached_at F G (n ∷ ns) b h =
      ap (λ x. record { name = b.name; props = b.props; nodes = x })
      (in_child_at (reached ns F) (reached ns G) n b.nodes (λ x c. reached_at F G ns x (λ y d. h y (ap (option_and_then (node_at ns)) c ∙ d))))

  in_child_none : (n : List ℕ) (F : Branch V → Branch V) → ((b : Branch V) → F b ≡ b) → (f : Forest V) → in_child n F f ≡ f
  in_child_none n F h empty = refl
  in_child_none n F h (node m ps ks rest) =
      elim (cases_Bool (bytes_eq n m)) [
        | inl e ↦ in_here n m F ps ks rest e ∙ ap (λ x. grow x rest) (h (record { name = m; props = ps; nodes = ks }))
        | inr e ↦ in_there n m F ps ks rest e ∙ ap (node m ps ks) (in_child_none n F h rest)
      ]

  pub reached_none : (ns : List (List ℕ)) (b : Branch V) → reached ns (λ x. x) b ≡ b
  reached_none [] b = refl
  reached_none (n ∷ ns) b = ap (λ x. record { name = b.name; props = b.props; nodes = x }) (in_child_none n (reached ns (λ x. x)) (reached_none ns) b.nodes)

  -- what `with_child` leaves where the child is there, and adds where it isn't
  pub with_child_there : (n : List ℕ) (f : Forest V) (b : Branch V) → child_of n f ≡ Some b → with_child n f ≡ f
  with_child_there n empty b c = cc
  with_child_there n (node m ps ks rest) b c =
      elim (cases_Bool (bytes_eq n m)) [
        | inl e ↦ rw e
        | inr e ↦ rw e (ap (node m ps ks) (with_child_there n rest b (sym (child_there n m ps ks rest e) ∙ c)))
      ]

  pub with_child_new : (n : List ℕ) (f : Forest V) → child_of n f ≡ None → with_child n f ≡ extend f (grow (bare n) empty)
  with_child_new n empty c = refl
  with_child_new n (node m ps ks rest) c =
      elim (cases_Bool (bytes_eq n m)) [
        | inl e ↦ let d = child_here n m ps ks rest e in cc
        | inr e ↦ rw e (ap (node m ps ks) (with_child_new n rest (sym (child_there n m ps ks rest e) ∙ c)))
      ]

  and_then_ext : (o : Option (Branch V)) (f g h : Branch V → Option (Branch V)) → ((x : Branch V) → f x ≡ option_and_then h (g x)) → option_and_then f o ≡ option_and_then h (option_and_then g o)
  and_then_ext None f g h e = refl
  and_then_ext (Some x) f g h e = e x

  -- names and then more names lead on from the node that the first lead to
  pub node_at-append : (ns ms : List (List ℕ)) (b : Branch V) → node_at (ns ++ ms) b ≡ option_and_then (node_at ms) (node_at ns b)
  node_at-append [] ms b = refl
  node_at-append (n ∷ ns) ms b = and_then_ext (child_of n b.nodes) (node_at (ns ++ ms)) (node_at ns) (node_at ms) (node_at-append ns ms)
